-- What the contracts cite: `Crc` those of the public functions, `Helpers` those of the private ones.
pub mod Crc
pub mod Helpers
