-- The definition that the contract of `checksum_call` cites.
pub mod Said
