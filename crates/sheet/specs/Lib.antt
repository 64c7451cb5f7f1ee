-- The definitions that the contracts of `sheet` cite.
pub mod Sheet
pub mod Kept
pub mod Noted
