-- The definition that the contract of `sheet_call` cites.
pub mod Told
