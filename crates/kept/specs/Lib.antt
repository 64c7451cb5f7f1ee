-- The definitions that the contracts of `kept` cite, beside those of `sheet`.
pub mod Narrow
