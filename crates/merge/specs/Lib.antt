-- The definitions that the contracts of `merge` cite.
pub mod Writes
pub mod Select
pub mod Rows
