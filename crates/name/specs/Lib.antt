-- The definitions that the contracts of `name` cite.
pub mod Hash
pub mod Name
pub mod Lookup
pub mod Pieces
