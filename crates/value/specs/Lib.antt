-- The definitions that the contracts of `value` cite.
pub mod Kinds
pub mod Value
pub mod Pieces
pub mod Scalar
