-- The definitions that the contracts of `cursor` cite.
pub mod Answer
pub mod Refusals
pub mod Reads
pub mod Text
pub mod Pieces
pub mod Answers
pub mod Lent
