-- Laws that the proofs here and in the programs cite.
pub mod Putting
pub mod Spelling
pub mod One
