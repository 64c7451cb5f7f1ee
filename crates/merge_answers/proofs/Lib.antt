-- Laws that the proofs here cite.
pub mod Rules
pub mod Counts
