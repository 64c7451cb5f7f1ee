-- Laws that the proofs here cite.
pub mod Flag
pub mod Least
