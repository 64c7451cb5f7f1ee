-- Laws that the proofs here cite.
pub mod Hash
pub mod Each
pub mod Samples
