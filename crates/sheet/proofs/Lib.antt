-- Laws that the proofs here and in the crates above cite.
pub mod Noting
pub mod Laying
pub mod OldWord
pub mod Keeping
