-- Laws that the proofs here and in the crates above cite.
pub mod Texts
pub mod Walking
pub mod One
pub mod Judging
