-- Laws that the proofs here and in the crates above cite.
pub mod Going
pub mod One
pub mod Items
