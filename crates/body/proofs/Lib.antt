-- Laws that the proofs here and in the crates above cite.
pub mod Moves
pub mod Runs
pub mod Rules
pub mod Agree
pub mod Refusing
pub mod One
pub mod Answers
pub mod Samples
pub mod Walking
pub mod Filling
pub mod Marks
