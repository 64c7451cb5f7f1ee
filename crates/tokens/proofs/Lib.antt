-- Laws that the proofs here and in the crates above cite.
pub mod Runs
pub mod Fronts
pub mod Table
pub mod Kinded
pub mod Reach
pub mod Steps
pub mod Sights
