-- Laws that the proofs here and in the crates above cite.
pub mod Codes
pub mod Bounds
pub mod Inside
pub mod Signs
pub mod Reals
pub mod Known
pub mod Stands
