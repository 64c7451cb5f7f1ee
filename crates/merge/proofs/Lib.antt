-- Laws that the proofs here cite.
pub mod Finding
pub mod Latest
pub mod Filling
pub mod Ordered
pub mod Joining
pub mod Selecting
pub mod Made
