-- Laws that the proofs here and in the crates above cite.
pub mod Choice
pub mod Numbers
pub mod Magic
pub mod Units
pub mod Formed
pub mod Views
