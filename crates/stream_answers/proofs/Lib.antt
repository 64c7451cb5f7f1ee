-- Laws that the proofs here cite.
pub mod Parts
pub mod Walking
pub mod Listing
pub mod Signed
pub mod Lending
pub mod Stored
