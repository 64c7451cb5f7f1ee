-- The laws that the proofs of the functions cite, and two theorems on the definition: `On` and `Check`.
pub mod Xor
pub mod Shift
pub mod Lists
pub mod Table
pub mod On
pub mod Check
