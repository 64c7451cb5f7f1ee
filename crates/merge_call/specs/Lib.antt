-- The definitions that the contract of `merge_call` cites.
pub mod Calls
