-- The definitions that the contract of `nest_call` cites.
pub mod Calls
