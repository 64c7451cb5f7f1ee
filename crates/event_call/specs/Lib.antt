-- The definitions that the contracts of `event_call` cite.
pub mod Calls
