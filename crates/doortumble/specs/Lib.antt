-- The definitions that the contracts of `doortumble` cite.
pub mod Calls
