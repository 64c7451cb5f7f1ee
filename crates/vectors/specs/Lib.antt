-- What each call answers on a small input.
pub mod Calls
