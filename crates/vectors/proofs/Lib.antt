-- That it does.
pub mod Calls
