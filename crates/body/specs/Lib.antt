-- The definitions that the contracts of `body` cite.
pub mod Grammar
pub mod Verdict
pub mod Reader
pub mod Marks
