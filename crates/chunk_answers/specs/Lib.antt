-- The definitions that the contracts of `chunk_answers` cite.
pub mod Header
pub mod Events
pub mod Item
pub mod Record
pub mod Walk
pub mod Lines
pub mod Step
pub mod Judgement
