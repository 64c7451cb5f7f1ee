-- The definitions that the contracts of `stream_answers` cite.
pub mod Content
pub mod Token
pub mod Walk
pub mod Modes
pub mod Body
pub mod Kept
