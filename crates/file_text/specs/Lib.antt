-- The definitions that the contracts of `file_text` cite.
pub mod Chunks
pub mod Listing
pub mod Answers
