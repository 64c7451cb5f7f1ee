-- The definitions that the contracts of `merge_answers` cite.
pub mod Merged
