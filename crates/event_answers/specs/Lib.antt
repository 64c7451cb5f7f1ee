-- The definitions that the contracts of `event_answers` cite.
pub mod Called
