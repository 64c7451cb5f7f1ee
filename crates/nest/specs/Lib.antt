-- The definitions that the contracts of `nest` cite. Pieces and Going only private functions cite.
pub mod Nested
pub mod Pieces
pub mod Going
