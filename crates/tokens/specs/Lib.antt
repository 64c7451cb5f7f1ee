-- The definitions that the contracts of `tokens` cite. In document 01's order: Walk, Single, Table, Token, Instance; Sight is
-- document 02's. Pieces only private functions cite.
pub mod Walk
pub mod Sight
pub mod Single
pub mod Table
pub mod Token
pub mod Instance
pub mod Pieces
