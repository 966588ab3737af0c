-- To be believed: what a token means, `terminal_of` (Terminals, Symbols), `value_of` (TokenValues),
-- `number_of` and `signed_value` (NumberValues). Which tokens a text has is `tokens_of` (Tokens),
-- by the first piece that fits (Pieces, Runs); `token_laws` says the same apart from how they are
-- found. A rule for one form is `unfoldable`, so that a proof opens it alone; views of a token, and
-- what goes along the bytes, are `abbrev`, and a proof sees through them.
pub mod Characters
pub mod Runs
pub mod Pieces
pub mod PieceType
pub mod Tokens
pub mod Symbols
pub mod Terminals
pub mod TokenValues
pub mod NumberValues
