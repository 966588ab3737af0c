-- To be believed: `lexeme_of` alone, what a lexeme is seen as. Which statements are read is a
-- relation of the crate sql_parse, and a law there says that `whole_at` reads what it spells.
-- A part of the grammar is `unfoldable`, so that a proof opens the one that it is about and no
-- other; views, records and what puts readers together are `abbrev`, and a proof sees through them.
pub mod Lexemes
pub mod Reading
pub mod Leaves
pub mod Expressions
pub mod Parts
pub mod Limits
pub mod Statements
pub mod Lists
