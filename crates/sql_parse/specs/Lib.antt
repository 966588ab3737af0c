-- To be believed: `Spells` and `IsSpelled`, which say what a statement is, and `first_refusal`,
-- which says what is refused before that is asked. The two relations are data with a case for each
-- alternative; a test of one token is `unfoldable`, and what goes along the tokens is `abbrev`.
pub mod Grammar
pub mod Statements
pub mod Refusals
