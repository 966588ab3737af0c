-- To be believed: `lexemes_of`, with the tables of marks and the numbers of parameters that it
-- cites. A table and what is told of one token are `unfoldable`, so that a proof opens the one that
-- it is about; what goes by cases over a form or along a list is `abbrev`, and a proof sees through
-- it.
pub mod Parameters
pub mod TokenLexemes
