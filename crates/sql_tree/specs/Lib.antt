-- To be believed: `tree_of` and `statement_tree`, which say what plain tree a borrowed one is seen
-- as. Each takes one layer off its argument, so all here are `abbrev`: a proof sees through them.
pub mod Trees
pub mod Statements
