-- To be believed: `outside`, which marks stand outside of parentheses, and the three kinds of
-- marks; all else that the laws cite is of the crates below. `outside` is `unfoldable`, since a law
-- is about what it answers; what it is made of is `abbrev`.
pub mod Outside
