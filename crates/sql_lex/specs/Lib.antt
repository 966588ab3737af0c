-- To be believed: `statements_of` (Statements), `first_foreign` and `foreign_name` (Constructs)
-- with `fits` (Patterns), `has_row_value` (Rows) and `depth_of` with `depth_limit` (Depth). What
-- Rows says of windows and Depth of stacks serves proofs alone. A test of one place or one token,
-- and what a whole statement is asked for, is `unfoldable`, so that a proof opens it alone; lists
-- of such tests, and steps of a stack, are `abbrev`, and a proof sees through them.
pub mod Looks
pub mod Statements
pub mod Contexts
pub mod Patterns
pub mod Rows
pub mod Constructs
pub mod Depth
