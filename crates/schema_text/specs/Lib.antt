-- What a reader must believe, the whole reading of CREATE: `table_of` of TableTexts and
-- `create_index_head` of Heads, with all that they cite. Lists and TableFacts serve proofs.
-- All are `abbrev`: each is a step of a few lines, and a proof about one opens it alone.
pub mod Lists
pub mod Words
pub mod Cursor
pub mod Groups
pub mod Heads
pub mod ColumnTexts
pub mod Entries
pub mod Keys
pub mod TableTexts
pub mod TableFacts
