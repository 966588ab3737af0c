-- To be believed: what an answer is seen as and what a reader needs of a statement and its rows
-- (Answers, Readable), and where places fit items (Places). Levels and Keys tell the steps of
-- loops and sorts to the calls inside and to plans. All are `abbrev` or records: a view computes on
-- each form.
pub mod Answers
pub mod Places
pub mod Readable
pub mod Levels
pub mod Tested
pub mod Keys
pub mod Keyed
