-- What a reader must believe: `dump_of` of Dumps, with the rule for each kind of statement
-- (Creates, Inserts) and what these cite. Faults serves `?`.
-- All are `abbrev`: each is a step of a few lines, and a proof about one opens it alone.
pub mod Numbers
pub mod Entries
pub mod Rows
pub mod States
pub mod Autoindexes
pub mod Creates
pub mod Inserts
pub mod Faults
pub mod Dumps
