-- To be believed: Scans (what scans are as plain data, and when they are of a schema), Known (the
-- indexes that candidates stand behind), Naming (the names that a schema has, and the text of
-- columns), Faults. The others name what the code keeps beside: Beginnings, Starts, StartNumbers,
-- Searches. All are `abbrev`: each is a few lines.
pub mod Scans
pub mod Known
pub mod Naming
pub mod Faults
pub mod Beginnings
pub mod Starts
pub mod StartNumbers
pub mod Searches
