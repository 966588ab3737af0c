-- To be believed: the views of what a list is sorted by (Columns), of ends (Ends) and of parts
-- (Parts), and which lists are in order (Ordered). Sides, Keys and Seeks tell the steps of a seek to the calls inside. All are `abbrev`: a
-- view computes on each form, and a step is a few lines.
pub mod Columns
pub mod Ends
pub mod Parts
pub mod Ordered
pub mod Sides
pub mod Keys
pub mod Seeks
