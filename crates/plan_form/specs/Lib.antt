-- To be believed: what paths and plans are seen as (Paths, Plans), which plans fit a schema (Fits),
-- the scan of a table and that it means its statement (Scans), and the lines of a plan (Texts).
-- Seeks, SortedLists and LoopRows tell the steps of a walk to the calls inside. All are `abbrev` or
-- records: a view computes on each form.
pub mod Paths
pub mod Plans
pub mod Fits
pub mod Scans
pub mod Texts
pub mod Seeks
pub mod SortedLists
pub mod LoopRows
