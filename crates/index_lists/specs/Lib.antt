-- To be believed: the views of an index's columns (SortColumns), and of rows and values that are
-- lent (Lent). All are `abbrev`: a view computes on each form.
pub mod Lent
pub mod SortColumns
