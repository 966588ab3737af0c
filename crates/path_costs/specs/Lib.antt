-- To be believed: the views of Views, and Due. All are `abbrev` or records: a view computes on each
-- form.
pub mod Views
pub mod Due
