-- To be believed: the views of Expressions, Statements and Columns, `Fits`, and `IsPlaced` of
-- Naming, whose other definitions speak of a private type. All are `abbrev`: a view computes on
-- each form, and a condition opens into its parts.
pub mod Expressions
pub mod Statements
pub mod Columns
pub mod Fits
pub mod Naming
