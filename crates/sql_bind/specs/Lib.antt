-- To be believed: `first_failure`, `bound_statement` and `needs_statement` of Binding, with the
-- clauses that they are made of (Clauses to Needs). Marks, Views and Parts speak of private types
-- alone. All are `abbrev`: each is a list or a record that proofs take apart.
pub mod Clauses
pub mod Sources
pub mod Results
pub mod Conditions
pub mod Keys
pub mod Needs
pub mod Binding
pub mod Marks
pub mod Views
pub mod Parts
