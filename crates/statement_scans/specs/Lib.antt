-- What must be believed of scans stands in candidate_index (Scans) and plan_choice (Scans); the
-- definitions here speak of parts of the lists that `scans` makes.
pub mod Asked
pub mod Orders
pub mod Branches
pub mod Items
