-- To be believed: the views of Settings and Offers, and what Indexes lists. The other definitions
-- speak of the steps on the way. All but one are `abbrev`: a view computes on each form.
pub mod Indexes
pub mod Settings
pub mod Offers
pub mod Placed
pub mod Fitting
pub mod Supplies
pub mod Taking
pub mod Seeks
pub mod NextItems
pub mod Branches
pub mod Listed
