-- To be believed: the views of Kinds and Views, and what `others` of a term is (Masks, Marked). The
-- other definitions speak of parts of the lists that `terms` makes.
pub mod Kinds
pub mod Masks
pub mod Views
pub mod Marked
pub mod Owns
pub mod Linked
pub mod Derived
pub mod Sorts
pub mod Gathered
pub mod Sites
pub mod Listed
