-- To be believed: the view of Prefixes, what it is that a prefix or a level shows what is defined
-- (Growing), and what a list keeps as its members come one by one (Keeping). The other definitions
-- speak of the steps on the way.
pub mod Prefixes
pub mod Growing
pub mod Outsides
pub mod Written
pub mod Keeping
pub mod Entering
pub mod Comparing
pub mod Searching
