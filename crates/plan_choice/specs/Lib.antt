-- In reading order, from the size of a table to the advice on a script. A reader must believe
-- `advise` of Advice and what it cites, since no other text says which plan and which indexes are
-- to be chosen; the names of candidates stand apart, in CandidateNames. The files whose names end
-- in Laws say what is proved of them.
-- A definition is an `abbrev`, so that examples compute and proofs open it unasked.
pub mod Logarithms
pub mod Figures
pub mod GivenFigures
pub mod Costs
pub mod Settings
pub mod Offers
pub mod Prefixes
pub mod Choice
pub mod Scans
pub mod Candidates
pub mod CandidateNames
pub mod Advice
pub mod OfferLaws
pub mod FitLaws
pub mod FigureLaws
pub mod ChoiceLaws
pub mod AdviceLaws
pub mod CostLaws
pub mod KeptLaws
pub mod NameLaws
