-- What a reader must believe: the texts of Faults, what is made of each statement (Readings), the
-- report on a script (Advice, with IsSound) and its text (Reports); AdviseFaults says why there is
-- none. ReadStatements brings the code's types to these. The tables of texts and what reads a whole
-- script are `unfoldable`: a goal shows their name, and a proof about a case opens them. The others
-- are `abbrev`.
pub mod Faults
pub mod Readings
pub mod Advice
pub mod Reports
pub mod AdviseFaults
pub mod ReadStatements
pub mod Planning
