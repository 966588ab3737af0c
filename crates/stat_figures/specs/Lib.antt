-- A reader must believe the figures of `plan_choice` (Figures, GivenFigures, Logarithms), and here
-- the views into them: HeldFigures and Requests; and Sums, for logarithms below 0. The others tell
-- the steps between to the calls inside. All are `abbrev`: each is a few lines.
pub mod HeldFigures
pub mod Requests
pub mod Sums
pub mod Changes
pub mod Words
pub mod GivenCounts
