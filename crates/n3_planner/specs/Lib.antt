-- What `choose` promises is said in words of plan_choice, sql_meaning and plan_form. The definitions
-- here speak of the steps on the way.
pub mod PlannedLoops
