use Rattle.std.proofs.Common.{drop}
use Rattle.bound_rows.specs.Answers.{HasFewRows}
use Rattle.bound_rows.proofs.places.has_few_rows.Given as goal

-- all tables so far have few
abbrev pub invariant-loop-rows : goal.invariant-loop-rows
invariant-loop-rows l = HasFewRows (drop l.rows-index l.tables) → HasFewRows l.tables
