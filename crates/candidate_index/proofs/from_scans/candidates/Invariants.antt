use Rattle.std.proofs.Common.{◌≡◌, drop}
use Rattle.plan_choice.specs.Candidates.{with_candidates}
use Rattle.candidate_index.specs.Scans.{scans_of}
use Rattle.candidate_index.specs.Known.{usable_indexes}
use Rattle.candidate_index.specs.Searches.{known, Finds}
use Rattle.candidate_index.proofs.from_scans.candidates.Given as goal

abbrev pub invariant-loop-statement : goal.invariant-loop-statement
invariant-loop-statement l = record {
  finds : Finds l.schema l.search;
  same : with_candidates (known l.schema l.search) (scans_of (drop l.statement-index l.scans))
      ≡ with_candidates (usable_indexes l.schema) (scans_of l.scans);
}
