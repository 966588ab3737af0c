-- What a run of the program answers and writes.
use Rattle.std.specs.Prelude.{ℕ, List, [], if◌then◌else◌}
use Rattle.expert_report.specs.Reports.{refuses_some, text_of}
use Rattle.expert_report.specs.declared.outcomes.Report.{Report}
use Rattle.std.specs.Prelude.{Bool}
use Rattle.expert_main.specs.Statuses as statuses

-- the exit status, and what is written to standard output and to standard error
pub record Ran : Type 0 where
  pub status : ℕ
  pub out : List ℕ
  pub err : List ℕ

abbrev pub refused : ℕ → List ℕ → Ran
refused status line = record { status = status; out = []; err = line }

abbrev pub report_status : Report → ℕ
report_status report =
    if refuses_some report then statuses.some_refused else statuses.all_planned

-- the long report or the short one
abbrev pub answered : Bool → Report → Ran
answered verbose report =
    record { status = report_status report; out = text_of verbose report; err = [] }
