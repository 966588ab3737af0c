-- The report that was made, as what the program does.
use Rattle.std.specs.Prelude.{◌≡◌, ℕ, List, [], Some, Ok, Err}
use Rattle.expert_report.specs.Advice.{IsSound, script_report, script_request}
use Rattle.expert_main.specs.Run.{read, run_dump}
use Rattle.std.specs.declared.option.Option.{Option}
use Rattle.std.specs.declared.result.Result.{Result}
use Rattle.expert_io.specs.Told.{File}
use Rattle.expert_report.specs.declared.outcomes.Report.{Report}
use Rattle.expert_main.specs.Rans.{Ran, answered}
use Rattle.expert_main.specs.Refusals.{status_of}
use Rattle.expert_main.specs.Sound.{IsReportOn}
use Rattle.expert_main.specs.Words.{Command}
use Rattle.expert_main.specs.declared.answer.Answer.{Answer}
use Rattle.expert_main.specs.declared.refusal.Refusal.{Refusal}

abbrev pub gives : Answer → Ran
gives answer = record { status = answer.status; out = answer.text; err = [] }

-- the answer is the report on what the words name
pub record Answers (words : List (List ℕ)) (told : Option (List File)) (answer : Answer) : Type 0
  where
    pub command : Command
    pub report : Report
    pub on : IsReportOn words told command report
    pub given : gives answer ≡ answered command.verbose report

-- the status that an answer or a refusal leads to
abbrev pub status_in : Result Answer Refusal → ℕ
status_in (Ok answer) = answer.status
status_in (Err why) = status_of why

-- the answer is the report on a script over a dump
pub record Finds (command : Command) (database : List ℕ) (texts : List (List ℕ))
    (answer : Answer) : Type 0
  where
    pub report : Report
    pub is : script_report (read database) command.source command.percent texts ≡ Some report
    pub sound : IsSound (script_request (read database) command.source command.percent texts)
        report
    pub ran : run_dump command (read database) texts ≡ answered command.verbose report
    pub given : gives answer ≡ answered command.verbose report
