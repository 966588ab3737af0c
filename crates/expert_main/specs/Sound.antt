-- What stands behind a report.
use Rattle.std.specs.Prelude.{ℕ, ◌≡◌, ◌≤◌, List, IfSome, Some, Ok}
use Rattle.std.specs.declared.option.Option.{Option}
use Rattle.expert_io.specs.Told.{File, file_of}
use Rattle.expert_report.specs.Advice.{IsSound, script_report, script_request}
use Rattle.expert_report.specs.declared.outcomes.Report.{Report}
use Rattle.expert_main.specs.Rans.{answered}
use Rattle.expert_main.specs.Run.{read, run_database}
use Rattle.expert_main.specs.Scripts.{AreOf, gathered, script_limit, total}
use Rattle.expert_main.specs.Words.{Command, command_of}

-- what is read of the files: those that the shelf tells, or any where it tells none
pub record MayRead (told : Option (List File)) (command : Command) (database : List ℕ)
    (texts : List (List ℕ)) : Type 0
  where
    pub first : IfSome told (λ files. file_of files command.database ≡ Some database)
    pub then : IfSome told (λ files. gathered files command.pieces script_limit ≡ Ok texts)
    pub own : AreOf command.pieces texts
    pub few : total texts ≤ script_limit

-- the report on what the words name; each plan in it means its statement: on every database of the
-- schema it gives the statement's rows, as often and in the asked order; and it costs no more than
-- the plan in written order; and the indexes that are recommended are just those that plans use
pub record IsReportOn (words : List (List ℕ)) (told : Option (List File)) (command : Command)
    (report : Report) : Type 0
  where
    pub named : command_of words ≡ Some command
    pub database : List ℕ
    pub texts : List (List ℕ)
    pub held : MayRead told command database texts
    pub is : script_report (read database) command.source command.percent texts ≡ Some report
    pub sound : IsSound (script_request (read database) command.source command.percent texts)
        report
    pub ran : run_database command database (Ok texts) ≡ answered command.verbose report
