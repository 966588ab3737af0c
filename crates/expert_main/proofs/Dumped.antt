-- Lemmas on what the program does with a dump that it read.
use Rattle.std.proofs.Common.{◌≡◌, ◌≢◌, ◌≤◌, ℕ, List, [], Option, None}
use Rattle.std.proofs.Common.{Some, refl, subst}
use Rattle.std.proofs.lemmas.Bool.{le-ltb, lt-ltb}
use Rattle.schema_read.specs.Dumps.{IsFaultOf, dump_of, table_limit, table_total}
use Rattle.schema_read.specs.declared.dump.ReadDumpFault.{ReadDumpFault}
use Rattle.schema_read.specs.declared.dump.ReadDumpFault.TheVariants.{TooManyTables, Memory}
use Rattle.schema_read.specs.declared.state.State.{State}
use Rattle.expert_report.specs.Advice.{IsSound, script_report, script_request}
use Rattle.expert_report.specs.AdviseFaults.{IsWhy}
use Rattle.expert_report.specs.declared.advice.AdviseFault.{AdviseFault}
use Rattle.expert_report.specs.declared.advice.AdviseFault.TheVariants as advice
use Rattle.expert_report.specs.declared.outcomes.Report.{Report}
use Rattle.expert_main.specs.Answers.{Finds, gives}
use Rattle.expert_main.specs.Rans.{answered}
use Rattle.expert_main.specs.Refusals.{IsOfPieces, of_advice, of_dump, ran_of, status_of}
use Rattle.expert_main.specs.Run.{read, run_dump, run_report}
use Rattle.expert_main.specs.Statuses.{out_of_memory}
use Rattle.expert_main.specs.Words.{Command}
use Rattle.expert_main.specs.declared.answer.Answer.{Answer}

-- what was read of a dump is what the dump holds
pub reads : (database : List ℕ) (dump : State) → dump ≡ dump_of database → dump ≡ read database
unfolding read
reads database dump e = e

-- a dump with too many tables is refused so
pub refuses_dump : (command : Command) (database : List ℕ) (texts : List (List ℕ))
    (fault : ReadDumpFault) → IsFaultOf (dump_of database) fault
    → status_of (of_dump fault) ≢ out_of_memory
    → run_dump command (read database) texts ≡ ran_of (of_dump fault)
unfolding read
refuses_dump command database texts TooManyTables many other =
    rw (lt-ltb table_limit (table_total (dump_of database).schema) many) refl
refuses_dump command database texts Memory many other = absurd (other refl)

-- over another the script is reported on
reported : (command : Command) (dump : State) (texts : List (List ℕ)) (report : Option Report)
    → table_total dump.schema ≤ table_limit
    → script_report dump command.source command.percent texts ≡ report
    → run_dump command dump texts ≡ run_report command.verbose report
reported command dump texts report few is =
    rw (le-ltb table_limit (table_total dump.schema) few, is) refl

-- unless there are too many candidates
pub refuses_advice : (command : Command) (dump : State) (texts : List (List ℕ))
    (fault : AdviseFault) → table_total dump.schema ≤ table_limit
    → IsWhy (script_report dump command.source command.percent texts) fault
    → status_of (of_advice fault) ≢ out_of_memory
    → run_dump command dump texts ≡ ran_of (of_advice fault)
refuses_advice command dump texts advice.TooManyCandidates few is other =
    reported command dump texts None few is
refuses_advice command dump texts advice.Memory few is other = absurd (other refl)

-- neither is for a file that can't be read
pub advice_blames : (fault : AdviseFault) → IsOfPieces [] (of_advice fault)
advice_blames advice.TooManyCandidates = tt
advice_blames advice.Memory = tt

-- the answer is the report
pub finds : (command : Command) (database : List ℕ) (texts : List (List ℕ)) (dump : State)
    (report : Report) (answer : Answer) → dump ≡ read database
    → table_total dump.schema ≤ table_limit
    → script_report dump command.source command.percent texts ≡ Some report
    → IsSound (script_request dump command.source command.percent texts) report
    → gives answer ≡ answered command.verbose report → Finds command database texts answer
finds command database texts dump report answer same few is sound given = record {
  report = report;
  is = subst (λ d. script_report d command.source command.percent texts ≡ Some report) same is;
  sound =
      subst (λ d. IsSound (script_request d command.source command.percent texts) report) same
      sound;
  ran =
      subst (λ d. run_dump command d texts ≡ answered command.verbose report) same
      (reported command dump texts (Some report) few is);
  given = given;
}
