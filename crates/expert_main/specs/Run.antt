-- What the program answers and writes: a function of its words and of the files.
use Rattle.std.specs.Prelude.{ℕ, ◌≡◌, ◌≤◌, Bool, false, List, [], ◌∷◌, ◌++◌, length, nat_eq}
use Rattle.std.specs.Prelude.{nat_lt, codes, None, Some, Ok, Err, if◌then◌else◌}
use Rattle.std.specs.declared.option.Option.{Option}
use Rattle.std.specs.declared.result.Result.{Result}
use Rattle.std.specs.List.{starts_with}
use Rattle.schema_read.specs.Dumps.{dump_of, table_limit, table_total}
use Rattle.schema_read.specs.declared.state.State.{State}
use Rattle.expert_io.specs.Told.{File, file_of}
use Rattle.expert_report.specs.Advice.{script_report}
use Rattle.expert_report.specs.declared.outcomes.Report.{Report}
use Rattle.expert_main.specs.Lines.{usage_line, cannot_read_line, database_too_large_line}
use Rattle.expert_main.specs.Lines.{database_file_line, too_many_tables_line}
use Rattle.expert_main.specs.Lines.{too_many_candidates_line}
use Rattle.expert_main.specs.Rans.{Ran, answered, refused}
use Rattle.expert_main.specs.Scripts.{gathered, script_limit}
use Rattle.expert_main.specs.Statuses as statuses
use Rattle.expert_main.specs.Words.{Command, command_of}

-- the bytes that a database file of SQLite begins with, in place of a dump's text
abbrev pub file_header : List ℕ
file_header = codes "SQLite format 3" ++ 0 ∷ []

abbrev pub is_database_file : List ℕ → Bool
is_database_file database = starts_with nat_eq database file_header

-- how many bytes a database may have
abbrev pub database_limit : ℕ
database_limit = 67108864

-- what is read as a dump
pub record IsDump (database : List ℕ) : Type 0 where
  pub small : length database ≤ database_limit
  pub no_file : is_database_file database ≡ false

-- what a dump holds
unfoldable pub read : List ℕ → State
read database = dump_of database

abbrev pub run_report : Bool → Option Report → Ran
run_report verbose None = refused statuses.input_refused too_many_candidates_line
run_report verbose (Some report) = answered verbose report

abbrev pub run_dump : Command → State → List (List ℕ) → Ran
run_dump command dump texts =
    if nat_lt table_limit (table_total dump.schema)
    then refused statuses.input_refused too_many_tables_line
    else run_report command.verbose
    (script_report dump command.source command.percent texts)

abbrev pub run_script : Command → List ℕ → Result (List (List ℕ)) Ran → Ran
run_script command database (Err ran) = ran
run_script command database (Ok texts) = run_dump command (read database) texts

abbrev pub run_database : Command → List ℕ → Result (List (List ℕ)) Ran → Ran
run_database command database script =
    if nat_lt database_limit (length database)
    then refused statuses.input_refused database_too_large_line
    else if is_database_file database then refused statuses.input_refused database_file_line
    else run_script command database script

abbrev pub run_file : List File → Command → Option (List ℕ) → Ran
run_file files command None = refused statuses.cannot_read (cannot_read_line command.database)
run_file files command (Some database) =
    run_database command database (gathered files command.pieces script_limit)

abbrev pub run_command : List File → Option Command → Ran
run_command files None = refused statuses.usage usage_line
run_command files (Some command) = run_file files command (file_of files command.database)

-- what the program does with its words, over these files
abbrev pub run : List (List ℕ) → List File → Ran
run words files = run_command files (command_of words)
