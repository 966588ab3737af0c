-- The refusals of the program: the status of each, and its line.
use Rattle.std.specs.Prelude.{ℕ, ◌≡◌, ◌≢◌, ◌⊎◌, List, IfSome, IsSome, Contains}
use Rattle.std.specs.declared.option.Option.{Option}
use Rattle.expert_io.specs.Faults.{Rose, Stood}
use Rattle.expert_io.specs.Told.{File}
use Rattle.expert_main.specs.Lines.{usage_line, cannot_read_line, cannot_write_line, memory_line}
use Rattle.expert_main.specs.Lines.{database_too_large_line, database_file_line}
use Rattle.expert_main.specs.Lines.{script_too_large_line, too_many_tables_line}
use Rattle.expert_main.specs.Lines.{too_many_candidates_line}
use Rattle.expert_report.specs.declared.advice.AdviseFault.{AdviseFault}
use Rattle.expert_report.specs.declared.advice.AdviseFault.TheVariants as advice
use Rattle.expert_main.specs.Rans.{Ran, refused}
use Rattle.expert_main.specs.Run.{run}
use Rattle.expert_main.specs.Words as words
use Rattle.expert_main.specs.Words.{Names, Piece}
use Rattle.expert_main.specs.Statuses as statuses
use Rattle.schema_read.specs.declared.dump.ReadDumpFault.{ReadDumpFault}
use Rattle.schema_read.specs.declared.dump.ReadDumpFault.TheVariants.{TooManyTables, Memory}
use Rattle.expert_main.specs.declared.refusal.Refusal.{Refusal}
use Rattle.expert_main.specs.declared.refusal.Refusal.TheVariants as refusal

abbrev pub status_of : Refusal → ℕ
status_of refusal.Usage = statuses.usage
status_of refusal.DatabaseTooLarge = statuses.input_refused
status_of refusal.DatabaseFile = statuses.input_refused
status_of refusal.ScriptTooLarge = statuses.input_refused
status_of refusal.TooManyTables = statuses.input_refused
status_of refusal.TooManyCandidates = statuses.input_refused
status_of (refusal.CannotRead name) = statuses.cannot_read
status_of refusal.CannotWrite = statuses.cannot_write
status_of refusal.Memory = statuses.out_of_memory

abbrev pub line_of : Refusal → List ℕ
line_of refusal.Usage = usage_line
line_of refusal.DatabaseTooLarge = database_too_large_line
line_of refusal.DatabaseFile = database_file_line
line_of refusal.ScriptTooLarge = script_too_large_line
line_of refusal.TooManyTables = too_many_tables_line
line_of refusal.TooManyCandidates = too_many_candidates_line
line_of (refusal.CannotRead name) = cannot_read_line name.now
line_of refusal.CannotWrite = cannot_write_line
line_of refusal.Memory = memory_line

-- why a dump isn't read, as a refusal
abbrev pub of_dump : ReadDumpFault → Refusal
of_dump TooManyTables = refusal.TooManyTables
of_dump Memory = refusal.Memory

-- why there is no advice, as a refusal
abbrev pub of_advice : AdviseFault → Refusal
of_advice advice.TooManyCandidates = refusal.TooManyCandidates
of_advice advice.Memory = refusal.Memory

-- what the program does where it gives up so
abbrev pub ran_of : Refusal → Ran
ran_of why = refused (status_of why) (line_of why)

-- the refusal has its reason in what the files hold, unless memory was wanting or a read failed
abbrev pub HasReason : ℕ → ℕ → Refusal → Type 0 → Type 0
HasReason before after why reason =
    status_of why ≢ statuses.out_of_memory
    → (status_of why ≡ statuses.cannot_read → Stood before after) → reason

-- a file can't be read where the shelf tells its files, or a read failed
abbrev pub IsToldOrFailed : Option (List File) → ℕ → ℕ → Refusal → Type 0
IsToldOrFailed told before after why =
    status_of why ≡ statuses.cannot_read → IsSome told ⊎ Rose before after

-- what is refused behind the words; a file that can't be read is one of these
abbrev pub IsOf : (List ℕ → Type 0) → Refusal → Type 0
IsOf names refusal.Usage = ⊥
IsOf names refusal.DatabaseTooLarge = Unit {0}
IsOf names refusal.DatabaseFile = Unit {0}
IsOf names refusal.ScriptTooLarge = Unit {0}
IsOf names refusal.TooManyTables = Unit {0}
IsOf names refusal.TooManyCandidates = Unit {0}
IsOf names (refusal.CannotRead name) = names name.now
IsOf names refusal.CannotWrite = ⊥
IsOf names refusal.Memory = Unit {0}

-- it is that of the database
abbrev pub IsOfDatabase : List ℕ → Refusal → Type 0
IsOfDatabase database why = IsOf (λ name. name ≡ database) why

-- it is one of the pieces' files
abbrev pub IsOfPieces : List Piece → Refusal → Type 0
IsOfPieces pieces why = IsOf (λ name. Contains pieces (words.File name)) why

-- a file that can't be read is one that the words name
abbrev pub Blames : List (List ℕ) → Refusal → Type 0
Blames words refusal.Usage = Unit {0}
Blames words refusal.DatabaseTooLarge = Unit {0}
Blames words refusal.DatabaseFile = Unit {0}
Blames words refusal.ScriptTooLarge = Unit {0}
Blames words refusal.TooManyTables = Unit {0}
Blames words refusal.TooManyCandidates = Unit {0}
Blames words (refusal.CannotRead name) = Names words name.now
Blames words refusal.CannotWrite = ⊥
Blames words refusal.Memory = Unit {0}

-- why no report was made, before anything was written
pub record Declines (words : List (List ℕ)) (told : Option (List File)) (before after : ℕ)
    (why : Refusal) : Type 0
  where
    pub reason : HasReason before after why (IfSome told (λ files. run words files ≡ ran_of why))
    pub blames : Blames words why
