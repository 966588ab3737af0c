-- What `expert` promises of its status, its files and its streams. `told` are the files that the
-- shelf tells, if it does; `before` and `after` are its count of faults.
use Rattle.std.specs.Prelude.{◌≡◌, ◌≢◌, ◌⊎◌, ◌<◌, ℕ, List, IfSome, IsSomeAnd}
use Rattle.std.specs.declared.option.Option.{Option}
use Rattle.std.specs.Io.KnownBytes.{Appends}
use Rattle.expert_io.specs.Faults.{Rose, Stood}
use Rattle.expert_io.specs.Told.{File, Lacks}
use Rattle.expert_io.specs.Written.{AppendsProperPrefix}
use Rattle.expert_main.specs.Lines.{usage_line, cannot_read_line, cannot_write_line, memory_line}
use Rattle.expert_main.specs.Lines.{database_too_large_line, database_file_line}
use Rattle.expert_main.specs.Lines.{script_too_large_line, too_many_tables_line}
use Rattle.expert_main.specs.Lines.{too_many_candidates_line}
use Rattle.expert_report.specs.Reports.{text_of}
use Rattle.expert_report.specs.declared.outcomes.Report.{Report}
use Rattle.expert_main.specs.Rans.{Ran, report_status}
use Rattle.expert_main.specs.Run.{run}
use Rattle.expert_main.specs.Sound.{IsReportOn}
use Rattle.expert_main.specs.Statuses.{usage, input_refused, cannot_read, cannot_write}
use Rattle.expert_main.specs.Words.{Command, Names, database_of}
use Rattle.expert_main.specs.Statuses.{out_of_memory}

-- a sink that was lent to a call: what it held and holds, where it tells it, and its count of
-- faults
pub record Sent : Type 0 where
  pub old : Option (List ℕ)
  pub new : Option (List ℕ)
  pub before : ℕ
  pub after : ℕ

abbrev pub sent : Option (List ℕ) → Option (List ℕ) → ℕ → ℕ → Sent
sent old new before after = record { old = old; new = new; before = before; after = after }

-- the shelf tells its files, and the one whose turn it is to be read is missing
abbrev pub IsMissing : List (List ℕ) → Option (List File) → Type 0
IsMissing words told = IsSomeAnd told (λ files. (run words files).status ≡ cannot_read)

-- a line was written, or a proper prefix of it where the sink had a fault
abbrev pub WritesLine : Sent → List ℕ → Type 0
WritesLine err line =
    Appends err.old err.new line
    ⊎ (AppendsProperPrefix err.old err.new line × Rose err.before err.after)

-- the program answered and wrote just what it does over these files
pub record Gives (ran : Ran) (out err : Sent) (status : ℕ) : Type 0 where
  pub status_is : status ≡ ran.status
  pub out_is : Appends out.old out.new ran.out
  pub err_is : Appends err.old err.new ran.err

-- the status and the bytes are the stated function of the words and the files
pub record RunsAsTold (words : List (List ℕ)) (told : Option (List File)) (before after : ℕ)
    (out err : Sent) (status : ℕ) : Type 0
  where
    -- all three, where no read and no write failed and memory was found
    pub whole : Stood before after → Stood out.before out.after → Stood err.before err.after
        → status ≢ out_of_memory
        → IfSome told (λ files. Gives (run words files) out err status)
    -- the status also where standard error had a fault
    pub status_is : Stood before after → Stood out.before out.after → status ≢ out_of_memory
        → IfSome told (λ files. status ≡ (run words files).status)
    -- and whatever failed, an input is refused where it is to be, by its line
    pub input : status ≡ input_refused → IfSome told
        (λ files. ((run words files).status ≡ status) × WritesLine err (run words files).err)

-- a report was written whole
pub record Reports (words : List (List ℕ)) (told : Option (List File)) (out : Sent)
    (status : ℕ) : Type 0
  where
    pub command : Command
    pub report : Report
    pub on : IsReportOn words told command report
    pub status_is : status ≡ report_status report
    pub written : Appends out.old out.new (text_of command.verbose report)

-- a report was cut short
pub record CutsShort (words : List (List ℕ)) (told : Option (List File)) (out : Sent) : Type 0
  where
    pub command : Command
    pub report : Report
    pub on : IsReportOn words told command report
    pub prefix : AppendsProperPrefix out.old out.new (text_of command.verbose report)

-- a read failed in this call, or a file is missing, and the status tells it
pub record ReadsAsTold (words : List (List ℕ)) (told : Option (List File)) (before after : ℕ)
    (status : ℕ) : Type 0
  where
    pub only : status ≡ cannot_read → IsMissing words told ⊎ Rose before after
    pub failed : before < after → status ≡ cannot_read
    pub missing : status ≢ out_of_memory → IsMissing words told → status ≡ cannot_read
    pub database : status ≢ usage → Lacks told (database_of words) → status ≡ cannot_read

-- a write of the report failed in this call, and the status tells it
pub record WritesAsTold (words : List (List ℕ)) (told : Option (List File)) (out : Sent)
    (status : ℕ) : Type 0
  where
    pub only : status ≡ cannot_write → Rose out.before out.after
    pub failed : out.before < out.after → status ≡ cannot_write
    pub prefix : status ≡ cannot_write → CutsShort words told out

-- by what the database or the script is
abbrev pub IsInputLine : List ℕ → Type 0
IsInputLine line =
    (line ≡ database_too_large_line) ⊎ (line ≡ database_file_line)
    ⊎ (line ≡ script_too_large_line) ⊎ (line ≡ too_many_tables_line)
    ⊎ (line ≡ too_many_candidates_line)

-- the line of a status of no report; the file that can't be read is one that the words name
abbrev pub IsLineAfter : ℕ → List (List ℕ) → List ℕ → Type 0
IsLineAfter status words line =
    ((status ≡ usage) × (line ≡ usage_line))
    ⊎ ((status ≡ input_refused) × IsInputLine line)
    ⊎ ((status ≡ cannot_read)
    × ((name : List ℕ) × Names words name × (line ≡ cannot_read_line name)))
    ⊎ ((status ≡ cannot_write) × (line ≡ cannot_write_line))
    ⊎ ((status ≡ out_of_memory) × (line ≡ memory_line))

-- standard error got the one line that tells why there is no report
pub record SaysWhy (words : List (List ℕ)) (err : Sent) (status : ℕ) : Type 0 where
  pub line : List ℕ
  pub is : IsLineAfter status words line
  pub written : WritesLine err line
