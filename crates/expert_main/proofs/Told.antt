-- Lemmas on what the program does over the files that a shelf tells.
use Rattle.std.proofs.Common.{◌≡◌, ◌≢◌, ◌≤◌, ◌<◌, ◌⊎◌, inl, inr, ℕ, ◌^◌, ◌-◌, nat_eq, nat_lt, Bool}
use Rattle.std.proofs.Common.{true, false, List, [], Option, None, Some, IsSome, IfSome, refl, sym}
use Rattle.std.proofs.Common.{ap, ◌∙◌, subst, append-nil, arith}
use Rattle.std.proofs.lemmas.Bool.{eq-eqb, eqb-true, ltb-false, ltb-true}
use Rattle.std.specs.Prelude.{if◌then◌else◌}
use Rattle.std.specs.Io.KnownBytes.{Appends}
use Rattle.expert_io.specs.Faults.{Rose, Stood}
use Rattle.expert_io.specs.Told.{File, Lacks, file_of}
use Rattle.expert_report.specs.Reports.{refuses_some}
use Rattle.expert_main.specs.Answers.{Answers, gives}
use Rattle.expert_main.specs.Promises.{Gives, IsMissing, ReadsAsTold, RunsAsTold, Sent}
use Rattle.expert_main.specs.Rans.{Ran}
use Rattle.expert_main.specs.Refusals.{Blames, Declines, HasReason, IsOf, IsOfDatabase}
use Rattle.expert_main.specs.Refusals.{IsToldOrFailed, ran_of, status_of}
use Rattle.expert_main.specs.Run.{run, run_file}
use Rattle.expert_main.specs.Statuses.{all_planned, cannot_read, input_refused, out_of_memory}
use Rattle.expert_main.specs.Statuses.{some_refused}
use Rattle.expert_main.specs.Words.{Command, Names, command_of, database_of}
use Rattle.expert_main.specs.declared.answer.Answer.{Answer}
use Rattle.expert_main.specs.declared.refusal.Refusal.{Refusal}
use Rattle.expert_main.specs.declared.refusal.Refusal.TheVariants as refusal

stood_by : (rises room : Bool) (before after : ℕ) → nat_lt before after ≡ rises
    → nat_lt before (2 ^ 64 - 1) ≡ room → before ≤ after → Stood before after ⊎ Rose before after
stood_by true room before after r e later = inr (omega (arith, ltb-true before after r))
stood_by false true before after r e later =
    inl (omega (arith, ltb-false before after r, later), ltb-true before (2 ^ 64 - 1) e)
stood_by false false before after r e later =
    inr (omega (arith, ltb-false before (2 ^ 64 - 1) e, later))

-- a count that never falls stood or rose
stood_or_rose : (before after : ℕ) → before ≤ after → Stood before after ⊎ Rose before after
stood_or_rose before after later = stood_by _ _ before after refl refl later

-- where the shelf tells its files, the refusal is what the program does over them
missing_told : (words : List (List ℕ)) (told : Option (List File)) (why : Refusal) → IsSome told
    → IfSome told (λ files. run words files ≡ ran_of why) → status_of why ≡ cannot_read
    → IsMissing words told
missing_told words None why some does read = absurd (cc some)
missing_told words (Some files) why some does read = ap (λ (ran : Ran). ran.status) does ∙ read

told_missing : (words : List (List ℕ)) (told : Option (List File)) (why : Refusal)
    → IfSome told (λ files. run words files ≡ ran_of why) → IsMissing words told
    → status_of why ≡ cannot_read
told_missing words None why does missing = absurd missing
told_missing words (Some files) why does missing =
    sym (ap (λ (ran : Ran). ran.status) does) ∙ missing

-- what a refusal tells of reads
module _ (words : List (List ℕ)) (told : Option (List File)) (before after : ℕ) (why : Refusal)
    (reason : HasReason before after why (IfSome told (λ files. run words files ≡ ran_of why)))
    (only : IsToldOrFailed told before after why) where
  read_only : status_of why ≡ cannot_read → Stood before after ⊎ Rose before after
      → IsSome told ⊎ Rose before after → IsMissing words told ⊎ Rose before after
  read_only read (inr rose) some = inr rose
  read_only read (inl stood) (inr rose) = inr rose
  read_only read (inl stood) (inl some) =
      inl (missing_told words told why some
      (reason (λ memory. omega (arith, read, memory)) (λ _. stood)) read)

  missing_read : (reads : Bool) → nat_eq (status_of why) cannot_read ≡ reads
      → status_of why ≢ out_of_memory → IsMissing words told → status_of why ≡ cannot_read
  missing_read true e other missing = eqb-true (status_of why) cannot_read e
  missing_read false e other missing =
      let unread : status_of why ≢ cannot_read = λ read.
      absurd (cc (e, eq-eqb (status_of why) cannot_read read)) in
      told_missing words told why (reason other (λ read. absurd (unread read))) missing

  pub refusal_reads : before ≤ after → (before < after → status_of why ≡ cannot_read)
      → (Lacks told (database_of words) → status_of why ≡ cannot_read)
      → ReadsAsTold words told before after (status_of why)
  refusal_reads later failed lacks = record {
    only = λ read. read_only read (stood_or_rose before after later) (only read);
    failed = failed;
    missing = λ other missing. missing_read _ refl other missing;
    database = λ other. lacks;
  }

-- the names that a refusal may blame are some that the words name
blames_of : (words : List (List ℕ)) (names : List ℕ → Type 0) (why : Refusal)
    → ((name : List ℕ) → names name → Names words name) → IsOf names why → Blames words why
blames_of words names refusal.Usage named h = absurd h
blames_of words names refusal.DatabaseTooLarge named h = tt
blames_of words names refusal.DatabaseFile named h = tt
blames_of words names refusal.ScriptTooLarge named h = tt
blames_of words names refusal.TooManyTables named h = tt
blames_of words names refusal.TooManyCandidates named h = tt
blames_of words names (refusal.CannotRead name) named h = named name.now h
blames_of words names refusal.CannotWrite named h = absurd h
blames_of words names refusal.Memory named h = tt

-- a refusal before the script is read
module _ (words : List (List ℕ)) (told : Option (List File)) (command : Command) (before after : ℕ)
    (why : Refusal) (named : command_of words ≡ Some command)
    (reason : HasReason before after why (IfSome told
    (λ files. run_file files command (file_of files command.database) ≡ ran_of why))) where
  runs : HasReason before after why (IfSome told (λ files. run words files ≡ ran_of why))
  runs = rw named reason

  pub database_declines : IsOfDatabase command.database why → Declines words told before after why
  database_declines blames = record {
    reason = runs;
    blames = blames_of words _ why (λ name is. rw named (inl is)) blames;
  }

  pub database_reads : IsToldOrFailed told before after why → before ≤ after
      → (before < after → status_of why ≡ cannot_read)
      → (Lacks told command.database → status_of why ≡ cannot_read)
      → ReadsAsTold words told before after (status_of why)
  database_reads only later failed lacks =
      refusal_reads words told before after why runs only later failed (rw named lacks)

-- where the shelf tells its files, the answer is what the program does over them
answer_runs : (words : List (List ℕ)) (told : Option (List File)) (answer : Answer)
    → Answers words told answer → IfSome told (λ files. run words files ≡ gives answer)
answer_runs words None answer answers = tt
answer_runs words (Some files) answer answers =
    rw (answers.on.named, answers.on.held.first, answers.on.held.then)
    (answers.on.ran ∙ sym answers.given)

gives_answer : (words : List (List ℕ)) (told : Option (List File)) (out err : Sent) (ran : Ran)
    (status : ℕ) → IfSome told (λ files. run words files ≡ ran) → Gives ran out err status
    → IfSome told (λ files. Gives (run words files) out err status)
gives_answer words None out err ran status does given = tt
gives_answer words (Some files) out err ran status does given =
    subst (λ (r : Ran). Gives r out err status) (sym does) given

gives_status : (words : List (List ℕ)) (told : Option (List File)) (ran : Ran)
    → IfSome told (λ files. run words files ≡ ran)
    → IfSome told (λ files. ran.status ≡ (run words files).status)
gives_status words None ran does = tt
gives_status words (Some files) ran does = ap (λ (r : Ran). r.status) (sym does)

no_refusal : (some : Bool) (status : ℕ)
    → status ≡ (if some then some_refused else all_planned) → status ≢ input_refused
no_refusal true status is two = omega (arith, is, two)
no_refusal false status is two = omega (arith, is, two)

-- what isn't written to grows by nothing
pub silent : (held : Option (List ℕ)) → Appends held held []
silent None = tt
silent (Some bytes) = sym (append-nil bytes)

-- the answer was written whole
pub answer_told : (words : List (List ℕ)) (told : Option (List File)) (before after : ℕ)
    (out err : Sent) (answer : Answer) → Answers words told answer
    → Appends out.old out.new answer.text → Appends err.old err.new []
    → RunsAsTold words told before after out err answer.status
answer_told words told before after out err answer answers written quiet =
    let does = answer_runs words told answer answers in
    record {
      whole = λ _ _ _ _. gives_answer words told out err (gives answer) answer.status does
          (record { status_is = refl; out_is = written; err_is = quiet });
      status_is = λ _ _ _. gives_status words told (gives answer) does;
      input = λ two. absurd (no_refusal (refuses_some answers.report) answer.status
          (ap (λ (r : Ran). r.status) answers.given) two);
    }
