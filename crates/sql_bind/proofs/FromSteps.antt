-- The checks of FROM before those of the other clauses.
use Rattle.std.proofs.Common.{◌≡◌, ◌≤◌, ℕ, Bool, true, false, nat_lt, if◌then◌else◌, Option, None}
use Rattle.std.proofs.Common.{Some}
use Rattle.std.proofs.Common.{Result, List, [], ◌∷◌, ◌++◌, map, flat_map, length, refl, ap, sym}
use Rattle.std.proofs.Common.{subst}
use Rattle.std.proofs.Common.{◌∙◌, arith}
use Rattle.std.proofs.lemmas.List.{length-map}
use Rattle.sql_tree.specs.Statements.{SourceTree, StatementTree, source_tree}
use Rattle.sql_tree.specs.declared.statement.Source.{Source}
use Rattle.schema_model.specs.Schemas.{Schema}
use Rattle.sql_bound.specs.Fits.{most_items}
use Rattle.sql_names.specs.declared.faults.BindFault.{BindFault}
use Rattle.sql_names.specs.declared.faults.BindFault.TheVariants.{TooManyTables}
use Rattle.sql_names.specs.Faults.{first_failing, Answers}
use Rattle.sql_names.proofs.Checks.{fails_through, fails_after, both_pass, answers_after}
use Rattle.sql_bind.specs.Clauses.{sources_of}
use Rattle.sql_bind.specs.Sources.{table_checks, name_checks, known_as, named_item, count_check}
use Rattle.sql_bind.specs.Sources.{from_checks, scope_of}
use Rattle.sql_bind.specs.Binding.{checks, later_checks}
use Rattle.sql_bind.proofs.Steps.{Fails, Passes}

count_none : (n : ℕ) (b : Bool) → nat_lt most_items n ≡ b → n ≤ most_items
    → (if b then Some TooManyTables else None) ≡ None
count_none n true is h = absurd (grind arith)
count_none n false is h = refl

counted : (sources : List SourceTree) → length sources ≤ most_items
    → Passes (count_check sources ∷ [])
counted sources h =
    ap (λ c. first_failing (c ∷ []))
    (count_none (length sources) (nat_lt most_items (length sources)) refl h)

-- FROM as it stands in the statement has so many tables
pub has_room : (xs : List Source) (sources : List SourceTree) → length xs ≤ most_items
    → map source_tree xs ≡ sources → length sources ≤ most_items
has_room xs sources few same =
    subst (λ (n : ℕ). n ≤ most_items)
    (sym (length-map xs source_tree) ∙ ap (λ ss. length ss) same) few

pub known_names : (schema : Schema) (sources : List SourceTree)
    → map (λ n. n.name) (map (named_item schema) sources) ≡ map known_as sources
known_names schema [] = refl
known_names schema (source ∷ sources) =
    ap (λ names. known_as source ∷ names) (known_names schema sources)

pub known_aliases : (schema : Schema) (sources : List SourceTree)
    → map (λ n. n.alias) (map (named_item schema) sources) ≡ map (λ s. s.alias) sources
known_aliases schema [] = refl
known_aliases schema (source ∷ sources) =
    ap (λ aliases. source.alias ∷ aliases) (known_aliases schema sources)

module _ (schema : Schema) (tree : StatementTree) (room : length (sources_of tree) ≤ most_items)
  where
    abbrev pub of_tables : List (Option BindFault)
    of_tables = flat_map (table_checks schema) (sources_of tree)

    abbrev pub of_names : List (Option BindFault)
    of_names = name_checks [] (map known_as (sources_of tree))

    from_fails : (fault : BindFault) → Fails fault (of_tables ++ of_names)
        → Fails fault (checks schema tree)
    from_fails fault h =
        fails_through fault (from_checks schema (sources_of tree)) _
        (fails_after fault (count_check (sources_of tree) ∷ []) (of_tables ++ of_names)
        (counted (sources_of tree) room) h)

    pub fails_tables : (fault : BindFault) → Fails fault of_tables
        → Fails fault (checks schema tree)
    fails_tables fault h = from_fails fault (fails_through fault of_tables of_names h)

    pub fails_names : (fault : BindFault) → Passes of_tables → Fails fault of_names
        → Fails fault (checks schema tree)
    fails_names fault p h = from_fails fault (fails_after fault of_tables of_names p h)

    from_passes : Passes of_tables → Passes of_names
        → Passes (from_checks schema (sources_of tree))
    from_passes p q =
        both_pass (count_check (sources_of tree) ∷ []) (of_tables ++ of_names)
        (counted (sources_of tree) room) (both_pass of_tables of_names p q)

    pub answers_later : {X Y : Type 0} (view : X → Y) (r : Result X BindFault) (meant : Y)
        → Passes of_tables → Passes of_names
        → Answers view r (later_checks (scope_of schema (sources_of tree)) tree) meant
        → Answers view r (checks schema tree) meant
    answers_later view r meant p q h =
        answers_after view r (from_checks schema (sources_of tree))
        (later_checks (scope_of schema (sources_of tree)) tree) meant meant (from_passes p q) refl h
