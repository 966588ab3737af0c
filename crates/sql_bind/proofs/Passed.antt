-- What FROM is where its checks pass.
use Rattle.std.proofs.Common.{◌≡◌, ◌<◌, ◌≤◌, ℕ, Bool, true, false, nat_lt, if◌then◌else◌}
use Rattle.std.proofs.Common.{Option, None, Some, List, [], ◌∷◌, ◌++◌, map, flat_map, length}
use Rattle.std.proofs.Common.{position}
use Rattle.std.proofs.Common.{refl, ap, sym, subst, ◌∙◌, arith}
use Rattle.std.specs.List.{AllByRecursion}
use Rattle.std.proofs.lemmas.List.{length-map, append_assoc, append-nil}
use Rattle.sql_meaning.specs.Letters.{folded_bytes}
use Rattle.sql_tree.specs.Statements.{SourceTree}
use Rattle.schema_model.specs.Names.{is_name, has_name, Differ}
use Rattle.schema_model.specs.Schemas.{Schema, found_or, table_names, unread_names}
use Rattle.schema_model.proofs.Sound.{differ_between}
use Rattle.sql_names.specs.declared.faults.BindFault.{BindFault}
use Rattle.sql_names.specs.Faults.{first_failing}
use Rattle.sql_names.specs.Scopes.{IsScope}
use Rattle.sql_names.proofs.Checks.{passed_both}
use Rattle.sql_names.proofs.Tables.{position_within}
use Rattle.sql_bind.specs.Sources.{found, table_fault, table_number, table_checks, known_as}
use Rattle.sql_bind.specs.Sources.{name_check, name_checks, count_check, from_checks, named_item}
use Rattle.sql_bind.specs.Sources.{scope_of}

pub passed_one : (check : Option BindFault) (checks : List (Option BindFault))
    → first_failing (check ∷ checks) ≡ None → (check ≡ None) × (first_failing checks ≡ None)
passed_one None checks h = (refl, h)
passed_one (Some fault) checks h = absurd (cc)

at_most : (most n : ℕ) (fault : BindFault) (b : Bool) → nat_lt most n ≡ b
    → (if b then Some fault else None) ≡ None → n ≤ most
at_most most n fault true is h = absurd (cc)
at_most most n fault false is h = grind arith

-- a count that is checked
pub few : (most n : ℕ) (fault : BindFault)
    → (if nat_lt most n then Some fault else None) ≡ None → n ≤ most
few most n fault h = at_most most n fault (nat_lt most n) refl h

read_table : (n : ℕ) (name : List ℕ) (unread : Bool) (at : Option ℕ)
    → ((k : ℕ) → at ≡ Some k → k < n) → table_fault name (found_or unread at) ≡ None
    → table_number (found_or unread at) < n
read_table n name unread (Some k) within h = within k refl
read_table n name true None within h = absurd (cc)
read_table n name false None within h = absurd (cc)

table_there : (schema : Schema) (source : SourceTree)
    → table_fault source.table (found schema source) ≡ None
    → table_number (found schema source) < length schema.tables
table_there schema source h =
    let name = folded_bytes source.table in
    read_table (length schema.tables) source.table
    (has_name name (unread_names schema.unread))
    (position (is_name name) (table_names schema.tables))
    (λ k at.
    subst (λ (n : ℕ). k < n) (length-map schema.tables (λ t. folded_bytes t.name))
    (position_within (is_name name) (table_names schema.tables) k at)) h

tables_there : (schema : Schema) (sources : List SourceTree)
    → first_failing (flat_map (table_checks schema) sources) ≡ None
    → AllByRecursion (λ i. i.table < length schema.tables)
    (map (λ n. n.item) (map (named_item schema) sources))
tables_there schema [] h = tt
tables_there schema (source ∷ sources) h =
    let one = passed_one (table_fault source.table (found schema source))
    (flat_map (table_checks schema) sources) h in
    (table_there schema source one.0, tables_there schema sources one.1)

is_free : (name : List ℕ) (earlier : List (List ℕ)) (fault : BindFault) (b : Bool)
    → has_name name earlier ≡ b → (if b then Some fault else None) ≡ None
    → has_name name earlier ≡ false
is_free name earlier fault true is h = absurd (cc)
is_free name earlier fault false is h = is

names_differ : (earlier names : List (List ℕ)) → first_failing (name_checks earlier names) ≡ None
    → Differ earlier → Differ (earlier ++ map folded_bytes names)
names_differ earlier [] h differ = subst Differ (sym (append-nil earlier)) differ
names_differ earlier (name ∷ names) h differ =
    let one = passed_one (name_check earlier name)
    (name_checks (earlier ++ folded_bytes name ∷ []) names) h in
    let free = is_free (folded_bytes name) earlier _ (has_name (folded_bytes name) earlier) refl
    one.0 in
    let whole = append-nil earlier in
    let more = differ_between (folded_bytes name) earlier [] (subst Differ (sym whole) differ)
    (ap (has_name (folded_bytes name)) whole ∙ free) in
    subst Differ (append_assoc earlier (folded_bytes name ∷ []) (map folded_bytes names))
    (names_differ (earlier ++ folded_bytes name ∷ []) names one.1 more)

same_names : (schema : Schema) (sources : List SourceTree)
    → map folded_bytes (map known_as sources)
    ≡ map (λ n. folded_bytes n.name) (map (named_item schema) sources)
same_names schema [] = refl
same_names schema (source ∷ sources) =
    ap (λ names. folded_bytes (known_as source) ∷ names) (same_names schema sources)

pub counted : (schema : Schema) (sources : List SourceTree)
    → length (map (λ n. n.item) (map (named_item schema) sources)) ≡ length sources
counted schema sources =
    length-map (map (named_item schema) sources) (λ n. n.item)
    ∙ length-map sources (named_item schema)

pub from_is_scope : (schema : Schema) (sources : List SourceTree)
    → first_failing (from_checks schema sources) ≡ None → IsScope (scope_of schema sources)
from_is_scope schema sources h =
    let one = passed_one (count_check sources)
    (flat_map (table_checks schema) sources ++ name_checks [] (map known_as sources)) h in
    let both = passed_both (flat_map (table_checks schema) sources)
    (name_checks [] (map known_as sources)) one.1 in
    record {
      named = length-map (map (named_item schema) sources) (λ n. folded_bytes n.name)
          ∙ sym (length-map (map (named_item schema) sources) (λ n. n.item));
      few = rw (counted schema sources) (few 64 (length sources) _ one.0);
      tables = tables_there schema sources both.0;
      differ = subst Differ (same_names schema sources)
          (names_differ [] (map known_as sources) both.1 tt);
    }
