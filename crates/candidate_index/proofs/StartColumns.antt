-- Columns that a start has, by number and as they are meant.
use Rattle.std.proofs.Common.{◌≡◌, ℕ, ◌+◌, ◌<◌, ◌||◌, ◌==◌, Bool, true, false, cond, not, List, []}
use Rattle.std.proofs.Common.{◌∷◌}
use Rattle.std.proofs.Common.{◌++◌, map, length, get_or, drop, refl, ap, sym, ◌∙◌}
use Rattle.std.specs.List.{AllByRecursion}
use Rattle.std.proofs.Common.{append_assoc}
use Rattle.std.proofs.lemmas.List.{map-append}
use Rattle.std.proofs.lemmas.Bool.{eqb-true, eq-eqb}
use Rattle.list_laws.specs.FirstComing.{has}
use Rattle.list_laws.proofs.Bools.{alike}
use Rattle.list_laws.proofs.Lists.{all_append, all_filter}
use Rattle.sql_meaning.specs.Schemas as plain
use Rattle.plan_choice.specs.Scans.{same_column, apart_from}
use Rattle.schema_model.specs.CreateTexts.{AreInTable}
use Rattle.schema_model.specs.PlainSchemas.{plain_index_column}
use Rattle.schema_model.specs.declared.columns.Column.{Column}
use Rattle.schema_model.specs.declared.indexes.IndexColumn.{IndexColumn}
use Rattle.candidate_index.specs.Starts.{has_column}
use Rattle.candidate_index.proofs.TreeWalks.{drop_step}

pub turned : (m n : ℕ) → (m == n) ≡ (n == m)
turned m n =
    alike (m == n) (n == m) (λ e. eq-eqb n m (sym (eqb-true m n e)))
    (λ e. eq-eqb m n (sym (eqb-true n m e)))

abbrev pub seen : List IndexColumn → List plain.IndexColumn
seen columns = map plain_index_column columns

pub has_is : (start : List IndexColumn) (c : plain.IndexColumn)
    → has same_column (seen start) c ≡ has_column c.column start
has_is [] c = refl
has_is (s ∷ ss) c =
    ap (λ b. b || has same_column (seen ss) c) (turned s.column c.column)
    ∙ ap (λ b. (c.column == s.column) || b) (has_is ss c)

apart_cons : (start rest : List IndexColumn) (c : IndexColumn) (b : Bool)
    → has_column c.column start ≡ b
    → apart_from (seen start) (seen (c ∷ rest))
    ≡ cond (not b) (plain_index_column c ∷ apart_from (seen start) (seen rest))
    (apart_from (seen start) (seen rest))
apart_cons start rest c b e =
    ap (λ k. cond (not k) (plain_index_column c ∷ apart_from (seen start) (seen rest))
    (apart_from (seen start) (seen rest))) (has_is start (plain_index_column c) ∙ e)

-- a column that the start has is left out, and any other stays
pub apart_there : (start others : List IndexColumn) (i : ℕ) (d : IndexColumn) → i < length others
    → has_column (get_or others i d).column start ≡ true
    → apart_from (seen start) (seen (drop i others))
    ≡ apart_from (seen start) (seen (drop (i + 1) others))
apart_there start others i d l e =
    ap (λ (x : List IndexColumn). apart_from (seen start) (seen x)) (drop_step others i d l)
    ∙ apart_cons start (drop (i + 1) others) (get_or others i d) true e

pub apart_new : (start others : List IndexColumn) (i : ℕ) (d : IndexColumn) → i < length others
    → has_column (get_or others i d).column start ≡ false
    → apart_from (seen start) (seen (drop i others))
    ≡ plain_index_column (get_or others i d) ∷ apart_from (seen start) (seen (drop (i + 1) others))
apart_new start others i d l e =
    ap (λ (x : List IndexColumn). apart_from (seen start) (seen x)) (drop_step others i d l)
    ∙ apart_cons start (drop (i + 1) others) (get_or others i d) false e

-- turns of the loop that puts columns behind a start
pub then_there : (start others list after : List IndexColumn) (i : ℕ) (d : IndexColumn)
    (whole : List plain.IndexColumn) → i < length others
    → has_column (get_or others i d).column start ≡ true → after ≡ list
    → seen list ++ apart_from (seen start) (seen (drop i others)) ≡ whole
    → seen after ++ apart_from (seen start) (seen (drop (i + 1) others)) ≡ whole
then_there start others list after i d whole l e f h =
    ap (λ (x : List IndexColumn). seen x ++ apart_from (seen start) (seen (drop (i + 1) others))) f
    ∙ ap (λ (x : List plain.IndexColumn). seen list ++ x) (sym (apart_there start others i d l e))
    ∙ h

pub then_new : (start others list after : List IndexColumn) (i : ℕ) (d : IndexColumn)
    (whole : List plain.IndexColumn) → i < length others
    → has_column (get_or others i d).column start ≡ false
    → after ≡ list ++ get_or others i d ∷ []
    → seen list ++ apart_from (seen start) (seen (drop i others)) ≡ whole
    → seen after ++ apart_from (seen start) (seen (drop (i + 1) others)) ≡ whole
then_new start others list after i d whole l e f h =
    let rest = apart_from (seen start) (seen (drop (i + 1) others)) in
    let last = plain_index_column (get_or others i d) in
    ap (λ (x : List IndexColumn). seen x ++ rest) f
    ∙ ap (λ (x : List plain.IndexColumn). x ++ rest)
    (map-append plain_index_column list (get_or others i d ∷ []))
    ∙ append_assoc (seen list) (last ∷ []) rest
    ∙ ap (λ (x : List plain.IndexColumn). seen list ++ x) (sym (apart_new start others i d l e))
    ∙ h

abbrev pub AreBelow : ℕ → List plain.IndexColumn → Type 0
AreBelow n columns = AllByRecursion (λ c. c.column < n) columns

pub below_of : (table : List Column) (columns : List IndexColumn) → AreInTable table columns
    → AreBelow (length table) (seen columns)
below_of table [] h = tt
below_of table (c ∷ cs) h = (h.0, below_of table cs h.1)

pub of_below : (table : List Column) (columns : List IndexColumn)
    → AreBelow (length table) (seen columns) → AreInTable table columns
of_below table [] h = tt
of_below table (c ∷ cs) h = (h.0, of_below table cs h.1)

pub below_then : (n : ℕ) (start others : List plain.IndexColumn) → AreBelow n start
    → AreBelow n others → AreBelow n (start ++ apart_from start others)
below_then n start others h k =
    all_append (λ (c : plain.IndexColumn). c.column < n) start (apart_from start others) h
    (all_filter (λ (c : plain.IndexColumn). c.column < n)
    (λ c. not (has same_column start c)) others k)
