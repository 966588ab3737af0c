-- Figures over a schema with candidates: what was said of the schema's own indexes is said still.
use Rattle.std.specs.List.{AllByRecursion}
use Rattle.std.proofs.Common.{◌≡◌, ◌≤◌, ℕ, zero, suc, Bool, false, List, [], ◌∷◌, ◌++◌, map, length}
use Rattle.std.proofs.Common.{take, drop, get_or, slice_get, refl, ap, ap₂, sym, ◌∙◌, subst, arith}
use Rattle.std.proofs.Common.{take-append-drop, length-append}
use Rattle.std.specs.Prelude.{slice_index_or}
use Rattle.sql_meaning.specs.Schemas as plain
use Rattle.plan_choice.specs.Figures.{Figures, figures, figures_of_indexes, index_figures}
use Rattle.plan_choice.specs.Figures.{rows_of_tables, counts_of}
use Rattle.plan_choice.specs.GivenFigures.{Names, Given, given_figures}
use Rattle.schema_model.specs.Databases.{IsDatabase}
use Rattle.schema_model.specs.PlainSchemas.{plain_database, plain_schema, plain_table}
use Rattle.schema_model.specs.Schemas.{Schema}
use Rattle.schema_model.specs.declared.indexes.Index.{Index}
use Rattle.schema_model.specs.declared.rows.Row.{Row}
use Rattle.schema_model.specs.declared.tables.Table.{Table}
use Rattle.stat_figures.specs.Requests.{uniques, names_of}
use Rattle.expert_advice.specs.Full.{IsFull}

abbrev is_unique : Index → Bool
is_unique index = index.unique

-- the schema's own indexes, and those behind them
pub own_first : (schema full : Schema) → IsFull schema full
    → full.indexes ≡ schema.indexes ++ drop (length schema.indexes) full.indexes
own_first schema full h =
    sym (take-append-drop (length schema.indexes) full.indexes)
    ∙ ap (λ (is : List Index). is ++ drop (length schema.indexes) full.indexes) h.own

none_unique : (more : List Index) (k : ℕ) → AllByRecursion (λ i. i.unique ≡ false) more
    → get_or (map is_unique more) k false ≡ false
none_unique [] zero h = refl
none_unique [] (suc k) h = refl
none_unique (i ∷ more) zero h = h.0
none_unique (i ∷ more) (suc k) h = none_unique more k h.1

none_past : (k : ℕ) → get_or {A = Bool} [] k false ≡ false
none_past zero = refl
none_past (suc k) = refl

unique_still : (own more : List Index) (k : ℕ) → AllByRecursion (λ i. i.unique ≡ false) more
    → get_or (map is_unique (own ++ more)) k false ≡ get_or (map is_unique own) k false
unique_still [] more k h = none_unique more k h ∙ sym (none_past k)
unique_still (i ∷ own) more zero h = refl
unique_still (i ∷ own) more (suc k) h = unique_still own more k h

same_uniques : (schema full : Schema) → IsFull schema full → (k : ℕ)
    → slice_index_or (uniques full) k false ≡ slice_index_or (uniques schema) k false
same_uniques schema full h k =
    ap (λ (is : List Index). get_or (map is_unique is) k false) (own_first schema full h)
    ∙ unique_still schema.indexes (drop (length schema.indexes) full.indexes) k h.plain

by_unique : (u v : List Bool) → ((k : ℕ) → slice_index_or u k false ≡ slice_index_or v k false)
    → (k : ℕ) (is : List plain.Index) (counted : List (List ℕ))
    → figures_of_indexes u k is counted ≡ figures_of_indexes v k is counted
by_unique u v same k [] counted = refl
by_unique u v same k (i ∷ is) [] = refl
by_unique u v same k (i ∷ is) (ns ∷ counted) =
    ap₂ (λ (b : Bool) (rest : List (List ℕ)). index_figures b (length i.columns) ns ∷ rest) (same k)
    (by_unique u v same (suc k) is counted)

-- candidates aren't unique, as those aren't of which nothing is said
pub counted_are : (schema full : Schema) → IsFull schema full → (database : plain.Database)
    (percent : ℕ) → figures (plain_schema full) (uniques full) database percent
    ≡ figures (plain_schema full) (uniques schema) database percent
counted_are schema full h database percent =
    let s = plain_schema full in
    let counted = map (counts_of percent database) s.indexes in
    ap (λ (is : List (List ℕ)). record {
      tables = rows_of_tables percent (length s.tables) database;
      indexes = is;
      counted = counted;
      unordered = [];
    }) (by_unique (uniques full) (uniques schema) (same_uniques schema full h) 0 s.indexes counted)

first_mapped : {X Y : Type 0} (f : X → Y) (xs ys : List X)
    → take (length xs) (map f (xs ++ ys)) ≡ take (length xs) (map f xs)
first_mapped f [] ys = refl
first_mapped {X} {Y} f (x ∷ xs) ys = ap (λ (zs : List Y). f x ∷ zs) (first_mapped f xs ys)

same_names : (schema full : Schema) → IsFull schema full
    → names_of full (length schema.indexes) ≡ names_of schema (length schema.indexes)
same_names schema full h =
    ap₂ (λ (ts : List Table) (is : List Index). record {
      tables = map (λ t. t.name) ts;
      indexes = take (length schema.indexes) (map (λ i. i.name) is);
    }) h.tables (own_first schema full h)
    ∙ ap (λ (ns : List (List ℕ)). record { tables = map (λ t. t.name) schema.tables; indexes = ns })
    (first_mapped (λ (i : Index). i.name) schema.indexes
    (drop (length schema.indexes) full.indexes))

-- no row counts for a candidate
pub given_are : (schema full : Schema) → IsFull schema full → (rows : List Given)
    (database : plain.Database) (percent : ℕ)
    → given_figures (names_of full (length schema.indexes)) rows (plain_schema full).indexes
    (figures (plain_schema full) (uniques full) database percent)
    ≡ given_figures (names_of schema (length schema.indexes)) rows (plain_schema full).indexes
    (figures (plain_schema full) (uniques schema) database percent)
given_are schema full h rows database percent =
    ap₂ (λ (names : Names) (counted : Figures).
    given_figures names rows (plain_schema full).indexes counted) (same_names schema full h)
    (counted_are schema full h database percent)

pub own_are_few : (schema full : Schema) → IsFull schema full
    → length schema.indexes ≤ length full.indexes
own_are_few schema full h =
    let both = length-append schema.indexes (drop (length schema.indexes) full.indexes) in
    let all = ap length (own_first schema full h) in omega (arith, both, all)

-- whether rows are a database depends on the tables alone
pub still_database : (schema full : Schema) (rows : List (List Row)) → IsFull schema full
    → IsDatabase schema rows → IsDatabase full rows
still_database schema full rows h d = record {
  counted = d.counted ∙ ap length (sym h.tables);
  sound = record {
    rising = d.sound.rising;
    conforms = subst (λ (ts : List Table). (table : ℕ)
        → AllByRecursion (plain.ConformsTo (slice_get (map plain_table ts) table))
        (slice_index_or (plain_database rows) table [])) (sym h.tables) d.sound.conforms;
  };
}
