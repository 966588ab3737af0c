-- An index that a path may name is there, with the columns that the path asks for.
use Rattle.std.proofs.Common.{◌≡◌, ◌<◌, ◌≤◌, ◌||◌, ℕ, zero, suc, true, false, List, [], ◌∷◌}
use Rattle.std.proofs.Common.{Option, Some, None, is_some, length, map, refl, arith}
use Rattle.std.specs.Prelude.{slice_get, option_map}
use Rattle.std.proofs.lemmas.List.{length-map}
use Rattle.sql_meaning.specs.Fitting.{is_usable_on, HasColumns}
use Rattle.sql_meaning.specs.OrderState.{columns_at}
use Rattle.sql_meaning.specs.Paths.{Edge}
use Rattle.schema_model.specs.Schemas.{Schema}
use Rattle.schema_model.specs.PlainSchemas.{plain_index}
use Rattle.schema_model.specs.declared.indexes.Index.{Index}
use Rattle.plan_form.specs.Texts.{told_columns, told_column}
use Rattle.schema_model.specs.declared.tables.Table.{Table}

pub is_there : (table n : ℕ) (indexes : List Index)
    → is_usable_on table (slice_get (map plain_index indexes) n) ≡ true → n < length indexes
is_there table n [] h = absurd (let t : false ≡ true = h in cc)
is_there table zero (i ∷ is) h = omega arith
is_there table (suc n) (i ∷ is) h = omega (arith, is_there table n is h)

pub told_length : (schema : Schema) (n : ℕ) (indexes : List Index)
    → length (columns_at (slice_get (map plain_index indexes) n))
    ≡ length (told_columns schema (slice_get indexes n))
told_length schema n [] = refl
told_length schema zero (i ∷ is) = simp length-map refl
told_length schema (suc n) (i ∷ is) = told_length schema n is

pub parts_fit : (columns parts : ℕ) (low high : Option Edge) → HasColumns columns parts low high
    → parts ≤ columns
parts_fit columns parts None None h = h
parts_fit columns parts (Some l) high h = omega (arith, h)
parts_fit columns parts None (Some l) h = omega (arith, h)

pub bounds_fit : (columns parts : ℕ) (low high : Option Edge) → HasColumns columns parts low high
    → is_some low || is_some high ≡ true → parts < columns
bounds_fit columns parts None None h e = absurd (let t : false ≡ true = e in cc)
bounds_fit columns parts (Some l) high h e = h
bounds_fit columns parts None (Some l) h e = h

pub is_some_map : {X Y : Type 0} (f : X → Y) (o : Option X)
    → is_some (option_map f o) ≡ is_some o
is_some_map f None = refl
is_some_map f (Some x) = refl

pub told_are : (schema : Schema) (n : ℕ) (index : Index) (table : Table)
    → slice_get schema.indexes n ≡ Some index → slice_get schema.tables index.table ≡ Some table
    → map (λ c. told_column table c.column) index.columns
    ≡ told_columns schema (slice_get schema.indexes n)
told_are schema n index table i t = rw (i, t) refl
