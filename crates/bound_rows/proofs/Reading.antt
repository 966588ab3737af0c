-- Expressions of a statement that fits can be evaluated wherever places fit its items.
use Rattle.std.proofs.Common.{◌≡◌, ◌<◌, ℕ, zero, suc, List, [], ◌∷◌, Option, Some, None, length}
use Rattle.std.proofs.Common.{arith, ap, sym, ◌∙◌, subst, refl}
use Rattle.std.specs.Prelude.{slice_get, slice_index_or, IsSomeAnd, IfSome}
use Rattle.std.specs.List.{AllByRecursion}
use Rattle.std.proofs.lemmas.List.{length-map}
use Rattle.list_laws.proofs.Lists.{all_map}
use Rattle.sql_meaning.specs.Rows.{Row}
use Rattle.sql_meaning.specs.Items.{Item}
use Rattle.sql_meaning.specs.Schemas.{Schema, Database, columns_of}
use Rattle.sql_meaning.specs.Statements.{Bound, table_of}
use Rattle.sql_meaning.specs.Expressions.{BExpr, BExprs, Lit, Param, Column, Rowid, Plus, Collate}
use Rattle.sql_meaning.specs.Expressions.{Cmp, OneOf, Like, IsNull, Not, All, Any, Nil, More}
use Rattle.schema_model.specs.Databases.{IsDatabase}
use Rattle.schema_model.specs.Schemas.{Schema as NamedSchema}
use Rattle.schema_model.specs.PlainSchemas.{plain_schema, plain_database, plain_rows, plain_table}
use Rattle.schema_model.specs.declared.rows.Row.{Row as HeldRow}
use Rattle.sql_bound.specs.Fits.{Fits, NamesExist, AllNamesExist, width}
use Rattle.sql_eval.specs.Environments.{HasRows, AllHaveRows, IsPlace, HasColumn, placed_row}
use Rattle.sql_eval.specs.declared.environment.Place.{Place}
use Rattle.bound_rows.specs.Places.{FitPlaces, FitsItem}
use Rattle.bound_rows.specs.Readable.{IsReadable, IsReadableBound}

-- what is known of places and the tables of their items
record Known (schema : Schema) (database : Database) (items : List Item) (places : List Place)
    : Type 0
  where
    pub fit : FitPlaces database items places
    pub tables : AllByRecursion (λ i. i.table < length database) items
    pub wide : (table : ℕ)
        → AllByRecursion
        (λ row. length row.values ≡ length (columns_of (slice_get schema.tables table)))
        (slice_index_or database table [])

place_at : (database : Database) (items : List Item) (places : List Place) (i : ℕ)
    (P : Place → Type 0) → FitPlaces database items places
    → AllByRecursion (λ i. i.table < length database) items → i < length items
    → ((item : Item) (place : Place) → slice_get items i ≡ Some item → item.table < length database
    → FitsItem database item place → P place)
    → IsSomeAnd (slice_get places i) P
place_at database [] places i P fit tables lt f = absurd (omega (arith, lt))
place_at database (item ∷ items) [] i P fit tables lt f = absurd fit
place_at database (item ∷ items) (place ∷ places) zero P fit tables lt f =
    f item place refl tables.0 fit.0
place_at database (item ∷ items) (place ∷ places) (suc i) P fit tables lt f =
    place_at database items places i P fit.1 tables.1 (omega (arith, lt)) (λ j p e. f j p e)

some_rows : (database : Database) (table : ℕ) (P : List Row → Type 0) → table < length database
    → P (slice_index_or database table []) → IsSomeAnd (slice_get database table) P
some_rows [] table P lt h = absurd (omega (arith, lt))
some_rows (rows ∷ database) zero P lt h = h
some_rows (rows ∷ database) (suc table) P lt h =
    some_rows database table P (omega (arith, lt)) h

is_place : (database : Database) (item : Item) (place : Place) → item.table < length database
    → FitsItem database item place → IsPlace database place
is_place database item place lt fits =
    let below : place.table < length database = subst (λ (n : ℕ). n < length database) (sym fits.table) lt in
    some_rows database place.table (λ rows. IfSome place.row (λ row. row < length rows)) below
    (subst
    (λ (n : ℕ). IfSome place.row (λ row. row < length (slice_index_or database n [])))
    (sym fits.table) fits.row)

if_some_at : (P : Row → Type 0) (rows : List Row) (n : ℕ) → AllByRecursion P rows
    → IfSome (slice_get rows n) P
if_some_at P [] n h = tt
if_some_at P (row ∷ rows) zero h = h.0
if_some_at P (row ∷ rows) (suc n) h = if_some_at P rows n h.1

row_case : (database : Database) (table : ℕ) (row : Option ℕ) (P : Row → Type 0)
    → AllByRecursion P (slice_index_or database table [])
    → IfSome (placed_row database (record { table = table; row = row })) P
row_case database table None P h = tt
row_case database table (Some n) P h = if_some_at P (slice_index_or database table []) n h

has_column : (schema : Schema) (database : Database) (items : List Item) (item : ℕ) (i : Item)
    (place : Place) (column : ℕ)
    → ((table : ℕ)
    → AllByRecursion
    (λ row. length row.values ≡ length (columns_of (slice_get schema.tables table)))
    (slice_index_or database table []))
    → slice_get items item ≡ Some i → place.table ≡ i.table → column < width schema items item
    → HasColumn database column place
has_column schema database items item i place column wide at same lt =
    row_case database place.table place.row (λ row. column < length row.values)
    (all_map _ _ _
    (λ row e. subst (λ (n : ℕ). column < n) (sym e)
    (subst (λ (t : ℕ). column < length (columns_of (slice_get schema.tables t)))
    (ap table_of at ∙ sym same) lt)) (wide place.table))

mutual
  gives : (schema : Schema) (database : Database) (items : List Item) (places : List Place)
      (e : BExpr) → Known schema database items places → NamesExist schema items e
      → HasRows database places e
  gives schema database items places (Lit v) k h = tt
  gives schema database items places (Param number) k h = tt
  gives schema database items places (Column item column) k h =
      place_at database items places item
      (λ place. IsPlace database place × HasColumn database column place) k.fit k.tables h.0
      (λ i place at lt fits. (
        is_place database i place lt fits,
        has_column schema database items item i place column k.wide at fits.table h.1,
      ))
  gives schema database items places (Rowid item) k h =
      place_at database items places item (IsPlace database) k.fit k.tables h
      (λ i place at lt fits. is_place database i place lt fits)
  gives schema database items places (Plus e) k h = gives schema database items places e k h
  gives schema database items places (Collate e collation) k h =
      gives schema database items places e k h
  gives schema database items places (Cmp op left right left_conversion right_conversion collation)
      k h =
      (gives schema database items places left k h.0, gives schema database items places right k h.1)
  gives schema database items places (OneOf negated left entries entry_conversion collation) k h = (
    gives schema database items places left k h.0,
    all_give schema database items places entries k h.1,
  )
  gives schema database items places (Like negated e pattern) k h = (
    gives schema database items places e k h.0,
    gives schema database items places pattern k h.1,
  )
  gives schema database items places (IsNull negated e) k h =
      gives schema database items places e k h
  gives schema database items places (Not e) k h = gives schema database items places e k h
  gives schema database items places (All es) k h = all_give schema database items places es k h
  gives schema database items places (Any es) k h = all_give schema database items places es k h

  all_give : (schema : Schema) (database : Database) (items : List Item) (places : List Place)
      (es : BExprs) → Known schema database items places → AllNamesExist schema items es
      → AllHaveRows database places es
  all_give schema database items places Nil k h = tt
  all_give schema database items places (More e es) k h =
      (gives schema database items places e k h.0, all_give schema database items places es k h.1)

pub tables_there : (schema : NamedSchema) (tables : List (List HeldRow)) (bound : Bound)
    (needs : List (List ℕ))
    → Fits (plain_schema schema) bound needs → IsDatabase schema tables
    → AllByRecursion (λ i. i.table < length tables) bound.items
tables_there schema tables bound needs fits conform =
    all_map _ _ bound.items
    (λ i lt. subst (λ (n : ℕ). i.table < n)
    (length-map schema.tables plain_table ∙ sym conform.counted) lt) fits.tables

-- expressions whose names are there
pub names_readable : (schema : NamedSchema) (tables : List (List HeldRow)) (bound : Bound)
    (needs : List (List ℕ)) (e : BExpr)
    → Fits (plain_schema schema) bound needs → IsDatabase schema tables
    → NamesExist (plain_schema schema) bound.items e
    → IsReadable (plain_database tables) bound.items e
names_readable schema tables bound needs e fits conform h = record {
  gives = λ places fit.
      gives (plain_schema schema) (plain_database tables) bound.items places e
      (record {
        fit = fit;
        tables = all_map _ _ bound.items
            (λ i lt. subst (λ (n : ℕ). i.table < n) (sym (length-map tables plain_rows)) lt)
            (tables_there schema tables bound needs fits conform);
        wide = λ table. all_map _ _ _ (λ row c. c.full) (conform.sound.conforms table);
      }) h;
}

pub fits_readable : (schema : NamedSchema) (tables : List (List HeldRow)) (bound : Bound)
    (needs : List (List ℕ))
    → Fits (plain_schema schema) bound needs → IsDatabase schema tables
    → IsReadableBound (plain_database tables) bound
fits_readable schema tables bound needs fits conform = record {
  results = all_map _ _ bound.results
      (λ e s. names_readable schema tables bound needs e fits conform s.names) fits.results;
  conjuncts = all_map _ _ bound.conjuncts
      (λ c s. names_readable schema tables bound needs c.expr fits conform s.names)
      fits.conjuncts;
  keys = all_map _ _ bound.keys
      (λ k s. names_readable schema tables bound needs k.expr fits conform s.names) fits.keys;
}
