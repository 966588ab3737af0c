-- What is bound is sound.
use Rattle.std.proofs.Common.{◌≡◌, ◌<◌, ℕ, Bool, true, false, cond, Option, None, Some, option_map}
use Rattle.std.proofs.Common.{List, [], ◌∷◌, length, codes, pos, refl, ◌==◌, arith, eqb-true}
use Rattle.std.specs.List.{AllByRecursion, slice_get, filter_map, cons_option}
use Rattle.std.specs.Option.{option_or}
use Rattle.std.proofs.lemmas.Option.{slice_get-map, slice_get_within}
use Rattle.std.proofs.lemmas.List.{length-map}
use Rattle.sql_meaning.specs.Items.{Item, FitsExpr, FitsExprs}
use Rattle.sql_meaning.specs.Schemas.{columns_of}
use Rattle.sql_meaning.specs.Statements.{table_of as number_of, numbers_from}
use Rattle.sql_meaning.specs.Expressions.{BExpr, Lit, Column, Rowid}
use Rattle.sql_meaning.specs.Letters.{folded_bytes}
use Rattle.sql_meaning.specs.Values.{Null, Int}
use Rattle.sql_meaning.specs.OrderState.{is_alias}
use Rattle.sql_tree.specs.Trees as tree
use Rattle.sql_tree.specs.Trees.{Tree, Trees}
use Rattle.schema_model.specs.PlainSchemas.{plain_schema, plain_table, plain_column}
use Rattle.schema_model.specs.Schemas.{Schema, found_column}
use Rattle.schema_model.specs.Names.{is_name}
use Rattle.schema_model.specs.Columns.{has_column_name}
use Rattle.schema_model.specs.declared.tables.Table.{Table}
use Rattle.sql_bound.specs.Fits.{NamesExist, AllNamesExist, width}
use Rattle.sql_names.specs.Scopes.{Scope, IsScope, table_of, table_at}
use Rattle.sql_names.specs.Names.{Meaning, Denotes, Ambiguous, Unknown}
use Rattle.sql_names.specs.Names.{column_expr, column_in}
use Rattle.sql_names.specs.Names.{rowid_in, named_at, item_named, columns_named, among}
use Rattle.sql_names.specs.Names.{constant, only_rowid, without_column, if_known}
use Rattle.sql_names.specs.Names.{meant_expr, name_expr, is_rowid_name}
use Rattle.sql_names.specs.Binding.{bound, all_bound}
use Rattle.sql_names.specs.Laws.{BoundIsSound}
use Rattle.sql_names.proofs.Tables.{position_within}

wide : (schema : Schema) (item : Option Item) (table : Table) → table_of schema item ≡ Some table
    → length (columns_of (slice_get (plain_schema schema).tables (number_of item)))
    ≡ length table.columns
wide schema None table h = absurd (cc)
wide schema (Some item) table h =
    rw (slice_get-map plain_table schema.tables item.table, h)
    (length-map table.columns plain_column)

there : (schema : Schema) (items : List Item) (number : ℕ) (item : Option Item) (table : Table)
    → slice_get items number ≡ item → table_of schema item ≡ Some table → number < length items
there schema items number None table is h = absurd (cc)
there schema items number (Some item) table is h = slice_get_within items number item is

kept : {X Y : Type 0} (P : Y → Type 0) (h : X → Option Y) (x : X) (rest : List Y) (y : Option Y)
    → h x ≡ y → ((y : Y) → h x ≡ Some y → P y) → AllByRecursion P rest
    → AllByRecursion P (cons_option y rest)
kept P h x rest None is each all = all
kept P h x rest (Some y) is each all = (each y is, all)

all_kept : {X Y : Type 0} (P : Y → Type 0) (h : X → Option Y)
    → ((x : X) (y : Y) → h x ≡ Some y → P y) → (xs : List X) → AllByRecursion P (filter_map h xs)
all_kept P h each [] = tt
all_kept P h each (x ∷ xs) = kept P h x (filter_map h xs) (h x) refl (each x) (all_kept P h each xs)

-- a name denotes a column, a rowid or a constant
abbrev pub IsPart : BExpr → Type 0
IsPart (Lit v) = Unit {0}
IsPart (Column item column) = Unit {0}
IsPart (Rowid item) = Unit {0}
IsPart e = ⊥

record Sound (scope : Scope) (e : BExpr) : Type 0 where
  pub names : NamesExist (plain_schema scope.schema) scope.items e
  pub conversions : FitsExpr (plain_schema scope.schema) scope.items e
  pub part : IsPart e

abbrev SoundIf : Scope → Option BExpr → Type 0
SoundIf scope None = Unit {0}
SoundIf scope (Some e) = Sound scope e

sound_of : (scope : Scope) (o : Option BExpr) (e : BExpr) → o ≡ Some e → SoundIf scope o
    → Sound scope e
sound_of scope None e is h = absurd (cc)
sound_of scope (Some f) e is h = rw (← given f e is) h
  where
    given : (f e : BExpr) → Some f ≡ Some e → f ≡ e
    given f e is = cc

rowid_sound : (scope : Scope) (item : ℕ) → item < length scope.items → Sound scope (Rowid item)
rowid_sound scope item h = record { names = h; conversions = tt; part = tt }

-- the column or the rowid, whichever the number of the alias says
chosen : (scope : Scope) (alias : Bool) (item column : ℕ) → item < length scope.items
    → column < width (plain_schema scope.schema) scope.items item
    → Sound scope (cond alias (Rowid item) (Column item column))
chosen scope true item column h w = record { names = h; conversions = tt; part = tt }
chosen scope false item column h w = record { names = (h, w); conversions = tt; part = tt }

found_sound : (scope : Scope) (item : ℕ) (table : Table) → table_at scope item ≡ Some table
    → (column : Option ℕ) → ((n : ℕ) → column ≡ Some n → n < length table.columns)
    → SoundIf scope (option_map (column_expr table.alias item) column)
found_sound scope item table is None within = tt
found_sound scope item table is (Some n) within =
    let small : n < width (plain_schema scope.schema) scope.items item =
    rw (wide scope.schema (slice_get scope.items item) table is) (within n refl) in
    chosen scope (is_alias table.alias n) item n
    (there scope.schema scope.items item (slice_get scope.items item) table refl is) small

column_sound : (scope : Scope) (item : ℕ) (table : Option Table) (lower : List ℕ)
    → table_at scope item ≡ table → SoundIf scope (column_in item table lower)
column_sound scope item None lower is = tt
column_sound scope item (Some table) lower is =
    found_sound scope item table is (found_column table lower)
    (position_within (has_column_name lower) table.columns)

rowid_if_sound : (scope : Scope) (item : ℕ) (rowid : Bool) → item < length scope.items
    → SoundIf scope (cond rowid (Some (Rowid item)) None)
rowid_if_sound scope item true h = rowid_sound scope item h
rowid_if_sound scope item false h = tt

or_sound : (scope : Scope) (o p : Option BExpr) → SoundIf scope o → SoundIf scope p
    → SoundIf scope (option_or o p)
or_sound scope None p h k = k
or_sound scope (Some e) p h k = h

abbrev SoundMeaning : Scope → Meaning → Type 0
SoundMeaning scope m = Sound scope (meant_expr m)

nothing_sound : (scope : Scope) → Sound scope (Lit Null)
nothing_sound scope = record { names = tt; conversions = tt; part = tt }

known_sound : (scope : Scope) (o : Option BExpr) → SoundIf scope o → SoundMeaning scope (if_known o)
known_sound scope None h = nothing_sound scope
known_sound scope (Some e) h = h

named_sound : (scope : Scope) (lower : List ℕ) (item : Option ℕ)
    → ((n : ℕ) → item ≡ Some n → n < length scope.items)
    → SoundIf scope (named_at scope lower item)
named_sound scope lower None within = tt
named_sound scope lower (Some item) within =
    or_sound scope (column_in item (table_at scope item) lower) (rowid_in item lower)
    (column_sound scope item (table_at scope item) lower refl)
    (rowid_if_sound scope item (is_rowid_name lower) (within item refl))

constant_sound : (scope : Scope) (first second : Bool)
    → SoundMeaning scope
    (cond first (Denotes (Lit (Int (pos 1)))) (cond second (Denotes (Lit (Int (pos 0)))) Unknown))
constant_sound scope true second = record { names = tt; conversions = tt; part = tt }
constant_sound scope false true = record { names = tt; conversions = tt; part = tt }
constant_sound scope false false = nothing_sound scope

only_sound : (scope : Scope) (one : Bool) → (length scope.items == 1) ≡ one
    → SoundMeaning scope (cond one (Denotes (Rowid 0)) Ambiguous)
only_sound scope true is =
    let count : length scope.items ≡ 1 = eqb-true (length scope.items) 1 is in
    rowid_sound scope 0 (omega (arith, count))
only_sound scope false is = nothing_sound scope

without_sound : (scope : Scope) (rowid : Bool) (lower : List ℕ)
    → SoundMeaning scope (cond rowid (only_rowid (length scope.items)) (constant lower))
without_sound scope true lower = only_sound scope (length scope.items == 1) refl
without_sound scope false lower =
    constant_sound scope (is_name lower (codes "true")) (is_name lower (codes "false"))

among_sound : (scope : Scope) (es : List BExpr) (other : Meaning) → AllByRecursion (Sound scope) es
    → SoundMeaning scope other → SoundMeaning scope (among es other)
among_sound scope [] other all h = h
among_sound scope (e ∷ []) other all h = all.0
among_sound scope (e ∷ f ∷ es) other all h = nothing_sound scope

columns_sound : (scope : Scope) (lower : List ℕ) (item : ℕ) (e : BExpr)
    → column_in item (table_at scope item) lower ≡ Some e → Sound scope e
columns_sound scope lower item e is =
    sound_of scope (column_in item (table_at scope item) lower) e is
    (column_sound scope item (table_at scope item) lower refl)

name_sound : (scope : Scope) → IsScope scope → (table : Option (List ℕ)) (name : List ℕ)
    → Sound scope (name_expr scope table name)
name_sound scope is None name =
    let lower = folded_bytes name in
    among_sound scope (columns_named scope lower) (without_column scope lower)
    (all_kept (Sound scope) (λ item. column_in item (table_at scope item) lower)
    (columns_sound scope lower) (numbers_from 0 (length scope.items)))
    (without_sound scope (is_rowid_name lower) lower)
name_sound scope is (Some table) name =
    known_sound scope (named_at scope (folded_bytes name) (item_named scope table))
    (named_sound scope (folded_bytes name) (item_named scope table)
    (λ n at. (let small = position_within (is_name (folded_bytes table)) scope.names n at in
    rw is.named at small)))

pub name_is_part : (scope : Scope) → IsScope scope → (table : Option (List ℕ)) (name : List ℕ)
    → IsPart (name_expr scope table name)
name_is_part scope is table name = (name_sound scope is table name).part

mutual
  exist : (scope : Scope) → IsScope scope → (t : Tree)
      → NamesExist (plain_schema scope.schema) scope.items (bound scope t)
  exist scope is (tree.Lit v) = tt
  exist scope is (tree.Param number) = tt
  exist scope is (tree.Name table name) = (name_sound scope is table name).names
  exist scope is (tree.Plus x) = exist scope is x
  exist scope is (tree.Collate x name) = exist scope is x
  exist scope is (tree.Cmp op x y) = (exist scope is x, exist scope is y)
  exist scope is (tree.Between true x low high) =
      ((exist scope is x, exist scope is low), ((exist scope is x, exist scope is high), tt))
  exist scope is (tree.Between false x low high) =
      ((exist scope is x, exist scope is low), ((exist scope is x, exist scope is high), tt))
  exist scope is (tree.OneOf negated x xs) = (exist scope is x, all_exist scope is xs)
  exist scope is (tree.Like negated x pattern) = (exist scope is x, exist scope is pattern)
  exist scope is (tree.IsNull negated x) = exist scope is x
  exist scope is (tree.Not x) = exist scope is x
  exist scope is (tree.All xs) = all_exist scope is xs
  exist scope is (tree.Any xs) = all_exist scope is xs

  all_exist : (scope : Scope) → IsScope scope → (ts : Trees)
      → AllNamesExist (plain_schema scope.schema) scope.items (all_bound scope ts)
  all_exist scope is tree.end = tt
  all_exist scope is (tree.more x xs) = (exist scope is x, all_exist scope is xs)

mutual
  fits : (scope : Scope) → IsScope scope → (t : Tree)
      → FitsExpr (plain_schema scope.schema) scope.items (bound scope t)
  fits scope is (tree.Lit v) = tt
  fits scope is (tree.Param number) = tt
  fits scope is (tree.Name table name) = (name_sound scope is table name).conversions
  fits scope is (tree.Plus x) = fits scope is x
  fits scope is (tree.Collate x name) = fits scope is x
  fits scope is (tree.Cmp op x y) = (refl, refl, fits scope is x, fits scope is y)
  fits scope is (tree.Between true x low high) = (
    (refl, refl, fits scope is x, fits scope is low),
    ((refl, refl, fits scope is x, fits scope is high), tt),
  )
  fits scope is (tree.Between false x low high) = (
    (refl, refl, fits scope is x, fits scope is low),
    ((refl, refl, fits scope is x, fits scope is high), tt),
  )
  fits scope is (tree.OneOf negated x xs) = (refl, fits scope is x, all_fit scope is xs)
  fits scope is (tree.Like negated x pattern) = (fits scope is x, fits scope is pattern)
  fits scope is (tree.IsNull negated x) = fits scope is x
  fits scope is (tree.Not x) = fits scope is x
  fits scope is (tree.All xs) = all_fit scope is xs
  fits scope is (tree.Any xs) = all_fit scope is xs

  all_fit : (scope : Scope) → IsScope scope → (ts : Trees)
      → FitsExprs (plain_schema scope.schema) scope.items (all_bound scope ts)
  all_fit scope is tree.end = tt
  all_fit scope is (tree.more x xs) = (fits scope is x, all_fit scope is xs)

pub bound_sound : BoundIsSound
bound_sound scope t is = record { names = exist scope is t; conversions = fits scope is t }
