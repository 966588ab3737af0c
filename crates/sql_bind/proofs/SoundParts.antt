-- The bound parts of a statement are sound.
use Rattle.std.proofs.Common.{◌≡◌, ◌<◌, ◌==◌, ◌-◌, ℕ, Bool, true, false, cond, if◌then◌else◌}
use Rattle.std.proofs.Common.{Option, None, Some, option_map, unwrap_or, List, map}
use Rattle.std.proofs.Common.{length, refl, subst, arith}
use Rattle.std.specs.List.{AllByRecursion, slice_get, range_with_len, find}
use Rattle.std.proofs.lemmas.List.{length-map}
use Rattle.std.proofs.lemmas.Option.{slice_get-map}
use Rattle.sql_meaning.specs.Letters.{folded_bytes}
use Rattle.sql_meaning.specs.Items.{Item}
use Rattle.sql_meaning.specs.Schemas as plain
use Rattle.sql_meaning.specs.Statements.{table_of}
use Rattle.sql_meaning.specs.Expressions.{BExpr, BExprs, Lit, Param, Column, Rowid, Plus, Collate}
use Rattle.sql_meaning.specs.Expressions.{Cmp, OneOf, Like, IsNull, Not, All, Any, Nil, More, flat}
use Rattle.sql_meaning.specs.Expressions.{flat_all}
use Rattle.sql_meaning.specs.Values as value
use Rattle.sql_meaning.proofs.Links.{all_at}
use Rattle.sql_tree.specs.Trees.{Tree}
use Rattle.sql_tree.specs.Statements.{ItemTree, Star, TableStar, Value}
use Rattle.schema_model.specs.Names.{is_name}
use Rattle.schema_model.specs.PlainSchemas.{plain_schema, plain_table, plain_column}
use Rattle.schema_model.specs.Schemas.{Schema, columns_of}
use Rattle.schema_model.specs.declared.tables.Table.{Table}
use Rattle.sql_meaning.specs.Items.{FitsExprs}
use Rattle.sql_bound.specs.Fits.{IsSound, AllNamesExist}
use Rattle.sql_names.specs.Scopes.{Scope, IsScope}
use Rattle.sql_names.specs.Scopes as scopes
use Rattle.sql_meaning.specs.OrderState.{is_alias}
use Rattle.sql_names.specs.Names.{item_named}
use Rattle.sql_names.specs.Binding.{bound}
use Rattle.sql_names.proofs.Sound.{bound_sound}
use Rattle.sql_names.proofs.Tables.{position_within}
use Rattle.sql_bind.specs.Results.{ResultColumn, width_at, alias_at, column_at, item_columns}
use Rattle.sql_bind.specs.Results.{columns_under, every_column, results_of, result_columns}
use Rattle.sql_bind.specs.Keys.{KeyForm, Position, Bare, BareUnder, Other, key_form, result_at}
use Rattle.sql_bind.specs.Keys.{aliased, under, meant_by, key_expr, is_called}
use Rattle.list_laws.proofs.Lists.{all_always, all_append, all_flat_map, all_mapped}
use Rattle.sql_bind.proofs.Alls.{OfFound, all_below, all_found}

-- an item's columns, of the schema with names and of the one without
columns_seen : (tables : List Table) (n column : ℕ) (at : Option Table)
    → slice_get tables n ≡ at → column < length (columns_of at)
    → column < length (plain.columns_of (slice_get (map plain_table tables) n))
columns_seen tables n column None is h = absurd (omega (arith, h))
columns_seen tables n column (Some table) is h =
    rw (slice_get-map plain_table tables n, is, length-map table.columns plain_column) h

pub wide : (schema : Schema) (column : ℕ) (item : Option Item)
    → column < length (columns_of (scopes.table_of schema item))
    → column < length (plain.columns_of (slice_get (plain_schema schema).tables (table_of item)))
wide schema column None h = absurd (omega (arith, h))
wide schema column (Some item) h =
    columns_seen schema.tables item.table column (slice_get schema.tables item.table) refl h

module _ (scope : Scope) (ok : IsScope scope) where
  abbrev Sound : BExpr → Type 0
  Sound e = IsSound (plain_schema scope.schema) scope.items e

  abbrev SoundResult : ResultColumn → Type 0
  SoundResult r = Sound r.expr

  column_sound : (b : Bool) (item column : ℕ) → item < length scope.items
      → column < width_at scope item → Sound (cond b (Rowid item) (Column item column))
  column_sound true item column h k = record { names = h; conversions = tt }
  column_sound false item column h k = record {
    names = (h, wide scope.schema column (slice_get scope.items item) k);
    conversions = tt;
  }

  item_sound : (item : ℕ) → item < length scope.items
      → AllByRecursion SoundResult (item_columns scope item)
  item_sound item h =
      all_mapped SoundResult (column_at scope item) (range_with_len 0 (width_at scope item))
      (all_below (λ column. SoundResult (column_at scope item column)) (width_at scope item)
      (λ column k. column_sound (is_alias (alias_at scope item) column) item column h k))

  star_sound : AllByRecursion SoundResult (every_column scope)
  star_sound =
      all_flat_map SoundResult (item_columns scope) (range_with_len 0 (length scope.items))
      (all_below (λ item. AllByRecursion SoundResult (item_columns scope item)) (length scope.items)
      item_sound)

  under_sound : (item : Option ℕ) → ((k : ℕ) → item ≡ Some k → k < length scope.items)
      → AllByRecursion SoundResult (columns_under scope item)
  under_sound None h = tt
  under_sound (Some item) h = item_sound item (h item refl)

  entry_sound : (entry : ItemTree) → AllByRecursion SoundResult (results_of scope entry)
  entry_sound Star = star_sound
  entry_sound (TableStar table) =
      under_sound (item_named scope table)
      (λ k is.
      subst (λ (n : ℕ). k < n) ok.named
      (position_within (is_name (folded_bytes table)) scope.names k is))
  entry_sound (Value tree alias) = (bound_sound scope tree ok, tt)

  pub results_sound : (entries : List ItemTree)
      → AllByRecursion SoundResult (result_columns scope entries)
  results_sound entries =
      all_flat_map SoundResult (results_of scope) entries
      (all_always (λ entry. AllByRecursion SoundResult (results_of scope entry)) entries entry_sound)

  null_sound : Sound (Lit value.Null)
  null_sound = record { names = tt; conversions = tt }

  collated_sound : (name : List ℕ) (e : BExpr) → Sound e → Sound (under name e)
  collated_sound name e h = record { names = h.names; conversions = h.conversions }

  placed_sound : (results : List ResultColumn) → AllByRecursion SoundResult results → (n : ℕ)
      (at : Option ResultColumn) → slice_get results n ≡ at
      → OfFound Sound (option_map (λ r. r.expr) at)
  placed_sound results all n None is = tt
  placed_sound results all n (Some r) is = all_at SoundResult results n r all is

  position_sound : (results : List ResultColumn) → AllByRecursion SoundResult results → (b : Bool)
      (n : ℕ)
      → OfFound Sound (if b then None else option_map (λ r. r.expr) (slice_get results n))
  position_sound results all true n = tt
  position_sound results all false n = placed_sound results all n (slice_get results n) refl

  or_sound : (found : Option BExpr) (other : BExpr) → OfFound Sound found → Sound other
      → Sound (unwrap_or found other)
  or_sound None other h k = k
  or_sound (Some e) other h k = h

  seen_found : (found : Option ResultColumn) → OfFound SoundResult found
      → OfFound Sound (option_map (λ r. r.expr) found)
  seen_found None h = tt
  seen_found (Some r) h = h

  aliased_sound : (results : List ResultColumn) → AllByRecursion SoundResult results
      → (name : List ℕ) → OfFound Sound (aliased results name)
  aliased_sound results all name =
      seen_found (find (λ r. is_called (folded_bytes name) r.alias) results)
      (all_found SoundResult (λ r. is_called (folded_bytes name) r.alias) results all)

  under_found : (name : List ℕ) (found : Option BExpr) → OfFound Sound found
      → OfFound Sound (option_map (under name) found)
  under_found name None h = tt
  under_found name (Some e) h = collated_sound name e h

  meant_sound : (results : List ResultColumn) → AllByRecursion SoundResult results → (tree : Tree)
      (form : KeyForm) → Sound (meant_by scope results tree form)
  meant_sound results all tree (Position n) =
      or_sound (result_at results n) (Lit value.Null)
      (position_sound results all (n == 0) (n - 1)) null_sound
  meant_sound results all tree (Bare name) =
      or_sound (aliased results name) (bound scope tree) (aliased_sound results all name)
      (bound_sound scope tree ok)
  meant_sound results all tree (BareUnder name collation) =
      or_sound (option_map (under collation) (aliased results name)) (bound scope tree)
      (under_found collation (aliased results name) (aliased_sound results all name))
      (bound_sound scope tree ok)
  meant_sound results all tree Other = bound_sound scope tree ok

  pub key_sound : (results : List ResultColumn) → AllByRecursion SoundResult results
      → (tree : Tree) → Sound (key_expr scope results tree)
  key_sound results all tree = meant_sound results all tree (key_form tree)

  mutual
    flat_sound : (e : BExpr) → Sound e → AllByRecursion Sound (flat e)
    flat_sound (All es) h = all_flat_sound es h.names h.conversions
    flat_sound (Lit v) h = (h, tt)
    flat_sound (Param n) h = (h, tt)
    flat_sound (Column i n) h = (h, tt)
    flat_sound (Rowid i) h = (h, tt)
    flat_sound (Plus e) h = (h, tt)
    flat_sound (Collate e collation) h = (h, tt)
    flat_sound (Cmp op l r lc rc collation) h = (h, tt)
    flat_sound (OneOf n l es ec collation) h = (h, tt)
    flat_sound (Like n e pattern) h = (h, tt)
    flat_sound (IsNull n e) h = (h, tt)
    flat_sound (Not e) h = (h, tt)
    flat_sound (Any es) h = (h, tt)

    all_flat_sound : (es : BExprs) → AllNamesExist (plain_schema scope.schema) scope.items es
        → FitsExprs (plain_schema scope.schema) scope.items es → AllByRecursion Sound (flat_all es)
    all_flat_sound Nil h k = tt
    all_flat_sound (More e es) h k =
        all_append Sound (flat e) (flat_all es)
        (flat_sound e (record { names = h.0; conversions = k.0 })) (all_flat_sound es h.1 k.1)

  pub terms_sound : (tree : Tree) → AllByRecursion Sound (flat (bound scope tree))
  terms_sound tree = flat_sound (bound scope tree) (bound_sound scope tree ok)
