-- That a statement fits a schema depends on the schema's tables alone.
use Rattle.std.proofs.Common.{ℕ, List, [], ◌∷◌}
use Rattle.std.specs.List.{AllByRecursion}
use Rattle.sql_meaning.specs.Schemas.{Schema, Index}
use Rattle.sql_meaning.specs.Items.{Item}
use Rattle.sql_meaning.specs.Statements.{Bound}
use Rattle.sql_meaning.specs.Expressions.{BExpr, BExprs, Lit, Param, Column, Rowid, Plus, Collate}
use Rattle.sql_meaning.specs.Expressions.{Cmp, OneOf, Like, IsNull, Not, All, Any, Nil, More}
use Rattle.sql_meaning.proofs.SameTables.{conversions}
use Rattle.sql_bound.specs.Fits.{Fits, IsSound, NamesExist, AllNamesExist}
use Rattle.sql_meaning.specs.Schemas.{with_indexes}
use Rattle.sql_bound.specs.Fits.{FitsWithIndexes}
use Rattle.schema_model.specs.Schemas.{with_index}
use Rattle.schema_model.specs.PlainSchemas.{plain_schema}

mutual
  exist : (schema : Schema) (indexes : List Index) (items : List Item) (e : BExpr)
      → NamesExist schema items e → NamesExist (with_indexes schema indexes) items e
  exist schema indexes items (Lit v) h = tt
  exist schema indexes items (Param number) h = tt
  exist schema indexes items (Column item column) h = h
  exist schema indexes items (Rowid item) h = h
  exist schema indexes items (Plus e) h = exist schema indexes items e h
  exist schema indexes items (Collate e collation) h = exist schema indexes items e h
  exist schema indexes items (Cmp op left right lc rc collation) h =
      (exist schema indexes items left h.0, exist schema indexes items right h.1)
  exist schema indexes items (OneOf negated left entries ec collation) h =
      (exist schema indexes items left h.0, all_exist schema indexes items entries h.1)
  exist schema indexes items (Like negated e pattern) h =
      (exist schema indexes items e h.0, exist schema indexes items pattern h.1)
  exist schema indexes items (IsNull negated e) h = exist schema indexes items e h
  exist schema indexes items (Not e) h = exist schema indexes items e h
  exist schema indexes items (All es) h = all_exist schema indexes items es h
  exist schema indexes items (Any es) h = all_exist schema indexes items es h

  all_exist : (schema : Schema) (indexes : List Index) (items : List Item) (es : BExprs)
      → AllNamesExist schema items es → AllNamesExist (with_indexes schema indexes) items es
  all_exist schema indexes items Nil h = tt
  all_exist schema indexes items (More e es) h =
      (exist schema indexes items e h.0, all_exist schema indexes items es h.1)

sound : (schema : Schema) (indexes : List Index) (items : List Item) (e : BExpr)
    → IsSound schema items e → IsSound (with_indexes schema indexes) items e
sound schema indexes items e h = record {
  names = exist schema indexes items e h.names;
  conversions = conversions schema indexes items e h.conversions;
}

all_sound : {X : Type 0} (expr : X → BExpr) (schema : Schema) (indexes : List Index)
    (items : List Item) (xs : List X)
    → AllByRecursion (λ x. IsSound schema items (expr x)) xs
    → AllByRecursion (λ x. IsSound (with_indexes schema indexes) items (expr x)) xs
all_sound expr schema indexes items [] h = tt
all_sound expr schema indexes items (x ∷ xs) h =
    (sound schema indexes items (expr x) h.0, all_sound expr schema indexes items xs h.1)

fits : (schema : Schema) (indexes : List Index) (bound : Bound) (needs : List (List ℕ))
    → Fits schema bound needs → Fits (with_indexes schema indexes) bound needs
fits schema indexes bound needs f = record {
  some_item = f.some_item;
  few_items = f.few_items;
  few_conjuncts = f.few_conjuncts;
  one_changed = f.one_changed;
  tables = f.tables;
  results = all_sound (λ e. e) schema indexes bound.items bound.results f.results;
  conjuncts = all_sound (λ c. c.expr) schema indexes bound.items bound.conjuncts f.conjuncts;
  keys = all_sound (λ k. k.expr) schema indexes bound.items bound.keys f.keys;
  needs_each = f.needs_each;
  needed = f.needed;
  first = f.first;
  owners = f.owners;
  owned = f.owned;
}

pub fits_with_indexes : FitsWithIndexes
fits_with_indexes schema index bound needs f =
    fits (plain_schema schema) (plain_schema (with_index schema index)).indexes bound needs f
