-- The indexes that keys make change no table, and are usable.
use Rattle.std.proofs.Common.{◌≡◌, ℕ, ◌+◌, List, [], ◌∷◌, Option, None, Some}
use Rattle.std.specs.List.{AllByRecursion}
use Rattle.sql_meaning.specs.Letters.{folded_bytes}
use Rattle.schema_model.specs.Schemas.{Schema, is_taken}
use Rattle.schema_model.specs.UsableIndexes.{IsEmptyUnlessUsable}
use Rattle.list_laws.proofs.Lists.{all_push}
use Rattle.schema_model.specs.declared.tables.Table.{Table}
use Rattle.schema_model.specs.declared.indexes.IndexColumn.{IndexColumn}
use Rattle.schema_text.specs.declared.keys.KeyConstraint.{KeyConstraint}
use Rattle.schema_read.specs.Autoindexes.{Autoindexes, autoindex_name, with_autoindex, has_shape}
use Rattle.schema_read.specs.Autoindexes.{is_on_rowid, index_columns, shape_of, add_shape}
use Rattle.schema_read.specs.Autoindexes.{add_key_of, add_key, add_keys}
use Rattle.schema_read.proofs.Cases.{chosen}

pub record Indexed (tables : List Table) (s : Schema) : Type 0 where
  pub same : s.tables ≡ tables
  pub unusable : AllByRecursion IsEmptyUnlessUsable s.indexes

module _ (tables : List Table) (number : ℕ) where
  with_autoindex_indexed : (s : Schema) (name : List ℕ) (columns : List IndexColumn)
      → Indexed tables s → Indexed tables (with_autoindex s number name columns)
  with_autoindex_indexed s name columns k =
      chosen (Indexed tables) (is_taken s (folded_bytes name)) s _ k
      (record {
        same = k.same;
        unusable = all_push IsEmptyUnlessUsable s.indexes _ k.unusable (λ e. absurd (cc));
      })

  add_shape_indexed : (table : List ℕ) (columns : List IndexColumn) (shape : List ℕ)
      (a : Autoindexes) → Indexed tables a.schema
      → Indexed tables (add_shape number table columns shape a).schema
  add_shape_indexed table columns shape a k =
      chosen (λ (b : Autoindexes). Indexed tables b.schema) (has_shape shape a.shapes) a _ k
      (with_autoindex_indexed a.schema (autoindex_name table (a.count + 1)) columns k)

  add_key_indexed : (key : KeyConstraint) (o : Option Table) (a : Autoindexes)
      → Indexed tables a.schema → Indexed tables (add_key_of number key.columns o a).schema
  add_key_indexed key None a k = k
  add_key_indexed key (Some table) a k =
      chosen (λ (b : Autoindexes). Indexed tables b.schema) (is_on_rowid table.alias key.columns) a
      _ k
      (add_shape_indexed table.name (index_columns table.columns key.columns)
      (shape_of (index_columns table.columns key.columns)) a k)

  pub keys_indexed : (keys : List KeyConstraint) (a : Autoindexes) → Indexed tables a.schema
      → Indexed tables (add_keys number keys a).schema
  keys_indexed [] a k = k
  keys_indexed (key ∷ keys) a k =
      keys_indexed keys (add_key number key a) (add_key_indexed key _ a k)
