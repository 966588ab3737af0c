-- What the laws need of a database.
use Rattle.std.specs.Prelude.{ℕ, slice_get}
use Rattle.std.specs.List.{AllByRecursion}
use Rattle.list_laws.proofs.Lists.{all_map}
use Rattle.sql_meaning.specs.Schemas.{Schema, Database, RisingRows, AliasHolds, IsDatabaseOf}
use Rattle.sql_meaning.specs.Statements.{Bound, item_rows, item_alias, table_of}
use Rattle.sql_meaning.proofs.LikeTerms.{HasNoneMisplaced, none_misplaced}

-- what the laws need of a database: rows stand by rowid, the alias holds the rowid, and columns of
-- TEXT hold no numbers
pub record IsDatabase (schema : Schema) (bound : Bound) (database : Database) : Type 0 where
  pub rising : (item : ℕ) → RisingRows (item_rows database bound item)
  pub aliased : (item : ℕ)
      → AllByRecursion (AliasHolds (item_alias schema bound item)) (item_rows database bound item)
  pub texts : (item : ℕ)
      → AllByRecursion (HasNoneMisplaced schema bound.items item) (item_rows database bound item)

pub database_for : (schema : Schema) (bound : Bound) (database : Database)
    → IsDatabaseOf schema database → IsDatabase schema bound database
database_for schema bound database valid = record {
  rising = λ item. valid.rising (table_of (slice_get bound.items item));
  aliased =
      λ item. all_map _ _ _ (λ row c. c.alias)
      (valid.conforms (table_of (slice_get bound.items item)));
  texts =
      λ item. all_map _ _ _ (λ row c. none_misplaced schema bound.items item row c)
      (valid.conforms (table_of (slice_get bound.items item)));
}
