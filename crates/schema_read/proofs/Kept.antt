-- What every statement keeps: rows that their tables may hold, fewer than there were statements.
use Rattle.std.proofs.Common.{ℕ, suc, ◌≤◌, List, [], ◌∷◌, ◌++◌, length, arith}
use Rattle.std.specs.List.{AllByRecursion}
use Rattle.schema_model.specs.HeldRows.{AreRows}
use Rattle.schema_model.specs.UsableIndexes.{IsEmptyUnlessUsable}
use Rattle.schema_model.specs.declared.indexes.Index.{Index}
use Rattle.schema_model.specs.Schemas.{with_unread, with_index}
use Rattle.list_laws.proofs.Lists.{all_map, all_push}
use Rattle.schema_read.specs.States.{pass_statement, pass_row, with_schema}
use Rattle.schema_model.specs.declared.given.Given.{Given}
use Rattle.schema_read.specs.declared.state.State.{State}
use Rattle.schema_read.proofs.AliasColumns.{IsAliased}

pub record Kept (n : ℕ) (d : State) : Type 0 where
  pub rows : AreRows d.schema.tables d.rows
  pub aliased : AllByRecursion IsAliased d.schema.tables
  pub few : AllByRecursion (λ rows. length rows ≤ n) d.rows
  pub unusable : AllByRecursion IsEmptyUnlessUsable d.schema.indexes

module _ (n : ℕ) (d : State) (k : Kept n d) where
  pub more : AllByRecursion (λ rows. length rows ≤ suc n) d.rows
  more = all_map (λ rows. length rows ≤ n) (λ rows. length rows ≤ suc n) d.rows
      (λ rows h. omega (arith, h)) k.few

  pub unchanged : Kept (suc n) d
  unchanged = record { rows = k.rows; aliased = k.aliased; few = more; unusable = k.unusable }

  pub statement_passed : Kept (suc n) (pass_statement d)
  statement_passed = record {
    rows = k.rows;
    aliased = k.aliased;
    few = more;
    unusable = k.unusable;
  }

  pub row_passed : Kept (suc n) (pass_row d)
  row_passed = record { rows = k.rows; aliased = k.aliased; few = more; unusable = k.unusable }

  pub given_kept : (given : Given) → Kept (suc n) (record d { given = d.given ++ given ∷ [] })
  given_kept given = record {
    rows = k.rows;
    aliased = k.aliased;
    few = more;
    unusable = k.unusable;
  }

  pub unread_kept : (name : List ℕ) → Kept (suc n) (with_schema d (with_unread d.schema name))
  unread_kept name = record {
    rows = k.rows;
    aliased = k.aliased;
    few = more;
    unusable = k.unusable;
  }

  pub index_kept : (index : Index) → IsEmptyUnlessUsable index
      → Kept (suc n) (with_schema d (with_index d.schema index))
  index_kept index u = record {
    rows = k.rows;
    aliased = k.aliased;
    few = more;
    unusable = all_push IsEmptyUnlessUsable d.schema.indexes index k.unusable u;
  }
