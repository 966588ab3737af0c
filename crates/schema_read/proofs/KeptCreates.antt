-- CREATE keeps what holds of a dump.
use Rattle.std.proofs.Common.{ℕ, suc, ◌≤◌, Bool, List, [], ◌∷◌, ◌++◌, length, slice_get, Option}
use Rattle.std.proofs.Common.{None, Some, refl, sym, subst, arith}
use Rattle.std.specs.List.{AllByRecursion}
use Rattle.sql_meaning.specs.Letters.{folded_bytes}
use Rattle.sql_tokens.specs.TokenValues.{value_of}
use Rattle.schema_model.specs.Schemas.{with_table, found_table}
use Rattle.schema_model.specs.HeldRows.{AreRows}
use Rattle.schema_model.specs.UsableIndexes.{IsEmptyUnlessUsable}
use Rattle.schema_model.specs.declared.indexes.IndexColumn.{IndexColumn}
use Rattle.schema_model.specs.declared.tables.Table.{Table}
use Rattle.schema_model.specs.declared.tables.Found.{Found}
use Rattle.schema_model.specs.declared.tables.Found.TheVariants.{Read, Unread, Missing}
use Rattle.list_laws.proofs.Lists.{all_push}
use Rattle.schema_text.specs.Cursor.{NameAndRest}
use Rattle.schema_text.specs.Heads.{IndexHead}
use Rattle.schema_text.specs.TableTexts.{table_of}
use Rattle.schema_text.specs.declared.table_texts.TableText.{TableText}
use Rattle.schema_read.specs.Autoindexes.{with_autoindexes}
use Rattle.schema_read.specs.Creates.{keep_table, create_table, apply_table, apply_unread}
use Rattle.schema_read.specs.Creates.{usable_columns, index_made, keep_index_of, index_found}
use Rattle.schema_read.specs.Creates.{apply_index}
use Rattle.schema_read.specs.States.{pass_statement, is_refused}
use Rattle.schema_read.specs.declared.state.State.{State}
use Rattle.schema_read.proofs.AliasColumns.{IsAliased, IsAliasedText, table_aliased}
use Rattle.schema_read.proofs.Cases.{MayBe, chosen}
use Rattle.schema_read.proofs.Kept.{Kept, more, unchanged, statement_passed, unread_kept}
use Rattle.schema_read.proofs.Kept.{index_kept}
use Rattle.schema_read.proofs.KeptTables.{rows_pushed}
use Rattle.schema_read.proofs.KeyIndexes.{Indexed, keys_indexed}

made_empty : (name : List ℕ) (table : ℕ) (unique : Bool) (o : Option (List IndexColumn))
    → IsEmptyUnlessUsable (index_made name table unique o)
made_empty name table unique None e = refl
made_empty name table unique (Some columns) e = absurd (cc)

module _ (n : ℕ) (d : State) (k : Kept n d) where
  table_kept : (made : TableText) → IsAliasedText made → Kept (suc n) (keep_table d made)
  table_kept made a =
      let tables = d.schema.tables ++ made.table ∷ [] in
      let indexed : Indexed tables
      (with_autoindexes (with_table d.schema made.table) (length d.schema.tables) made.keys) =
      keys_indexed tables (length d.schema.tables) made.keys _
      (record { same = refl; unusable = k.unusable }) in
      record {
        rows = subst (λ (ts : List Table). AreRows ts (d.rows ++ [] ∷ [])) (sym indexed.same)
            (rows_pushed d.schema.tables made.table d.rows k.rows);
        aliased = subst (AllByRecursion IsAliased) (sym indexed.same)
            (all_push IsAliased d.schema.tables made.table k.aliased a);
        few = all_push (λ rows. length rows ≤ suc n) d.rows [] (more n d k) (omega arith);
        unusable = indexed.unusable;
      }

  created : (name : List ℕ) (o : Option TableText) → MayBe IsAliasedText o
      → Kept (suc n) (create_table d name o)
  created name None h = unread_kept n d k name
  created name (Some made) h = table_kept made h

  module _ (text : List ℕ) where
    pub create_table_kept : (named : NameAndRest) → Kept (suc n) (apply_table text d named)
    create_table_kept named =
        chosen (Kept (suc n)) (is_refused d.schema (value_of text named.name)) (pass_statement d) _
        (statement_passed n d k)
        (created (value_of text named.name) (table_of text named) (table_aliased text named))

    pub create_unread_kept : (named : NameAndRest) → Kept (suc n) (apply_unread text d named)
    create_unread_kept named =
        chosen (Kept (suc n)) (is_refused d.schema (value_of text named.name)) (pass_statement d) _
        (statement_passed n d k)
        (unread_kept n d k (value_of text named.name))

    index_of_kept : (number : ℕ) (head : IndexHead) (o : Option Table)
        → Kept (suc n) (keep_index_of text d number head o)
    index_of_kept number head None = unchanged n d k
    index_of_kept number head (Some table) =
        index_kept n d k (index_made (value_of text head.name) number head.unique
        (usable_columns text table.columns head))
        (made_empty (value_of text head.name) number head.unique
        (usable_columns text table.columns head))

    index_found_kept : (head : IndexHead) (found : Found)
        → Kept (suc n) (index_found text d head found)
    index_found_kept head (Read number) =
        chosen (Kept (suc n)) (is_refused d.schema (value_of text head.name)) (pass_statement d) _
        (statement_passed n d k)
        (index_of_kept number head (slice_get d.schema.tables number))
    index_found_kept head Unread = statement_passed n d k
    index_found_kept head Missing = statement_passed n d k

    pub create_index_kept : (head : IndexHead) → Kept (suc n) (apply_index text d head)
    create_index_kept head =
        index_found_kept head (found_table d.schema (folded_bytes (value_of text head.table)))
