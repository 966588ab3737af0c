-- INSERT keeps what holds of a dump.
use Rattle.std.proofs.Common.{◌≡◌, ℕ, zero, suc, ◌≤◌, ℤ, List, [], ◌∷◌, length, set, slice_get}
use Rattle.std.proofs.Common.{slice_index_or, Option, None, Some, refl, subst, arith}
use Rattle.sql_meaning.specs.Letters.{folded_bytes}
use Rattle.sql_meaning.specs.Values.{Value, Null, Int, IsI64, IsBytes}
use Rattle.sql_meaning.specs.Rows.{Row}
use Rattle.sql_meaning.specs.Schemas.{AliasHolds}
use Rattle.sql_tokens.specs.TokenValues.{value_of}
use Rattle.sql_tokens.specs.declared.token.Token.{Token}
use Rattle.schema_model.specs.Schemas.{found_table}
use Rattle.schema_model.specs.HeldRows.{AreHeld, IsHeldRow, AreRowsOf}
use Rattle.schema_model.specs.declared.tables.Table.{Table}
use Rattle.schema_model.specs.declared.tables.Found.{Found}
use Rattle.schema_model.specs.declared.tables.Found.TheVariants.{Read, Unread, Missing}
use Rattle.schema_read.specs.Entries.{row_values}
use Rattle.schema_read.specs.Inserts.{InsertHead, entries_of, rowid_of, rowid_in, with_rowid}
use Rattle.schema_read.specs.Inserts.{keep_row_at, place_row, place_values, insert_into, given_of}
use Rattle.schema_read.specs.Inserts.{keep_given, is_figures_name, insert_other, insert_found}
use Rattle.schema_read.specs.Inserts.{apply_insert}
use Rattle.schema_read.specs.Rows.{has_rowid, next_rowid, insert_row as inserted_row}
use Rattle.schema_read.specs.States.{pass_row, pass_statement}
use Rattle.schema_model.specs.declared.given.Given.{Given}
use Rattle.schema_read.specs.declared.state.State.{State}
use Rattle.schema_read.proofs.AliasColumns.{IsAliased}
use Rattle.schema_read.proofs.Cases.{MayBe, chosen}
use Rattle.schema_read.proofs.Kept.{Kept, more, unchanged, statement_passed, row_passed, given_kept}
use Rattle.schema_read.proofs.KeptTables.{rows_at, rows_set, all_at_or, all_set}
use Rattle.schema_read.proofs.RisingRows.{all_placed, rising_placed, count_placed}
use Rattle.schema_read.proofs.RowValues.{values_held, held_with_rowid}
use Rattle.schema_read.proofs.Rowids.{all_at, next_within, rowid_within}

some_is : {X : Type 0} (x y : X) → Some x ≡ Some y → x ≡ y
some_is x y e = cc

rowid_there : (values : List Value) (number : ℕ) (next : Option ℤ) (rowid : ℤ)
    → rowid_in (slice_get values number) next ≡ Some rowid
    → slice_index_or (set values number (Int rowid)) number Null ≡ Int rowid
rowid_there [] number next rowid e = absurd (cc)
rowid_there (v ∷ vs) zero next rowid e = refl
rowid_there (v ∷ vs) (suc number) next rowid e = rowid_there vs number next rowid e

module _ (table : Table) (aliased : IsAliased table) where
  alias_held : (alias : Option ℕ) (values : List Value) (next : Option ℤ) (rowid : ℤ)
      → rowid_of alias values next ≡ Some rowid
      → AliasHolds alias (record { rowid = rowid; values = with_rowid alias values rowid })
  alias_held None values next rowid e column f = absurd (cc)
  alias_held (Some number) values next rowid e column f =
      subst (λ (m : ℕ). slice_index_or (set values number (Int rowid)) m Null ≡ Int rowid)
      (some_is number column f) (rowid_there values number next rowid e)

  with_rowid_held : (alias : Option ℕ) → table.alias ≡ alias → (values : List Value) (rowid : ℤ)
      → IsI64 rowid → AreHeld table.columns values
      → AreHeld table.columns (with_rowid alias values rowid)
  with_rowid_held None e values rowid h a = a
  with_rowid_held (Some number) e values rowid h a =
      held_with_rowid table.columns values number rowid h (λ column g. aliased number column e g) a

  row_held : (values : List Value) (next : Option ℤ) (rowid : ℤ)
      → rowid_of table.alias values next ≡ Some rowid → IsI64 rowid → AreHeld table.columns values
      → IsHeldRow table (record { rowid = rowid; values = with_rowid table.alias values rowid })
  row_held values next rowid e h a = record {
    rowid = h;
    values = with_rowid_held table.alias refl values rowid h a;
    alias = alias_held table.alias values next rowid e;
  }

module _ (n : ℕ) (d : State) (k : Kept n d) where
  module _ (number : ℕ) (table : Table) (there : slice_get d.schema.tables number ≡ Some table)
    where
      abbrev here : List Row
      here = slice_index_or d.rows number []

      aliased_here : IsAliased table
      aliased_here = of_option (slice_get d.schema.tables number) there
          (all_at IsAliased d.schema.tables number k.aliased)
        where
          of_option : (o : Option Table) → o ≡ Some table → MayBe IsAliased o → IsAliased table
          of_option None e h = absurd (cc)
          of_option (Some t) e h = subst IsAliased (some_is t table e) h

      rows_here : AreRowsOf table here
      rows_here = rows_at d.schema.tables d.rows number table there k.rows

      row_added : (values : List Value) (rowid : ℤ)
          → IsHeldRow table (record { rowid = rowid; values = values })
          → Kept (suc n) (record d { rows = set d.rows number (inserted_row rowid values here) })
      row_added values rowid h =
          let count = count_placed rowid values here in
          let before = all_at_or (λ rows. length rows ≤ n) d.rows number [] (omega arith) k.few in
          record {
            rows = rows_set d.schema.tables d.rows number table (inserted_row rowid values here)
                there
                (record {
                  rising = rising_placed rowid values here rows_here.rising;
                  held = all_placed (IsHeldRow table) rowid values here h rows_here.held;
                }) k.rows;
            aliased = k.aliased;
            few = all_set (λ rows. length rows ≤ suc n) d.rows number
                (inserted_row rowid values here)
                (omega (arith, count, before)) (more n d k);
            unusable = k.unusable;
          }

      row_kept_at : (values : List Value) → AreHeld table.columns values → (o : Option ℤ)
          → rowid_of table.alias values (next_rowid here) ≡ o → MayBe IsI64 o
          → Kept (suc n) (keep_row_at d number table.alias values o)
      row_kept_at values a None e h = row_passed n d k
      row_kept_at values a (Some rowid) e h =
          chosen (Kept (suc n)) (has_rowid rowid here) (pass_row d) _ (row_passed n d k)
          (row_added (with_rowid table.alias values rowid) rowid
          (row_held table aliased_here values (next_rowid here) rowid e h a))

      row_placed : (values : List Value) → AreHeld table.columns values
          → Kept (suc n) (place_row d number table.alias values)
      row_placed values a =
          row_kept_at values a (rowid_of table.alias values (next_rowid here)) refl
          (rowid_within table.alias table.columns values (next_rowid here) a
          (next_within table here rows_here.held))

      values_placed : (o : Option (List Value)) → MayBe (AreHeld table.columns) o
          → Kept (suc n) (place_values d number table.alias o)
      values_placed None h = row_passed n d k
      values_placed (Some values) h = row_placed values h

  given_or_passed : (o : Option Given) → Kept (suc n) (keep_given d o)
  given_or_passed None = statement_passed n d k
  given_or_passed (Some given) = given_kept n d k given

  module _ (text : List ℕ) (bytes : IsBytes text) where
    into_kept : (number : ℕ) (parts : List (List Token)) (o : Option Table)
        → slice_get d.schema.tables number ≡ o → Kept (suc n) (insert_into text d number parts o)
    into_kept number parts None e = unchanged n d k
    into_kept number parts (Some table) e =
        values_placed number table e (row_values text table.columns parts)
        (values_held text bytes table.columns parts)

    other_kept : (folded : List ℕ) (parts : List (List Token))
        → Kept (suc n) (insert_other text d folded parts)
    other_kept folded parts =
        chosen (Kept (suc n)) (is_figures_name folded) _ (pass_statement d)
        (given_or_passed (given_of text parts)) (statement_passed n d k)

    found_kept : (folded : List ℕ) (parts : List (List Token)) (found : Found)
        → Kept (suc n) (insert_found text d folded parts found)
    found_kept folded parts (Read number) =
        into_kept number parts (slice_get d.schema.tables number) refl
    found_kept folded parts Unread = other_kept folded parts
    found_kept folded parts Missing = other_kept folded parts

    pub insert_kept : (head : InsertHead) → Kept (suc n) (apply_insert text d head)
    insert_kept head =
        let folded = folded_bytes (value_of text head.table) in
        found_kept folded (entries_of text head.list) (found_table d.schema folded)
