-- The values of an INSERT are such as their columns may hold.
use Rattle.std.proofs.Common.{◌≡◌, ℕ, zero, suc, ℤ, Bool, true, false, codes, List, [], ◌∷◌, ◌++◌}
use Rattle.std.proofs.Common.{set, slice_get, Option, None, Some, option_map, refl, if◌then◌else◌}
use Rattle.sql_meaning.specs.Values.{Value, Null, Int, IsI64, IsBytes, IsValue, Integer}
use Rattle.sql_meaning.specs.Conversions.{converted}
use Rattle.sql_meaning.specs.Numbers.{read_number}
use Rattle.sql_meaning.proofs.Bounds.{converted_is_value}
use Rattle.sql_meaning.proofs.Conversions.{converted_is_fixed}
use Rattle.sql_meaning.proofs.Reading.{sound, read_is_value}
use Rattle.sql_value.specs.View.{plain_affinity}
use Rattle.sql_tokens.specs.Terminals.{text_of}
use Rattle.sql_tokens.specs.declared.token.Token.{Token}
use Rattle.sql_tokens.specs.declared.token.TokenKind.{TokenKind}
use Rattle.sql_tokens.specs.declared.token.TokenKind.TheVariants as kind
use Rattle.schema_model.specs.HeldRows.{IsHeld, AreHeld}
use Rattle.schema_model.specs.declared.columns.Column.{Column}
use Rattle.schema_text.specs.Lists.{with_first}
use Rattle.schema_text.specs.Words.{is_word, is_mark}
use Rattle.schema_read.specs.Entries.{entry_of_kind, number_of_kind, number_entry, entry_value}
use Rattle.schema_read.specs.Entries.{column_value, row_values}
use Rattle.schema_read.specs.Numbers.{number_text, number_value}
use Rattle.schema_read.proofs.Cases.{MayBe, chosen}
use Rattle.schema_read.proofs.TextBytes.{value_bytes}

read_case : (text : List ℕ) (o : Option Value) → read_number text ≡ o → MayBe IsValue o
read_case text None e = tt
read_case text (Some v) e = read_is_value text v (sound text v e)

number_bounds : (negative : Bool) (bytes : List ℕ) → MayBe IsValue (number_value negative bytes)
number_bounds negative bytes =
    read_case ((if negative then 45 ∷ [] else []) ++ number_text bytes)
    (number_value negative bytes) refl

module _ (text : List ℕ) (bytes : IsBytes text) where
  kind_entry : (k : TokenKind) (t : Token) → MayBe IsValue (entry_of_kind k text t)
  kind_entry kind.Text t = value_bytes text t bytes
  kind_entry kind.Blob t = value_bytes text t bytes
  kind_entry kind.Number t = number_bounds false (text_of text t)
  kind_entry kind.Word t =
      chosen (MayBe IsValue) (is_word text (codes "null") t) (Some Null) None tt tt
  kind_entry kind.Quoted t = tt
  kind_entry kind.Parameter t = tt
  kind_entry kind.Symbol t = tt
  kind_entry kind.Bad t = tt

  kind_number : (k : TokenKind) (negative : Bool) (t : Token)
      → MayBe IsValue (number_of_kind k text negative t)
  kind_number kind.Number negative t = number_bounds negative (text_of text t)
  kind_number kind.Text negative t = tt
  kind_number kind.Blob negative t = tt
  kind_number kind.Word negative t = tt
  kind_number kind.Quoted negative t = tt
  kind_number kind.Parameter negative t = tt
  kind_number kind.Symbol negative t = tt
  kind_number kind.Bad negative t = tt

  entry_bounds : (part : List Token) → MayBe IsValue (entry_value text part)
  entry_bounds [] = tt
  entry_bounds (t ∷ []) = kind_entry t.kind t
  entry_bounds (s ∷ t ∷ []) =
      chosen (MayBe IsValue) (is_mark text 45 s) _ _ (kind_number t.kind true t)
      (chosen (MayBe IsValue) (is_mark text 43 s) (number_entry text false t) None
      (kind_number t.kind false t) tt)
  entry_bounds (s ∷ t ∷ u ∷ ts) = tt

  held_when : (column : Column) (o : Option Value) → MayBe IsValue o
      → MayBe (IsHeld column) (option_map (λ v. converted (plain_affinity column.affinity) v) o)
  held_when column None h = tt
  held_when column (Some v) h = record {
    bounds = converted_is_value (plain_affinity column.affinity) v h;
    fixed = converted_is_fixed (plain_affinity column.affinity) v;
  }

  first_held : (column : Column) (columns : List Column) (o : Option Value)
      (r : Option (List Value)) → MayBe (IsHeld column) o → MayBe (AreHeld columns) r
      → MayBe (AreHeld (column ∷ columns)) (with_first o r)
  first_held column columns None r h k = tt
  first_held column columns (Some v) None h k = tt
  first_held column columns (Some v) (Some vs) h k = (h, k)

  pub values_held : (columns : List Column) (parts : List (List Token))
      → MayBe (AreHeld columns) (row_values text columns parts)
  values_held [] [] = tt
  values_held [] (p ∷ ps) = tt
  values_held (c ∷ cs) [] = tt
  values_held (c ∷ cs) (p ∷ ps) =
      first_held c cs (column_value text c p) (row_values text cs ps)
      (held_when c (entry_value text p) (entry_bounds p)) (values_held cs ps)

rowid_held : (column : Column) (rowid : ℤ) → IsI64 rowid → plain_affinity column.affinity ≡ Integer
    → IsHeld column (Int rowid)
rowid_held column rowid h e = record { bounds = h; fixed = rw e refl }

-- the rowid in the place of an INTEGER column
pub held_with_rowid : (columns : List Column) (values : List Value) (n : ℕ) (rowid : ℤ)
    → IsI64 rowid
    → ((column : Column) → slice_get columns n ≡ Some column
    → plain_affinity column.affinity ≡ Integer)
    → AreHeld columns values → AreHeld columns (set values n (Int rowid))
held_with_rowid [] [] n rowid h i a = tt
held_with_rowid [] (v ∷ vs) n rowid h i a = absurd a
held_with_rowid (c ∷ cs) [] n rowid h i a = absurd a
held_with_rowid (c ∷ cs) (v ∷ vs) zero rowid h i a = (rowid_held c rowid h (i c refl), a.1)
held_with_rowid (c ∷ cs) (v ∷ vs) (suc n) rowid h i a = (a.0, held_with_rowid cs vs n rowid h i a.1)
