-- The column that is the rowid has affinity INTEGER.
use Rattle.std.proofs.Common.{◌≡◌, ℕ, zero, suc, Bool, ◌&&◌, cond, nat_lt, count_by, List, [], ◌∷◌}
use Rattle.std.proofs.Common.{slice_get, Option, None, Some, option_and_then, refl, subst}
use Rattle.sql_meaning.specs.Values.{Integer}
use Rattle.sql_value.specs.View.{plain_affinity}
use Rattle.sql_tokens.specs.declared.token.Token.{Token}
use Rattle.schema_model.specs.Columns.{rowid_column, as_rowid}
use Rattle.schema_model.specs.declared.columns.Column.{Column}
use Rattle.schema_model.specs.declared.tables.Table.{Table}
use Rattle.schema_text.specs.Cursor.{NameAndRest}
use Rattle.schema_text.specs.Groups.{Enclosed, first_enclosed, parts_of}
use Rattle.schema_text.specs.Keys.{key_constraints_of}
use Rattle.schema_text.specs.TableTexts.{columns_of, has_any, integer_flags, alias_of, made_table}
use Rattle.schema_text.specs.TableTexts.{table_options, table_of_items, table_of}
use Rattle.schema_text.specs.declared.keys.KeyConstraint.{KeyConstraint}
use Rattle.schema_text.specs.declared.table_texts.TableText.{TableText}
use Rattle.schema_read.proofs.Cases.{MayBe, chosen, and_then}

abbrev pub IsAliased : Table → Type 0
IsAliased table = (number : ℕ) (column : Column) → table.alias ≡ Some number
    → slice_get table.columns number ≡ Some column → plain_affinity column.affinity ≡ Integer

abbrev pub IsAliasedText : TableText → Type 0
IsAliasedText made = IsAliased made.table

some_is : {X : Type 0} (x y : X) → Some x ≡ Some y → x ≡ y
some_is x y e = cc

integer_column : (columns : List Column) (number : ℕ) (column : Column)
    → slice_get (as_rowid columns number) number ≡ Some column
    → plain_affinity column.affinity ≡ Integer
integer_column [] number column e = absurd (cc)
integer_column (c ∷ cs) zero column e =
    subst (λ (x : Column). plain_affinity x.affinity ≡ Integer) (some_is (rowid_column c) column e)
    refl
integer_column (c ∷ cs) (suc number) column e = integer_column cs number column e

made_aliased : (text : List ℕ) (name : Token) (columns : List Column) (keys : List KeyConstraint)
    (alias : Option ℕ) → IsAliasedText (made_table text name columns keys alias)
made_aliased text name columns keys None number column e f = absurd (cc)
made_aliased text name columns keys (Some n) number column e f =
    integer_column columns number column
    (subst (λ (m : ℕ). slice_get (as_rowid columns m) number ≡ Some column) (some_is n number e)
    f)

abbrev with_keys : List ℕ → Token → List (List Token) → List Column → List KeyConstraint
    → Option TableText
with_keys text name items columns keys =
    cond (nat_lt 1 (count_by (λ key. key.primary) keys)) None
    (Some (made_table text name columns keys (alias_of (integer_flags text items) keys)))

abbrev with_columns : List ℕ → Token → Bool → List (List Token) → List Column → Option TableText
with_columns text name strict items columns =
    cond (strict && has_any text items) None
    (option_and_then (with_keys text name items columns) (key_constraints_of text columns 0 items))

with_keys_aliased : (text : List ℕ) (name : Token) (items : List (List Token))
    (columns : List Column) (keys : List KeyConstraint)
    → MayBe IsAliasedText (with_keys text name items columns keys)
with_keys_aliased text name items columns keys =
    chosen (MayBe IsAliasedText) (nat_lt 1 (count_by (λ key. key.primary) keys)) None _ tt
    (made_aliased text name columns keys (alias_of (integer_flags text items) keys))

with_columns_aliased : (text : List ℕ) (name : Token) (strict : Bool) (items : List (List Token))
    (columns : List Column) → MayBe IsAliasedText (with_columns text name strict items columns)
with_columns_aliased text name strict items columns =
    chosen (MayBe IsAliasedText) (strict && has_any text items) None
    (option_and_then (with_keys text name items columns) (key_constraints_of text columns 0 items))
    tt (and_then IsAliasedText (with_keys text name items columns)
    (key_constraints_of text columns 0 items)
    (with_keys_aliased text name items columns))

items_aliased : (text : List ℕ) (name : Token) (strict : Bool) (items : List (List Token))
    → MayBe IsAliasedText (table_of_items text name strict items)
items_aliased text name strict items =
    and_then IsAliasedText (with_columns text name strict items) (columns_of text items)
    (with_columns_aliased text name strict items)

abbrev with_options : List ℕ → NameAndRest → Enclosed → Option TableText
with_options text named enclosed =
    option_and_then (λ strict. table_of_items text named.name strict
    (parts_of text enclosed.inside)) (table_options text enclosed.rest)

with_options_aliased : (text : List ℕ) (named : NameAndRest) (enclosed : Enclosed)
    → MayBe IsAliasedText (with_options text named enclosed)
with_options_aliased text named enclosed =
    and_then IsAliasedText
    (λ strict. table_of_items text named.name strict (parts_of text enclosed.inside))
    (table_options text enclosed.rest)
    (λ strict. items_aliased text named.name strict (parts_of text enclosed.inside))

pub table_aliased : (text : List ℕ) (named : NameAndRest)
    → MayBe IsAliasedText (table_of text named)
table_aliased text named =
    and_then IsAliasedText (with_options text named) (first_enclosed text named.rest)
    (with_options_aliased text named)
