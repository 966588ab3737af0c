-- What a name means (lang_expr, "Column Names"; lang_createtable, "ROWIDs and the INTEGER PRIMARY
-- KEY"; lang_expr, "Boolean Expressions", for TRUE and FALSE).
use Rattle.std.specs.Prelude.{ℕ, pos, ◌==◌, nat_lt, Bool, false, cond, if◌then◌else◌}
use Rattle.std.specs.Prelude.{Option, None, Some, option_map}
use Rattle.std.specs.Prelude.{List, [], ◌∷◌, ◌++◌, length, position, codes}
use Rattle.std.specs.Option.{option_or}
use Rattle.std.specs.List.{filter_map}
use Rattle.sql_meaning.specs.Letters.{folded_bytes}
use Rattle.sql_meaning.specs.Values.{Null, Int}
use Rattle.sql_meaning.specs.Expressions.{BExpr, Lit, Column, Rowid}
use Rattle.sql_meaning.specs.OrderState.{is_alias}
use Rattle.sql_meaning.specs.Statements.{numbers_from}
use Rattle.schema_model.specs.Names.{is_name, has_name}
use Rattle.schema_model.specs.Schemas.{found_column}
use Rattle.schema_model.specs.declared.tables.Table.{Table}
use Rattle.sql_names.specs.Scopes.{Scope, table_at}
use Rattle.sql_names.specs.declared.faults.BindFault.{BindFault}
use Rattle.sql_names.specs.declared.faults.BindFault.TheVariants.{NoSuchColumn, AmbiguousColumn}
use Rattle.sql_names.specs.declared.faults.BindFault.TheVariants.{RightName}

-- A name that is looked for in tables, `lower` here, has its letters made lower.

-- one of the three names of the rowid
abbrev pub is_rowid_name : List ℕ → Bool
is_rowid_name lower = has_name lower (codes "rowid" ∷ codes "oid" ∷ codes "_rowid_" ∷ [])

-- the column that is an alias of the rowid means the rowid
abbrev pub column_expr : Option ℕ → ℕ → ℕ → BExpr
column_expr alias item column = cond (is_alias alias column) (Rowid item) (Column item column)

-- an item's column of a name
abbrev pub column_in : ℕ → Option Table → List ℕ → Option BExpr
column_in item None lower = None
column_in item (Some table) lower =
    option_map (column_expr table.alias item) (found_column table lower)

abbrev pub rowid_in : ℕ → List ℕ → Option BExpr
rowid_in item lower = cond (is_rowid_name lower) (Some (Rowid item)) None

-- an item's column of a name, or else its rowid by one of the rowid's names
abbrev pub named_in : ℕ → Option Table → List ℕ → Option BExpr
named_in item table lower = option_or (column_in item table lower) (rowid_in item lower)

-- the number of the item that a name stands for
abbrev pub item_named : Scope → List ℕ → Option ℕ
item_named scope name = position (is_name (folded_bytes name)) scope.names

abbrev pub named_at : Scope → List ℕ → Option ℕ → Option BExpr
named_at scope lower None = None
named_at scope lower (Some item) = named_in item (table_at scope item) lower

-- the columns of a name, of all items
abbrev pub columns_named : Scope → List ℕ → List BExpr
columns_named scope lower =
    filter_map (λ item. column_in item (table_at scope item) lower)
    (numbers_from 0 (length scope.items))

pub data Meaning : Type 0 where
  Denotes : (e : BExpr) → Meaning
  Ambiguous : Meaning
  Unknown : Meaning

-- TRUE and FALSE are 1 and 0
abbrev pub constant : List ℕ → Meaning
constant lower =
    cond (is_name lower (codes "true")) (Denotes (Lit (Int (pos 1)))) (
    cond (is_name lower (codes "false")) (Denotes (Lit (Int (pos 0)))) Unknown)

-- the rowid of the one item
abbrev pub only_rowid : ℕ → Meaning
only_rowid count = cond (count == 1) (Denotes (Rowid 0)) Ambiguous

-- a name that no item has as a column
abbrev pub without_column : Scope → List ℕ → Meaning
without_column scope lower =
    cond (is_rowid_name lower) (only_rowid (length scope.items)) (constant lower)

abbrev pub among : List BExpr → Meaning → Meaning
among [] other = other
among (e ∷ []) other = Denotes e
among (e ∷ f ∷ es) other = Ambiguous

abbrev pub if_known : Option BExpr → Meaning
if_known None = Unknown
if_known (Some e) = Denotes e

abbrev pub bare_meaning : Scope → List ℕ → Meaning
bare_meaning scope lower = among (columns_named scope lower) (without_column scope lower)

-- a name behind its table's is looked for in that item alone, any other one in all of them; both
-- are as they are written
abbrev pub meaning_of : Scope → Option (List ℕ) → List ℕ → Meaning
meaning_of scope None name = bare_meaning scope (folded_bytes name)
meaning_of scope (Some table) name =
    if_known (named_at scope (folded_bytes name) (item_named scope table))

-- the name as it is written
abbrev pub shown : Option (List ℕ) → List ℕ → List ℕ
shown None name = name
shown (Some table) name = table ++ codes "." ++ name

-- what a name denotes is of an item to the right of the owner
abbrev pub is_right_of : Option ℕ → BExpr → Bool
is_right_of None e = false
is_right_of (Some owner) (Column item column) = nat_lt owner item
is_right_of (Some owner) (Rowid item) = nat_lt owner item
is_right_of (Some owner) e = false

-- a name in the ON condition of a LEFT JOIN, whose item is the owner, denotes nothing to the right
-- of that item (lang_select, "Determination of input data"); any other name has no owner
abbrev pub meaning_check : Option ℕ → Meaning → List ℕ → Option BindFault
meaning_check owner (Denotes e) text = if is_right_of owner e then Some (RightName text) else None
meaning_check owner Ambiguous text = Some (AmbiguousColumn text)
meaning_check owner Unknown text = Some (NoSuchColumn text)

abbrev pub name_check : Scope → Option ℕ → Option (List ℕ) → List ℕ → Option BindFault
name_check scope owner table name =
    meaning_check owner (meaning_of scope table name) (shown table name)

-- NULL stands where a name means nothing
abbrev pub meant_expr : Meaning → BExpr
meant_expr (Denotes e) = e
meant_expr Ambiguous = Lit Null
meant_expr Unknown = Lit Null

abbrev pub name_expr : Scope → Option (List ℕ) → List ℕ → BExpr
name_expr scope table name = meant_expr (meaning_of scope table name)
