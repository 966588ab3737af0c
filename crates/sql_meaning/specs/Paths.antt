-- The ways to a table's rows: scans, seeks by rowid or index, and unions of them (eqp).
use Rattle.std.specs.Prelude.{Option, List, Bool, ℕ, map, Some, None, [], ◌∷◌, ◌++◌, false, ◌||◌}
use Rattle.std.specs.Prelude.{true}
use Rattle.std.specs.Ordering.{int_cmp, on, eq_by_cmp}
use Rattle.list_laws.specs.FirstComing.{keep_first}
use Rattle.sql_meaning.specs.Values.{Affinity, Value}
use Rattle.sql_meaning.specs.Conversions.{converted_by}
use Rattle.sql_meaning.specs.Expressions.{BExpr}
use Rattle.sql_meaning.specs.Rows.{Assignment, Row}
use Rattle.sql_meaning.specs.Evaluation.{ev}
use Rattle.sql_meaning.specs.Walks.{Part, One, Many, NullPart, End, seek, parts_hold}
use Rattle.sql_meaning.specs.IndexLists.{SortColumn, by_rowid, sort_columns, index_entries}
use Rattle.sql_meaning.specs.Schemas.{Schema}

-- a key: an expression over the items placed before, with its conversion
pub record KeyExpr : Type 0 where
  pub expr : BExpr
  pub conversion : Option Affinity

-- an equality part of a seek: `= key`, `IN (keys)`, `IS NULL`
pub data EqPart : Type 0 where
  OneKey : (key : KeyExpr) → EqPart
  ManyKeys : (keys : List KeyExpr) → EqPart
  NullKey : EqPart

-- an end of the range of a seek
pub record Edge : Type 0 where
  pub key : KeyExpr
  pub inclusive : Bool

-- an index is given by its number in the schema; a list of paths is a type of its own
mutual
  pub data Path : Type 0 where
    TableScan : Path
    RowidEq : (part : EqPart) → Path
    RowidRange : (low high : Option Edge) → Path
    IndexScan : (index : ℕ) → Path
    IndexSeek : (index : ℕ) (eqs : List EqPart) (low high : Option Edge) → Path
    Union : (branches : Paths) → Path

  pub data Paths : Type 0 where
    Nowhere : Paths
    Then : (path : Path) (paths : Paths) → Paths

abbrev pub key_value : Assignment → List Value → KeyExpr → Value
key_value env params k = converted_by k.conversion (ev env params k.expr)

abbrev pub part_value : Assignment → List Value → EqPart → Part
part_value env params (OneKey key) = One (key_value env params key)
part_value env params (ManyKeys keys) = Many (map (key_value env params) keys)
part_value env params NullKey = NullPart

abbrev pub end_value : Assignment → List Value → Option Edge → Option End
end_value env params None = None
end_value env params (Some e) =
    Some (record { key = key_value env params e.key; inclusive = e.inclusive })

-- what a path that isn't a union seeks along, and by
pub record SeekForm : Type 0 where
  pub columns : List SortColumn
  pub eqs : List EqPart
  pub low : Option Edge
  pub high : Option Edge

abbrev pub form_of : Schema → Path → SeekForm
form_of schema TableScan = record { columns = []; eqs = []; low = None; high = None }
form_of schema (RowidEq part) =
    record { columns = by_rowid ∷ []; eqs = part ∷ []; low = None; high = None }
form_of schema (RowidRange low high) =
    record { columns = by_rowid ∷ []; eqs = []; low = low; high = high }
form_of schema (IndexScan index) =
    record { columns = sort_columns schema index; eqs = []; low = None; high = None }
form_of schema (IndexSeek index eqs low high) =
    record { columns = sort_columns schema index; eqs = eqs; low = low; high = high }
form_of schema (Union branches) = record { columns = []; eqs = []; low = None; high = None }

-- the list that a path goes along: the rows by rowid, or the index's list
abbrev pub path_list : Schema → Path → List Row → List Row
path_list schema TableScan rows = rows
path_list schema (RowidEq part) rows = rows
path_list schema (RowidRange low high) rows = rows
path_list schema (IndexScan index) rows = index_entries (sort_columns schema index) rows
path_list schema (IndexSeek index eqs low high) rows =
    index_entries (sort_columns schema index) rows
path_list schema (Union branches) rows = rows

abbrev pub form_walk : SeekForm → List Value → Assignment → List Row → List Row
form_walk f params env rows =
    seek f.columns (map (part_value env params) f.eqs) (end_value env params f.low)
    (end_value env params f.high) rows

abbrev pub form_holds : SeekForm → List Value → Assignment → Row → Bool
form_holds f params env row =
    parts_hold f.columns (map (part_value env params) f.eqs) (end_value env params f.low)
    (end_value env params f.high) row

abbrev pub same_rowid : Row → Row → Bool
same_rowid = eq_by_cmp (on (λ row. row.rowid) int_cmp)

-- the rows that a path gives, for given rows of the placed items, in its order; a union walks its
-- branches in turn and keeps each rowid at its first coming
abbrev mutual
  pub walk : Schema → List Value → Path → List Row → Assignment → List Row
  walk schema params TableScan rows env =
      form_walk (form_of schema TableScan) params env (path_list schema TableScan rows)
  walk schema params (RowidEq part) rows env =
      form_walk (form_of schema (RowidEq part)) params env (path_list schema (RowidEq part) rows)
  walk schema params (RowidRange low high) rows env =
      form_walk (form_of schema (RowidRange low high)) params env
      (path_list schema (RowidRange low high) rows)
  walk schema params (IndexScan index) rows env =
      form_walk (form_of schema (IndexScan index)) params env
      (path_list schema (IndexScan index) rows)
  walk schema params (IndexSeek index eqs low high) rows env =
      form_walk (form_of schema (IndexSeek index eqs low high)) params env
      (path_list schema (IndexSeek index eqs low high) rows)
  walk schema params (Union branches) rows env =
      keep_first same_rowid [] (walks schema params branches rows env)

  pub walks : Schema → List Value → Paths → List Row → Assignment → List Row
  walks schema params Nowhere rows env = []
  walks schema params (Then path paths) rows env =
      walk schema params path rows env ++ walks schema params paths rows env

-- each key that the path carries is true of the row; of a union, in some branch
abbrev mutual
  pub carried : Schema → List Value → Path → Assignment → Row → Bool
  carried schema params TableScan env row = form_holds (form_of schema TableScan) params env row
  carried schema params (RowidEq part) env row =
      form_holds (form_of schema (RowidEq part)) params env row
  carried schema params (RowidRange low high) env row =
      form_holds (form_of schema (RowidRange low high)) params env row
  carried schema params (IndexScan index) env row =
      form_holds (form_of schema (IndexScan index)) params env row
  carried schema params (IndexSeek index eqs low high) env row =
      form_holds (form_of schema (IndexSeek index eqs low high)) params env row
  carried schema params (Union branches) env row = any_carried schema params branches env row

  pub any_carried : Schema → List Value → Paths → Assignment → Row → Bool
  any_carried schema params Nowhere env row = false
  any_carried schema params (Then path paths) env row =
      carried schema params path env row || any_carried schema params paths env row

abbrev pub is_union : Path → Bool
is_union TableScan = false
is_union (RowidEq part) = false
is_union (RowidRange low high) = false
is_union (IndexScan index) = false
is_union (IndexSeek index eqs low high) = false
is_union (Union branches) = true
