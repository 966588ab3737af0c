-- The walk of a sorted list: equality parts on its first columns, bounds on the next one.
use Rattle.std.specs.Prelude.{Bool, List, cond, ◌||◌, Option, Some, None, false, true, [], not, ◌∷◌}
use Rattle.std.specs.Prelude.{◌&&◌}
use Rattle.std.specs.Ordering.{is_lt, is_le, is_gt, is_ge, eq_by_cmp}
use Rattle.std.specs.List.{filter, flat_map}
use Rattle.list_laws.specs.Stretch.{stretch}
use Rattle.list_laws.specs.Order.{sort_by}
use Rattle.list_laws.specs.FirstComing.{keep_first}
use Rattle.sql_meaning.specs.Values.{Value, Collation, value_cmp, is_null, Null}
use Rattle.sql_meaning.specs.Rows.{Row, Site, site_value}
use Rattle.sql_meaning.specs.IndexLists.{SortColumn, column_cmp}
use Rattle.sql_meaning.specs.Expressions.{IsEqual, IsAbove, IsAtLeast, IsBelow, IsAtMost}
use Rattle.sql_meaning.specs.Evaluation.{compares, equals_any}

-- an end of a range, its key already a value
pub record End : Type 0 where
  pub key : Value
  pub inclusive : Bool

-- an equality part, its keys already values: `= key`, `IN (keys)`, `IS NULL`
pub data Part : Type 0 where
  One : (key : Value) → Part
  Many : (keys : List Value) → Part
  NullPart : Part

-- the value stands before the range: a NULL does, and what is below the lower end
abbrev pub is_below : Collation → Option End → Value → Bool
is_below collation None v = is_null v
is_below collation (Some e) v =
    is_null v
    || cond e.inclusive (is_lt (value_cmp collation v e.key)) (is_le (value_cmp collation v e.key))

-- the value stands past the range
abbrev pub is_above : Collation → Option End → Value → Bool
is_above collation None v = false
is_above collation (Some e) v =
    cond e.inclusive (is_gt (value_cmp collation v e.key)) (is_ge (value_cmp collation v e.key))

-- from the lower end to the upper one; on a falling column the ends change places, and the walk
-- ends before the NULLs
abbrev pub range_walk : Bool → Collation → Site → Option End → Option End → List Row → List Row
range_walk true collation site low high rows =
    stretch (λ row. is_above collation high (site_value site row))
    (λ row. is_below collation low (site_value site row)) rows
range_walk false collation site low high rows =
    stretch (λ row. is_below collation low (site_value site row))
    (λ row. is_above collation high (site_value site row)) rows

-- a bound whose key is NULL takes nothing
abbrev pub bounds_walk : SortColumn → Option End → Option End → List Row → List Row
bounds_walk s None None rows = rows
bounds_walk s None (Some h) rows =
    cond (is_null h.key) [] (range_walk s.falling s.collation s.site None (Some h) rows)
bounds_walk s (Some l) None rows =
    cond (is_null l.key) [] (range_walk s.falling s.collation s.site (Some l) None rows)
bounds_walk s (Some l) (Some h) rows =
    cond (is_null l.key || is_null h.key) []
    (range_walk s.falling s.collation s.site (Some l) (Some h) rows)

-- skips the entries that stand before the key in the column's direction, and takes entries until
-- one is past it
abbrev pub key_stretch : SortColumn → Value → List Row → List Row
key_stretch s key rows =
    stretch (λ row. is_lt (column_cmp s (site_value s.site row) key))
    (λ row. is_gt (column_cmp s (site_value s.site row) key)) rows

-- the keys of an IN that are not NULL, in the column's order, one of those that are the same in it:
-- so no row comes twice, and rows come in the index's order
abbrev pub walked_keys : SortColumn → List Value → List Value
walked_keys s keys =
    keep_first (eq_by_cmp (column_cmp s)) []
    (sort_by (column_cmp s) (filter (λ key. not (is_null key)) keys))

-- the parts stand on the first columns, the bounds on the next
abbrev pub seek : List SortColumn → List Part → Option End → Option End → List Row → List Row
seek [] parts low high rows = rows
seek (s ∷ ss) [] low high rows = bounds_walk s low high rows
seek (s ∷ ss) (One key ∷ parts) low high rows =
    cond (is_null key) [] (seek ss parts low high (key_stretch s key rows))
seek (s ∷ ss) (Many keys ∷ parts) low high rows =
    flat_map (λ key. seek ss parts low high (key_stretch s key rows)) (walked_keys s keys)
seek (s ∷ ss) (NullPart ∷ parts) low high rows = seek ss parts low high (key_stretch s Null rows)

abbrev pub part_holds : Collation → Part → Value → Bool
part_holds collation (One key) v = compares IsEqual collation v key
part_holds collation (Many keys) v = equals_any collation keys v
part_holds collation NullPart v = is_null v

abbrev pub low_holds : Collation → Option End → Value → Bool
low_holds collation None v = true
low_holds collation (Some e) v = compares (cond e.inclusive IsAtLeast IsAbove) collation v e.key

abbrev pub high_holds : Collation → Option End → Value → Bool
high_holds collation None v = true
high_holds collation (Some e) v = compares (cond e.inclusive IsAtMost IsBelow) collation v e.key

-- what a walk stands for: each part and each bound is true of the row
abbrev pub parts_hold : List SortColumn → List Part → Option End → Option End → Row → Bool
parts_hold [] parts low high row = true
parts_hold (s ∷ ss) [] low high row =
    low_holds s.collation low (site_value s.site row)
    && high_holds s.collation high (site_value s.site row)
parts_hold (s ∷ ss) (p ∷ parts) low high row =
    part_holds s.collation p (site_value s.site row) && parts_hold ss parts low high row
