-- What order nested loops give by themselves, and when a plan must sort (optoverview, "ORDER BY
-- Optimizations").
use Rattle.std.specs.Prelude.{Bool, true, false, ℕ, ◌==◌, Option, Some, None, cond, List, [], ◌∷◌}
use Rattle.std.specs.Prelude.{slice_get, ◌&&◌, ◌||◌, not, ◌+◌, ◌-◌, length, ◌≡◌, map, fold}
use Rattle.sql_meaning.specs.Values.{Collation, Binary}
use Rattle.sql_meaning.specs.Rows.{Site, AtRowid, AtColumn}
use Rattle.sql_meaning.specs.Paths.{EqPart, OneKey, ManyKeys, NullKey, Path, TableScan, RowidEq}
use Rattle.sql_meaning.specs.Paths.{RowidRange, IndexScan, IndexSeek, Union}
use Rattle.sql_meaning.specs.Schemas.{IndexColumn, Index, Schema}
use Rattle.sql_meaning.specs.Orders.{same_collation, same_site, same_flag}
use Rattle.sql_meaning.specs.Expressions.{ColumnRef, bare_column}
use Rattle.sql_meaning.specs.Statements.{SortKey, Bound, item_alias}
use Rattle.sql_meaning.specs.Plans.{Loop, Plan}

-- a column that a path walks in order, and whether one key holds it, so that it doesn't vary
pub record Position : Type 0 where
  pub site : Site
  pub collation : Collation
  pub falling : Bool
  pub held : Bool

abbrev pub is_one_key : EqPart → Bool
is_one_key (OneKey key) = true
is_one_key (ManyKeys keys) = false
is_one_key NullKey = true

-- the alias of the rowid is the rowid
abbrev pub is_alias : Option ℕ → ℕ → Bool
is_alias None column = false
is_alias (Some alias) column = alias == column

abbrev pub column_site : Option ℕ → ℕ → Site
column_site alias column = cond (is_alias alias column) AtRowid (AtColumn column)

abbrev pub rest_parts : List EqPart → List EqPart
rest_parts [] = []
rest_parts (p ∷ ps) = ps

abbrev pub first_held : List EqPart → Bool
first_held [] = false
first_held (p ∷ ps) = is_one_key p

-- the rowid rises along a table, and among entries of an index that tie
abbrev pub rowid_position : Bool → Position
rowid_position held =
    record { site = AtRowid; collation = Binary; falling = false; held = held }

-- the index's columns, then the rowid; after the alias nothing varies any more
abbrev pub index_positions : Option ℕ → List IndexColumn → List EqPart → List Position
index_positions alias [] eqs = rowid_position false ∷ []
index_positions alias (c ∷ cs) eqs =
    record {
      site = column_site alias c.column;
      collation = c.collation;
      falling = c.falling;
      held = first_held eqs;
    } ∷ cond (is_alias alias c.column) [] (index_positions alias cs (rest_parts eqs))

abbrev pub columns_at : Option Index → List IndexColumn
columns_at None = []
columns_at (Some index) = index.columns

-- the columns that a path walks in order
abbrev pub positions : Schema → Option ℕ → Path → List Position
positions schema alias TableScan = rowid_position false ∷ []
positions schema alias (RowidEq part) = rowid_position (is_one_key part) ∷ []
positions schema alias (RowidRange low high) = rowid_position false ∷ []
positions schema alias (IndexScan index) =
    index_positions alias (columns_at (slice_get schema.indexes index)) []
positions schema alias (IndexSeek index eqs low high) =
    index_positions alias (columns_at (slice_get schema.indexes index)) eqs
positions schema alias (Union branches) = []

-- one key, or IS NULL, holds this column under this collation
abbrev pub part_held : Option ℕ → List IndexColumn → List EqPart → Site → Collation → Bool
part_held alias [] eqs site collation = false
part_held alias (c ∷ cs) [] site collation = false
part_held alias (c ∷ cs) (p ∷ ps) site collation =
    (is_one_key p
    && (same_site (column_site alias c.column) site && same_collation c.collation collation))
    || part_held alias cs ps site collation

abbrev pub path_held : Schema → Option ℕ → Path → Site → Collation → Bool
path_held schema alias (IndexSeek index eqs low high) site collation =
    part_held alias (columns_at (slice_get schema.indexes index)) eqs site collation
path_held schema alias path site collation = false

abbrev pub on_item : ℕ → Option ColumnRef → Bool
on_item item None = false
on_item item (Some c) = c.item == item

abbrev pub test_column : ℕ → (Site → Bool) → Option ColumnRef → Bool
test_column item test None = false
test_column item test (Some c) = (c.item == item) && test c.site

-- the key is a column of this item that one key holds under the same collation: all its rows tie by
-- it
abbrev pub key_held : Schema → Option ℕ → ℕ → Path → SortKey → Bool
key_held schema alias item path k =
    test_column item (λ site. path_held schema alias path site k.collation) (bare_column k.expr)

-- the key is the column of this position, under the same collation
abbrev pub key_matches : ℕ → Position → SortKey → Bool
key_matches item p k =
    test_column item (λ site. same_site p.site site && same_collation p.collation k.collation)
    (bare_column k.expr)

-- the position goes the key's way only if the walk is reversed
abbrev pub needs_backward : Position → SortKey → Bool
needs_backward p k = not (same_flag k.falling p.falling)

-- how far a walk gives the order: it loses it, or leaves those keys that it does not give, and goes
-- in a direction once a match fixed one (`true` for backward)
pub data Passing : Type 0 where
  Loses : Passing
  Leaves : (keys : List SortKey) (direction : Option Bool) → Passing

abbrev pub drop_held : (SortKey → Bool) → List SortKey → List SortKey
drop_held held [] = []
drop_held held (k ∷ ks) = cond (held k) (drop_held held ks) (k ∷ ks)

-- the first match fixes the direction of the walk, and each later one must agree
abbrev pub agrees : Option Bool → Bool → Bool
agrees None needed = true
agrees (Some d) needed = same_flag d needed

-- a held position is passed; another one gives the next key, if that is its column and goes along
abbrev pub pass_next : ℕ → Position → Option Bool → List SortKey → Passing
pass_next item p direction [] = Leaves [] direction
pass_next item p direction (k ∷ ks) =
    cond p.held (Leaves (k ∷ ks) direction)
    (cond (key_matches item p k && agrees direction (needs_backward p k))
    (Leaves ks (Some (needs_backward p k))) Loses)

-- the step at a position: keys that are held are passed, and then at most one more
abbrev pub pass_position : ℕ → (SortKey → Bool) → Passing → Position → Passing
pass_position item held Loses p = Loses
pass_position item held (Leaves keys direction) p =
    pass_next item p direction (drop_held held keys)

-- a seek of one rowid gives one row at most, so it passes each next key that is a column of its
-- item
abbrev pub is_single : Path → Bool
is_single (RowidEq part) = is_one_key part
is_single path = false

-- a union gives no order
abbrev pub lost_by : Path → Bool
lost_by (Union branches) = true
lost_by path = false

abbrev pub loop_passes : Schema → Bound → Loop → List SortKey → Passing
loop_passes schema bound loop keys =
    cond (lost_by loop.path) Loses
    (cond (is_single loop.path)
    (Leaves (drop_held (λ k. on_item loop.item (bare_column k.expr)) keys) None)
    (fold
    (pass_position loop.item
    (key_held schema (item_alias schema bound loop.item) loop.item loop.path)) (Leaves keys None)
    (positions schema (item_alias schema bound loop.item) loop.path)))

-- done: the rows come in order, whatever the loops inside do. Open: each loop so far gives no two
-- rows that tie, and these keys are left. Lost: the plan must sort
pub data State : Type 0 where
  Done : State
  Lost : State
  Open : (left : List SortKey) → State

abbrev pub open_for : List SortKey → State
open_for [] = Done
open_for (k ∷ ks) = Open (k ∷ ks)

abbrev pub state_after : Passing → State
state_after Loses = Lost
state_after (Leaves keys direction) = open_for keys

-- the step of a loop, which is looked at only while the state is open
abbrev pub pass_loop : Schema → Bound → State → Loop → State
pass_loop schema bound Done loop = Done
pass_loop schema bound Lost loop = Lost
pass_loop schema bound (Open keys) loop = state_after (loop_passes schema bound loop keys)

-- the order state of loops, from outside in
abbrev pub state : Schema → Bound → List Loop → List SortKey → State
state schema bound loops keys = fold (pass_loop schema bound) (open_for keys) loops

-- done 0, lost 1, and open 2 more than the number of keys that are passed
abbrev pub state_number : List SortKey → State → ℕ
state_number keys Done = 0
state_number keys Lost = 1
state_number keys (Open left) = 2 + (length keys - length left)

abbrev pub is_done : State → Bool
is_done Done = true
is_done Lost = false
is_done (Open left) = false

abbrev pub is_backward : Passing → Bool
is_backward Loses = false
is_backward (Leaves keys None) = false
is_backward (Leaves keys (Some d)) = d

-- a loop's direction, `true` for backward; one that isn't looked at goes forward
abbrev pub direction : Schema → Bound → State → Loop → Bool
direction schema bound Done loop = false
direction schema bound Lost loop = false
direction schema bound (Open keys) loop = is_backward (loop_passes schema bound loop keys)

abbrev pub directions_from : Schema → Bound → State → List Loop → List Bool
directions_from schema bound s [] = []
directions_from schema bound s (l ∷ ls) =
    direction schema bound s l ∷ directions_from schema bound (pass_loop schema bound s l) ls

-- each loop's direction
abbrev pub directions : Schema → Bound → List Loop → List SortKey → List Bool
directions schema bound loops keys = directions_from schema bound (open_for keys) loops

-- the plan sorts exactly where its loops don't give the order; where they do, each walks in its
-- direction, and where they don't, all walk forward
pub record FitsOrder (schema : Schema) (plan : Plan) : Type 0 where
  pub sorts : plan.sort ≡ not (is_done (state schema plan.bound plan.loops plan.bound.keys))
  pub reverses : is_done (state schema plan.bound plan.loops plan.bound.keys) ≡ true
      → map (λ l. l.reverse) plan.loops ≡ directions schema plan.bound plan.loops plan.bound.keys
  pub forward : is_done (state schema plan.bound plan.loops plan.bound.keys) ≡ false
      → map (λ l. l.reverse) plan.loops ≡ map (λ l. false) plan.loops
