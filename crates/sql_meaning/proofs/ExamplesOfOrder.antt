-- Order at work: what loops give by themselves, and when a plan sorts.
use Rattle.std.proofs.Common.{◌≡◌, ℕ, pos, true, false, List, [], ◌∷◌, Some, None, refl}
use Rattle.sql_meaning.specs.Values.{Integer, Nocase, Binary}
use Rattle.sql_meaning.specs.Rows.{Row}
use Rattle.sql_meaning.specs.Expressions.{BExpr, Column, Rowid}
use Rattle.sql_meaning.specs.Schemas.{Schema}
use Rattle.sql_meaning.specs.Paths.{Path, TableScan, RowidEq, IndexScan, IndexSeek, OneKey}
use Rattle.sql_meaning.specs.Paths.{ManyKeys}
use Rattle.sql_meaning.specs.Statements.{Bound, SortKey, Count}
use Rattle.sql_meaning.specs.Plans.{Loop}
use Rattle.sql_meaning.specs.OrderState.{state_number, State, Done, Lost, Open, state, directions}
use Rattle.sql_meaning.specs.Asked.{answer}
use Rattle.sql_meaning.proofs.ExampleData.{int, row, table_of_columns, rising, falling, index_on}
use Rattle.sql_meaning.proofs.ExampleData.{from, select, rising_key, number_key, one}

-- t(a, b) with an index on (a, b DESC)
abbrev schema : Schema
schema = record {
  tables = table_of_columns (Integer ∷ Integer ∷ []) ∷ [];
  indexes = index_on 0 (rising 0 ∷ falling 1 ∷ []) ∷ [];
}

abbrev one_item : Bound
one_item = select (from 0 ∷ []) (Column 0 0 ∷ []) [] []

abbrev loop : ℕ → Path → Loop
loop item path = record { item = item; path = path; reverse = false; consumed = [] }

abbrev after : Path → List SortKey → State
after path keys = state schema one_item (loop 0 path ∷ []) keys

abbrev falling_key : BExpr → SortKey
falling_key e = record { expr = e; collation = Binary; falling = true }

-- ORDER BY a, b DESC, and the reverse of both
along : after (IndexScan 0) (rising_key (Column 0 0) ∷ falling_key (Column 0 1) ∷ []) ≡ Done
along = refl

backward : directions schema one_item (loop 0 (IndexScan 0) ∷ [])
    (falling_key (Column 0 0) ∷ rising_key (Column 0 1) ∷ [])
    ≡ true ∷ []
backward = refl

-- a later key must go the same way
disagrees : after (IndexScan 0) (rising_key (Column 0 0) ∷ rising_key (Column 0 1) ∷ []) ≡ Lost
disagrees = refl

-- with a = 1, b and the rowid are left; with a IN (1, 2), a varies
held : after (IndexSeek 0 (one (number_key 1)) None None) (falling_key (Column 0 1) ∷ []) ≡ Done
held = refl

held_key : after (IndexSeek 0 (one (number_key 1)) None None)
    (falling_key (Column 0 0) ∷ falling_key (Column 0 1) ∷ rising_key (Rowid 0) ∷ [])
    ≡ Done
held_key = refl

many_keys : after (IndexSeek 0 (ManyKeys (number_key 1 ∷ number_key 2 ∷ []) ∷ []) None None)
    (falling_key (Column 0 1) ∷ [])
    ≡ Lost
many_keys = refl

-- another collation is another order
other_collation : after (IndexScan 0)
    (record { expr = Column 0 0; collation = Nocase; falling = false } ∷ [])
    ≡ Lost
other_collation = refl

-- the rows of one outer row stand together only if no two outer rows tie: a key of the second item
-- may follow the rowid of the first, not a column alone
abbrev two_items : Bound
two_items = select (from 0 ∷ from 0 ∷ []) (Column 0 0 ∷ []) [] []

after_rowid : state schema two_items (loop 0 TableScan ∷ loop 1 (IndexScan 0) ∷ [])
    (rising_key (Rowid 0) ∷ rising_key (Column 1 0) ∷ [])
    ≡ Done
after_rowid = refl

after_column : state schema two_items (loop 0 (IndexScan 0) ∷ loop 1 (IndexScan 0) ∷ [])
    (rising_key (Column 0 0) ∷ rising_key (Column 1 0) ∷ [])
    ≡ Lost
after_column = refl

still_open : state schema two_items (loop 0 (RowidEq (OneKey (number_key 1))) ∷ [])
    (rising_key (Column 0 1) ∷ rising_key (Column 1 0) ∷ [])
    ≡ Open (rising_key (Column 1 0) ∷ [])
still_open = refl

-- an open state is numbered by the keys that are passed
numbered : state_number (rising_key (Column 0 1) ∷ rising_key (Column 1 0) ∷ [])
    (Open (rising_key (Column 1 0) ∷ []))
    ≡ 3
numbered = refl

-- `SELECT a FROM t ORDER BY a LIMIT 1 OFFSET 1` by the index, over a = 3, 1, 2
abbrev second_row : Bound
second_row = record {
  items = from 0 ∷ [];
  rowids = false;
  results = Column 0 0 ∷ [];
  conjuncts = [];
  keys = rising_key (Column 0 0) ∷ [];
  limit = Some (Count (pos 1));
  offset = Some (Count (pos 1));
}

no_sort : state schema second_row (loop 0 (IndexScan 0) ∷ []) second_row.keys ≡ Done
no_sort = refl

abbrev rows : List Row
rows = row 1 (int 3 ∷ int 0 ∷ []) ∷ row 2 (int 1 ∷ int 0 ∷ []) ∷ row 3 (int 2 ∷ int 0 ∷ []) ∷ []

second : answer schema (rows ∷ [])
    (record { bound = second_row; loops = loop 0 (IndexScan 0) ∷ []; sort = false }) []
    ≡ (int 2 ∷ []) ∷ []
second = refl

-- and by a table scan with a sort
sorted : answer schema (rows ∷ [])
    (record { bound = second_row; loops = loop 0 TableScan ∷ []; sort = true }) []
    ≡ (int 2 ∷ []) ∷ []
sorted = refl
