-- Tables, statements and rows for the examples.
use Rattle.std.specs.Prelude.{ℕ, ℤ, pos, Bool, true, false, List, [], ◌∷◌, map, Option, Some, None}
use Rattle.sql_meaning.specs.Values.{Value, Int, Affinity, Numeric, Binary}
use Rattle.sql_meaning.specs.Rows.{Row}
use Rattle.sql_meaning.specs.Expressions.{BExpr, Lit, Cmp, IsEqual}
use Rattle.sql_meaning.specs.Schemas.{Table, Index, IndexColumn}
use Rattle.sql_meaning.specs.Items.{Item}
use Rattle.sql_meaning.specs.Paths.{KeyExpr, EqPart, OneKey, Edge}
use Rattle.sql_meaning.specs.Statements.{Conjunct, Bound, SortKey}

abbrev pub int : ℕ → Value
int n = Int (pos n)

abbrev pub row : ℕ → List Value → Row
row n values = record { rowid = pos n; values = values }

abbrev pub rowids : List Row → List ℤ
rowids rows = map (λ r. r.rowid) rows

-- a table of columns of these affinities, under BINARY, without an alias of the rowid
abbrev pub table_of_columns : List Affinity → Table
table_of_columns affinities = record {
  columns = map (λ a. record { affinity = a; collation = Binary }) affinities;
  alias = None;
}

abbrev pub rising : ℕ → IndexColumn
rising column = record { column = column; collation = Binary; falling = false }

abbrev pub falling : ℕ → IndexColumn
falling column = record { column = column; collation = Binary; falling = true }

abbrev pub index_on : ℕ → List IndexColumn → Index
index_on table columns = record { table = table; columns = columns }

-- a table in a FROM clause, and one after LEFT JOIN
abbrev pub from : ℕ → Item
from table = record { table = table; cross = false; left = false }

abbrev pub left_join : ℕ → Item
left_join table = record { table = table; cross = false; left = true }

abbrev pub common : BExpr → Conjunct
common e = record { expr = e; owner = None }

abbrev pub owned : ℕ → BExpr → Conjunct
owned item e = record { expr = e; owner = Some item }

-- `left = right` where nothing is converted
abbrev pub equals : BExpr → BExpr → BExpr
equals left right = Cmp IsEqual left right None None Binary

-- `column = n`, of a column of a number
abbrev pub equals_number : BExpr → ℕ → BExpr
equals_number e n = Cmp IsEqual e (Lit (int n)) None (Some Numeric) Binary

abbrev pub converted_key : ℕ → KeyExpr
converted_key n = record { expr = Lit (int n); conversion = Some Numeric }

abbrev pub select : List Item → List BExpr → List Conjunct → List SortKey → Bound
select items results conjuncts keys = record {
  items = items;
  rowids = false;
  results = results;
  conjuncts = conjuncts;
  keys = keys;
  limit = None;
  offset = None;
}

abbrev pub rising_key : BExpr → SortKey
rising_key e = record { expr = e; collation = Binary; falling = false }

abbrev pub plain_key : BExpr → KeyExpr
plain_key e = record { expr = e; conversion = None }

abbrev pub number_key : ℕ → KeyExpr
number_key n = plain_key (Lit (int n))

-- the one equality part of a seek
abbrev pub one : KeyExpr → List EqPart
one key = OneKey key ∷ []

abbrev pub bound_at : Value → Bool → Option Edge
bound_at v inclusive = Some (record { key = plain_key (Lit v); inclusive = inclusive })
