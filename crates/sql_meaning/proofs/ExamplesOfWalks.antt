-- Walks at work: index lists, seeks, bounds, IN, unions.
use Rattle.std.specs.Prelude.{ℤ}
use Rattle.std.proofs.Common.{◌≡◌, pos, true, false, List, [], ◌∷◌, Some, None, refl}
use Rattle.sql_meaning.specs.Values.{Null, Dec, Text, Integer, Numeric}
use Rattle.sql_meaning.specs.Rows.{Row}
use Rattle.sql_meaning.specs.Expressions.{Lit, Param}
use Rattle.sql_meaning.specs.Schemas.{Schema}
use Rattle.sql_meaning.specs.Paths.{Path, RowidEq, RowidRange, IndexScan, IndexSeek, Union, Nowhere}
use Rattle.sql_meaning.specs.Paths.{Then, OneKey, ManyKeys, NullKey, walk}
use Rattle.sql_meaning.proofs.ExampleData.{int, row, rowids, table_of_columns, rising, falling}
use Rattle.sql_meaning.proofs.ExampleData.{index_on, number_key, plain_key, one, bound_at}

-- t(a INTEGER) with an index on a, and with one on a DESC; its rows hold 2, NULL, 3, 1 and 2
abbrev schema : Schema
schema = record {
  tables = table_of_columns (Integer ∷ []) ∷ [];
  indexes = index_on 0 (rising 0 ∷ []) ∷ index_on 0 (falling 0 ∷ []) ∷ [];
}

abbrev rows : List Row
rows =
    row 1 (int 2 ∷ []) ∷ row 2 (Null ∷ []) ∷ row 3 (int 3 ∷ []) ∷ row 4 (int 1 ∷ [])
    ∷ row 5 (int 2 ∷ []) ∷ []

-- the rowids of a walk, in its order
abbrev found : Path → List ℤ
found path = rowids (walk schema [] path rows (None ∷ []))

rising_list : found (IndexScan 0) ≡ pos 2 ∷ pos 4 ∷ pos 1 ∷ pos 5 ∷ pos 3 ∷ []
rising_list = refl

-- rowids rise among equal values, on a falling column too
falling_list : found (IndexScan 1) ≡ pos 3 ∷ pos 1 ∷ pos 5 ∷ pos 4 ∷ pos 2 ∷ []
falling_list = refl

-- a = 2, and a stretch of it
one_key : found (IndexSeek 0 (one (number_key 2)) None None) ≡ pos 1 ∷ pos 5 ∷ []
one_key = refl

null_key : found (IndexSeek 0 (one (plain_key (Lit Null))) None None) ≡ []
null_key = refl

is_null_part : found (IndexSeek 1 (NullKey ∷ []) None None) ≡ pos 2 ∷ []
is_null_part = refl

-- a <= 2: the NULLs are left out, at either end of the list
upper_alone : found (IndexSeek 0 [] None (bound_at (int 2) true)) ≡ pos 4 ∷ pos 1 ∷ pos 5 ∷ []
upper_alone = refl

upper_falling : found (IndexSeek 1 [] None (bound_at (int 2) true)) ≡ pos 1 ∷ pos 5 ∷ pos 4 ∷ []
upper_falling = refl

-- a < 3 and a > 1
between : found (IndexSeek 1 [] (bound_at (int 1) false) (bound_at (int 3) false))
    ≡ pos 1 ∷ pos 5 ∷ []
between = refl

null_bound : found (IndexSeek 0 [] None (bound_at Null true)) ≡ []
null_bound = refl

-- a IN (1, NULL, 3, 1.0): in the index's order, each class of equal keys once
in_list : found
    (IndexSeek 1
    (ManyKeys
    (number_key 1 ∷ plain_key (Lit Null) ∷ number_key 3 ∷ plain_key (Lit (Dec (pos 10000))) ∷ [])
    ∷ []) None None)
    ≡ pos 3 ∷ pos 4 ∷ []
in_list = refl

-- rowid > 2.5 and rowid < '': numbers stand before texts
rowid_range : found (RowidRange (bound_at (Dec (pos 25000)) false) (bound_at (Text []) false))
    ≡ pos 3 ∷ pos 4 ∷ pos 5 ∷ []
rowid_range = refl

rowid_seek : found (RowidEq (OneKey (number_key 4))) ≡ pos 4 ∷ []
rowid_seek = refl

-- a = 2 OR rowid >= 4: row 5 comes once, at its first coming
first_comings : found
    (Union
    (Then (IndexSeek 0 (one (number_key 2)) None None)
    (Then (RowidRange (bound_at (int 4) true) None) Nowhere)))
    ≡ pos 1 ∷ pos 5 ∷ pos 4 ∷ []
first_comings = refl

-- b < ? over an index on b DESC: of NULL, 1 and 5, with the parameter 5, there is 1
below_parameter : rowids
    (walk schema (int 5 ∷ [])
    (IndexSeek 1 []
    None
    (Some
    (record { key = record { expr = Param 1; conversion = Some Numeric }; inclusive = false })))
    (row 1 (Null ∷ []) ∷ row 2 (int 1 ∷ []) ∷ row 3 (int 5 ∷ []) ∷ []) (None ∷ []))
    ≡ pos 2 ∷ []
below_parameter = refl

-- a BETWEEN ? AND 5 with the parameter NULL: nothing
between_null : rowids
    (walk schema (Null ∷ [])
    (IndexSeek 0 []
    (Some (record { key = record { expr = Param 1; conversion = Some Numeric }; inclusive = true }))
    (bound_at (int 5) true))
    (row 1 (int 1 ∷ []) ∷ row 2 (int 2 ∷ []) ∷ []) (None ∷ []))
    ≡ []
between_null = refl
