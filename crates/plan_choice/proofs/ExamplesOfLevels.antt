-- A join of three tables, level by level.
use Rattle.std.proofs.Common.{◌≡◌, ℕ, List, [], ◌∷◌, ◌++◌, refl, map}
use Rattle.sql_meaning.specs.Expressions.{Lit, Column}
use Rattle.sql_meaning.specs.Schemas.{Schema}
use Rattle.sql_meaning.proofs.ExampleData.{int, rising, index_on, from}
use Rattle.sql_meaning.proofs.ExampleData.{common, equals, select}
use Rattle.plan_choice.specs.Figures.{figures}
use Rattle.plan_choice.specs.Settings.{Statement, Setting, setting}
use Rattle.plan_choice.specs.Prefixes.{Prefix, items_of, empty_prefix}
use Rattle.plan_choice.specs.Choice.{levels, written}
use Rattle.plan_choice.proofs.Worked.{two_columns, all_columns, asks}

-- a1(x, y), b1(x, z) and c1(z, w), with the candidates a1(x), b1(x, z), b1(z) and c1(w, z)
abbrev chain : Schema
chain = record {
  tables = two_columns ∷ two_columns ∷ two_columns ∷ [];
  indexes =
      index_on 0 (rising 0 ∷ []) ∷ index_on 1 (rising 0 ∷ rising 1 ∷ [])
      ∷ index_on 1 (rising 1 ∷ []) ∷ index_on 2 (rising 1 ∷ rising 0 ∷ []) ∷ [];
}

-- SELECT * FROM a1, b1, c1 WHERE a1.x = b1.x AND b1.z = c1.z AND c1.w = 7
abbrev asked : Statement
asked =
    asks
    (select (from 0 ∷ from 1 ∷ from 2 ∷ [])
    (all_columns 0 2 ++ (all_columns 1 2 ++ all_columns 2 2))
    (common (equals (Column 0 0) (Column 1 0)) ∷ common (equals (Column 1 1) (Column 2 0))
    ∷ common (equals (Column 2 1) (Lit (int 7))) ∷ []) [])
    ((0 ∷ 1 ∷ []) ∷ (0 ∷ 1 ∷ []) ∷ (0 ∷ 1 ∷ []) ∷ [])

abbrev planned : Setting
planned = setting chain (figures chain [] [] 100) asked

-- a prefix by its items, its cost and its rows
record Level : Type 0 where
  pub items : List ℕ
  pub cost : ℕ
  pub rows : ℕ

abbrev level : List ℕ → ℕ → ℕ → Level
level items cost rows = record { items = items; cost = cost; rows = rows }

abbrev told : Prefix → Level
told p = level (items_of p.loops) p.cost p.rows

-- what is kept of so many loops
abbrev kept : ℕ → List Level
kept count = map told (levels planned count (empty_prefix planned ∷ []))

-- c1 by (w, z), b1 by a scan of (x, z), a1 by a scan of the table
first_level : kept 1 ≡ level (2 ∷ []) 51 33 ∷ level (1 ∷ []) 210 200 ∷ level (0 ∷ []) 216 200 ∷ []
first_level = refl

-- c1 and b1 by (z); c1 and a1 by a scan; a1 and b1 by (x, z)
second_level : kept 2
    ≡ level (2 ∷ 1 ∷ []) 94 66 ∷ level (2 ∷ 0 ∷ []) 249 233 ∷ level (0 ∷ 1 ∷ []) 252 233 ∷ []
second_level = refl

-- c1, b1 and a1 by (x)
third_level : kept 3 ≡ level (2 ∷ 1 ∷ 0 ∷ []) 127 99 ∷ []
third_level = refl

-- the last of the plan in written order is c1 by (w, z), with both columns equal to something
in_written_order : told (written planned) ≡ level (0 ∷ 1 ∷ 2 ∷ []) 285 265
in_written_order = refl
