-- Logarithms and costs at work.
use Rattle.std.proofs.Common.{◌≡◌, ℕ, Bool, true, false, List, [], ◌∷◌, Option, None, refl}
use Rattle.std.specs.Prelude.{map}
use Rattle.sql_meaning.specs.Paths.{EqPart, OneKey, ManyKeys, Edge, Path, TableScan, RowidEq}
use Rattle.sql_meaning.specs.Paths.{RowidRange, IndexScan, IndexSeek}
use Rattle.sql_meaning.proofs.ExampleData.{number_key}
use Rattle.plan_choice.specs.Logarithms.{log_est, log_add, seek_cost, sort_cost}
use Rattle.plan_choice.specs.Figures.{Figures}
use Rattle.plan_choice.specs.Costs.{size_of}
use Rattle.plan_choice.proofs.Worked.{bound_by}

logarithms : map log_est (0 ∷ 1 ∷ 2 ∷ 3 ∷ 4 ∷ 10 ∷ 20 ∷ 100 ∷ 1000 ∷ 1048576 ∷ [])
    ≡ 0 ∷ 0 ∷ 10 ∷ 16 ∷ 20 ∷ 33 ∷ 43 ∷ 66 ∷ 99 ∷ 200 ∷ []
logarithms = refl

sums : map (log_add 100) (100 ∷ 99 ∷ 98 ∷ 96 ∷ 95 ∷ 92 ∷ 91 ∷ 88 ∷ 82 ∷ 76 ∷ 51 ∷ 50 ∷ [])
    ≡ 110 ∷ 110 ∷ 109 ∷ 108 ∷ 108 ∷ 107 ∷ 106 ∷ 105 ∷ 104 ∷ 103 ∷ 101 ∷ 100 ∷ []
sums = refl

seeks : map seek_cost (200 ∷ 20 ∷ 10 ∷ []) ≡ 43 ∷ 10 ∷ 0 ∷ []
seeks = refl

sorts : map sort_cost (33 ∷ 199 ∷ 200 ∷ []) ≡ 80 ∷ 272 ∷ 273 ∷ []
sorts = refl

-- a table of which nothing is known, with an index on two columns, and a unique one on a column
abbrev figured : Figures
figured = record {
  tables = 200 ∷ [];
  indexes = (200 ∷ 33 ∷ 32 ∷ []) ∷ (200 ∷ 0 ∷ []) ∷ [];
  counted = [] ∷ [] ∷ [];
  unordered = [];
}

abbrev run_of : Bool → Path → ℕ
run_of covering path = (size_of figured 0 covering path).run

abbrev one : EqPart
one = OneKey (number_key 1)

abbrev three : EqPart
three = ManyKeys (number_key 1 ∷ number_key 2 ∷ number_key 3 ∷ [])

abbrev bound : Option Edge
bound = bound_by (number_key 1) true

scans : run_of false TableScan ∷ run_of true (IndexScan 0) ∷ run_of false (IndexScan 0) ∷ []
    ≡ 216 ∷ 210 ∷ 226 ∷ []
scans = refl

by_rowid : map (run_of false)
    (RowidEq one ∷ RowidEq three ∷ RowidRange bound bound ∷ [])
    ≡ 44 ∷ 60 ∷ 170 ∷ []
by_rowid = refl

-- one column equal, two columns, one with a bound behind it, a bound, two bounds, a list of three
abbrev seeks_in : List Path
seeks_in =
    IndexSeek 0 (one ∷ []) None None ∷ IndexSeek 0 (one ∷ one ∷ []) None None
    ∷ IndexSeek 0 (one ∷ []) bound None ∷ IndexSeek 0 [] bound None
    ∷ IndexSeek 0 [] bound bound ∷ IndexSeek 0 (three ∷ []) None None ∷ []

plain_seeks : map (run_of false) seeks_in ≡ 60 ∷ 59 ∷ 49 ∷ 201 ∷ 181 ∷ 76 ∷ []
plain_seeks = refl

covering_seeks : map (run_of true) seeks_in ≡ 51 ∷ 50 ∷ 45 ∷ 185 ∷ 165 ∷ 67 ∷ []
covering_seeks = refl

whole_key : run_of false (IndexSeek 1 (one ∷ []) None None) ≡ 46
whole_key = refl
