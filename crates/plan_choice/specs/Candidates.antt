-- Candidates, the indexes that are worth a try: on the columns of a scan that are equal to
-- something, and behind them those of the order, or one with a bound.
use Rattle.std.specs.Prelude.{ℕ, Bool, true, false, ◌&&◌, ◌||◌, ◌==◌, cond, List, [], ◌∷◌}
use Rattle.std.specs.Prelude.{◌++◌, map, length}
use Rattle.std.specs.List.{flat_map}
use Rattle.sql_meaning.specs.Orders.{same_collation, same_flag}
use Rattle.sql_meaning.specs.Schemas.{Index, IndexColumn}
use Rattle.plan_choice.specs.Scans.{Scan, apart_from}

-- the lists of columns that a candidate may begin with: those that are equal to anything; those
-- that are equal to constants or to columns of one item; those that are equal to constants
abbrev pub starts : Scan → List (List IndexColumn)
starts s =
    (s.equal ++ s.joined) ∷ (map (λ columns. s.equal ++ columns) s.by_item ++ s.equal ∷ [])

abbrev pub then_order : List IndexColumn → List IndexColumn → List (List IndexColumn)
then_order start [] = []
then_order start (c ∷ cs) = (start ++ apart_from start (c ∷ cs)) ∷ []

-- a start with the columns of the order behind it, with the column of each bound, and alone
abbrev pub lists_from : Scan → List IndexColumn → List (List IndexColumn)
lists_from s start =
    then_order start s.order
    ++ (map (λ r. start ++ r ∷ []) (apart_from start s.bounds) ++ start ∷ [])

abbrev pub lists_of : Scan → List (List IndexColumn)
lists_of s = flat_map (lists_from s) (starts s)

abbrev pub same_entry : IndexColumn → IndexColumn → Bool
same_entry a b =
    (a.column == b.column)
    && (same_collation a.collation b.collation && same_flag a.falling b.falling)

-- a list begins with these columns, under the same collations and directions
abbrev pub is_prefix : List IndexColumn → List IndexColumn → Bool
is_prefix [] ds = true
is_prefix (c ∷ cs) [] = false
is_prefix (c ∷ cs) (d ∷ ds) = same_entry c d && is_prefix cs ds

-- an index on the table begins with these columns, so that one of them alone serves no better; nor
-- does an index without columns
abbrev pub is_served : ℕ → List IndexColumn → List Index → Bool
is_served table columns [] = length columns == 0
is_served table columns (index ∷ indexes) =
    ((index.table == table) && is_prefix columns index.columns) || is_served table columns indexes

-- `known` has the indexes of the schema, and behind them the candidates so far
abbrev pub add_list : ℕ → List Index → List IndexColumn → List Index
add_list table known columns =
    cond (is_served table columns known) known
    (known ++ record { table = table; columns = columns } ∷ [])

abbrev pub add_lists : ℕ → List Index → List (List IndexColumn) → List Index
add_lists table known [] = known
add_lists table known (columns ∷ lists) = add_lists table (add_list table known columns) lists

-- the indexes, and behind them a candidate for each list of each scan that none so far begins with
abbrev pub with_candidates : List Index → List Scan → List Index
with_candidates known [] = known
with_candidates known (s ∷ ss) = with_candidates (add_lists s.table known (lists_of s)) ss

-- how many candidates are tried at most
abbrev pub candidate_limit : ℕ
candidate_limit = 2000
