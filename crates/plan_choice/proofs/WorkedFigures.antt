-- Requests over rows and over given figures, and the advice on them: what another reading of the
-- same rules answers. All are over CREATE TABLE x1(a,b,c), and all but the first three over
-- CREATE INDEX i1 ON x1(a) besides.
use Rattle.std.proofs.Common.{◌≡◌, ℕ, false, List, [], ◌∷◌, Some, None, refl}
use Rattle.std.specs.Prelude.{codes}
use Rattle.sql_meaning.specs.Values.{Binary}
use Rattle.sql_meaning.specs.Expressions.{Lit, Column, Cmp, IsAbove}
use Rattle.sql_meaning.specs.Paths.{TableScan, IndexSeek, OneKey}
use Rattle.sql_meaning.specs.Plans.{Loop}
use Rattle.sql_meaning.specs.Schemas.{Index}
use Rattle.sql_meaning.specs.Statements.{Conjunct}
use Rattle.sql_meaning.proofs.ExampleData.{int, row, rising, index_on, from, common, equals, select}
use Rattle.sql_meaning.proofs.ExampleData.{plain_key}
use Rattle.plan_choice.specs.GivenFigures.{Given}
use Rattle.plan_choice.specs.Settings.{Statement}
use Rattle.plan_choice.specs.Advice.{Request, Sampled, AsGiven}
use Rattle.plan_choice.proofs.Worked.{told, asked, says, plan, PlanTold, three_columns}
use Rattle.plan_choice.proofs.Worked.{all_columns, asks, bound_by, forward}

-- SELECT * FROM x1 WHERE ..
abbrev asks_where : List Conjunct → Statement
asks_where conjuncts =
    asks (select (from 0 ∷ []) (all_columns 0 3) conjuncts []) ((0 ∷ 1 ∷ 2 ∷ []) ∷ [])

-- a=1
abbrev a_is_1 : Statement
a_is_1 = asks_where (common (equals (Column 0 0) (Lit (int 1))) ∷ [])

-- a>1
abbrev a_is_above_1 : Statement
a_is_above_1 = asks_where (common (Cmp IsAbove (Column 0 0) (Lit (int 1)) None None Binary) ∷ [])

abbrev on_a : Index
on_a = index_on 0 (rising 0 ∷ [])

-- the seek by a=1 in the one index
abbrev by_a_is_1 : Loop
by_a_is_1 = forward 0 (IndexSeek 0 (OneKey (plain_key (Lit (int 1))) ∷ []) None None) (0 ∷ [])

-- the plan of one such loop, that nothing is better than
abbrev alone : Loop → ℕ → List ℕ → PlanTold
alone loop cost fresh = plan (loop ∷ []) false (false ∷ []) cost cost fresh

abbrev by_scan : ℕ → PlanTold
by_scan cost = alone (forward 0 TableScan []) cost []

-- SELECT * FROM x1 WHERE a=1 over (1,0,0), (1,0,0), (2,0,0) and (1,0,0), with -sample ..
abbrev over_four_rows : ℕ → Request
over_four_rows percent = record {
  schema = record { tables = three_columns ∷ []; indexes = [] };
  unique = [];
  database =
      (row 1 (int 1 ∷ int 0 ∷ int 0 ∷ []) ∷ row 2 (int 1 ∷ int 0 ∷ int 0 ∷ [])
      ∷ row 3 (int 2 ∷ int 0 ∷ int 0 ∷ []) ∷ row 4 (int 1 ∷ int 0 ∷ int 0 ∷ []) ∷ []) ∷ [];
  statements = a_is_1 ∷ [];
  percent = percent;
  source = Sampled;
}

all_rows : told (over_four_rows 100)
    ≡ says (on_a ∷ []) (20 ∷ []) ((20 ∷ 10 ∷ []) ∷ []) (alone by_a_is_1 34 (0 ∷ []) ∷ [])
    (0 ∷ [])
all_rows = refl

every_other_row : told (over_four_rows 50)
    ≡ says (on_a ∷ []) (10 ∷ []) ((10 ∷ 10 ∷ []) ∷ []) (by_scan 26 ∷ []) []
every_other_row = refl

no_rows : told (over_four_rows 0)
    ≡ says (on_a ∷ []) (200 ∷ []) ((200 ∷ 33 ∷ []) ∷ []) (alone by_a_is_1 60 (0 ∷ []) ∷ [])
    (0 ∷ [])
no_rows = refl

-- INSERT INTO sqlite_stat1 VALUES('x1','i1','..')
abbrev of_i1 : List ℕ → Given
of_i1 stat = record { table = codes "x1"; index = Some (codes "i1"); stat = stat }

-- with -stat given
abbrev given : List Given → List Statement → Request
given rows statements = record {
  schema = record { tables = three_columns ∷ []; indexes = on_a ∷ [] };
  unique = [];
  database = [];
  statements = statements;
  percent = 100;
  source = AsGiven (record { tables = codes "x1" ∷ []; indexes = codes "i1" ∷ [] }) rows;
}

-- with -stat sampled
not_taken : told (asked (three_columns ∷ []) (on_a ∷ []) (a_is_1 ∷ []))
    ≡ says [] (200 ∷ []) ((200 ∷ 33 ∷ []) ∷ []) (alone by_a_is_1 60 [] ∷ []) []
not_taken = refl

taken : told (given (of_i1 (codes "1000 10") ∷ []) (a_is_1 ∷ a_is_above_1 ∷ []))
    ≡ says [] (99 ∷ []) ((99 ∷ 33 ∷ []) ∷ [])
    (alone by_a_is_1 57 []
    ∷ alone
    (forward 0 (IndexSeek 0 [] (bound_by (plain_key (Lit (int 1))) false) None) (0 ∷ [])) 100 []
    ∷ [])
    []
taken = refl

-- an unordered index serves no bound
unordered_index : told
    (given (of_i1 (codes "1000 10 unordered") ∷ []) (a_is_1 ∷ a_is_above_1 ∷ []))
    ≡ says [] (99 ∷ []) ((99 ∷ 33 ∷ []) ∷ []) (alone by_a_is_1 57 [] ∷ by_scan 115 ∷ []) []
unordered_index = refl

-- the row doesn't count
too_few_numbers : told (given (of_i1 (codes "1000") ∷ []) (a_is_1 ∷ []))
    ≡ says [] (200 ∷ []) ((200 ∷ 33 ∷ []) ∷ []) (alone by_a_is_1 60 [] ∷ []) []
too_few_numbers = refl

-- of several rows the last one that counts
last_row : told
    (given (of_i1 (codes "8 4") ∷ of_i1 (codes "1000 10") ∷ of_i1 (codes "1000") ∷ [])
    (a_is_1 ∷ []))
    ≡ says [] (99 ∷ []) ((99 ∷ 33 ∷ []) ∷ []) (alone by_a_is_1 57 [] ∷ []) []
last_row = refl

-- INSERT INTO sqlite_stat1 VALUES('x1',NULL,'500')
row_of_the_table : told
    (given
    (of_i1 (codes "1000 10")
    ∷ (record { table = codes "x1"; index = None; stat = codes "500" }) ∷ []) (asks_where [] ∷ []))
    ≡ says [] (89 ∷ []) ((99 ∷ 33 ∷ []) ∷ []) (by_scan 105 ∷ []) []
row_of_the_table = refl
