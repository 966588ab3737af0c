-- Requests with ORDER BY, and the advice on them: what another reading of the same rules
-- answers.
use Rattle.std.proofs.Common.{◌≡◌, true, false, [], ◌∷◌, ◌++◌, Some, None, refl}
use Rattle.std.specs.Prelude.{codes}
use Rattle.sql_meaning.specs.Values.{Text, TextAffinity, BlobAffinity, Binary, Nocase}
use Rattle.sql_meaning.specs.Expressions.{Lit, Column, Rowid, Collate, Cmp, IsEqual, IsAbove}
use Rattle.sql_meaning.specs.Paths.{TableScan, IndexScan, IndexSeek, OneKey}
use Rattle.sql_meaning.proofs.ExampleData.{int, rising, falling, index_on, from, common, equals}
use Rattle.sql_meaning.proofs.ExampleData.{select, rising_key, plain_key}
use Rattle.plan_choice.proofs.Worked.{told, asked, says, plan, two_columns, three_columns}
use Rattle.plan_choice.proofs.Worked.{falling_key, all_columns, asks, compared, rising_nocase}
use Rattle.plan_choice.proofs.Worked.{forward, backward}

-- CREATE TABLE t(a TEXT COLLATE NOCASE, b);
-- SELECT * FROM t WHERE a='x' ORDER BY a COLLATE BINARY;
-- SELECT * FROM t WHERE a='x' ORDER BY a
other_collation : told
    (asked
    ((record {
      columns = compared TextAffinity Nocase ∷ compared BlobAffinity Binary ∷ [];
      alias = None;
    }) ∷ [])
    []
    (asks
    (select (from 0 ∷ []) (all_columns 0 2)
    (common
    (Cmp IsEqual (Column 0 0) (Lit (Text (codes "x"))) None
    (Some TextAffinity) Nocase) ∷ [])
    (rising_key (Collate (Column 0 0) Binary) ∷ []))
    ((0 ∷ 1 ∷ []) ∷ [])
    ∷ asks
    (select (from 0 ∷ []) (all_columns 0 2)
    (common
    (Cmp IsEqual (Column 0 0) (Lit (Text (codes "x"))) None
    (Some TextAffinity) Nocase) ∷ [])
    ((record { expr = Column 0 0; collation = Nocase; falling = false }) ∷ []))
    ((0 ∷ 1 ∷ []) ∷ []) ∷ []))
    ≡ says (index_on 0 (rising_nocase 0 ∷ []) ∷ []) (200 ∷ []) ((200 ∷ 33 ∷ []) ∷ [])
    (plan
    (forward 0
    (IndexSeek 0
    (OneKey
    (record {
      expr = Lit (Text (codes "x"));
      conversion = Some TextAffinity;
    }) ∷ [])
    None None)
    (0 ∷ []) ∷ [])
    true (false ∷ []) 83 83 (0 ∷ [])
    ∷ plan
    (forward 0
    (IndexSeek 0
    (OneKey
    (record {
      expr = Lit (Text (codes "x"));
      conversion = Some TextAffinity;
    }) ∷ [])
    None None)
    (0 ∷ []) ∷ [])
    false (false ∷ []) 60 60 (0 ∷ []) ∷ [])
    (0 ∷ [])
other_collation = refl

-- CREATE TABLE t(a,b);
-- CREATE INDEX ta ON t(a);
-- SELECT a FROM t ORDER BY a DESC, rowid DESC;
-- SELECT a FROM t ORDER BY a DESC, rowid
rowid_behind : told
    (asked (two_columns ∷ []) (index_on 0 (rising 0 ∷ []) ∷ [])
    (asks
    (select (from 0 ∷ []) (Column 0 0 ∷ []) []
    (falling_key (Column 0 0) ∷ falling_key (Rowid 0) ∷ []))
    ((0 ∷ []) ∷ [])
    ∷ asks
    (select (from 0 ∷ []) (Column 0 0 ∷ []) []
    (falling_key (Column 0 0) ∷ rising_key (Rowid 0) ∷ []))
    ((0 ∷ []) ∷ []) ∷ []))
    ≡ says (index_on 0 (falling 0 ∷ []) ∷ []) (200 ∷ []) ((200 ∷ 33 ∷ []) ∷ (200 ∷ 33 ∷ []) ∷ [])
    (plan (backward 0 (IndexScan 0) [] ∷ []) false (true ∷ []) 210 210 []
    ∷ plan (forward 0 (IndexScan 1) [] ∷ []) false (true ∷ []) 210 273 (0 ∷ []) ∷ [])
    (0 ∷ [])
rowid_behind = refl

-- CREATE TABLE x1(a,b,c);
-- SELECT a FROM x1 ORDER BY a
index_for_an_order : told
    (asked (three_columns ∷ []) []
    (asks (select (from 0 ∷ []) (Column 0 0 ∷ []) [] (rising_key (Column 0 0) ∷ []))
    ((0 ∷ []) ∷ []) ∷ []))
    ≡ says (index_on 0 (rising 0 ∷ []) ∷ []) (200 ∷ []) ((200 ∷ 33 ∷ []) ∷ [])
    (plan (forward 0 (IndexScan 0) [] ∷ []) false (true ∷ []) 210 210 (0 ∷ []) ∷ []) (0 ∷ [])
index_for_an_order = refl

-- CREATE TABLE t(a,b);
-- SELECT a FROM t ORDER BY a, rowid DESC
falling_rowid_behind : told
    (asked (two_columns ∷ []) []
    (asks
    (select (from 0 ∷ []) (Column 0 0 ∷ []) []
    (rising_key (Column 0 0) ∷ falling_key (Rowid 0) ∷ []))
    ((0 ∷ []) ∷ []) ∷ []))
    ≡ says [] (200 ∷ []) [] (plan (forward 0 TableScan [] ∷ []) true (false ∷ []) 273 273 [] ∷ [])
    []
falling_rowid_behind = refl

-- CREATE TABLE t0(a,b,c);
-- CREATE TABLE t1(a,b,c);
-- SELECT * FROM t0, t1 WHERE t0.a=t1.a AND t0.a > 0 AND t0.c = 2 ORDER BY t0.b DESC
order_against_cost : told
    (asked (three_columns ∷ three_columns ∷ []) []
    (asks
    (select (from 0 ∷ from 1 ∷ []) (all_columns 0 3 ++ all_columns 1 3)
    (common (equals (Column 0 0) (Column 1 0))
    ∷ common (Cmp IsAbove (Column 0 0) (Lit (int 0)) None None Binary)
    ∷ common (equals (Column 0 2) (Lit (int 2))) ∷ [])
    (falling_key (Column 0 1) ∷ []))
    ((0 ∷ 1 ∷ 2 ∷ []) ∷ (0 ∷ 1 ∷ 2 ∷ []) ∷ []) ∷ []))
    ≡ says
    (index_on 0 (rising 2 ∷ rising 0 ∷ falling 1 ∷ [])
    ∷ index_on 0 (rising 2 ∷ falling 1 ∷ [])
    ∷ index_on 1 (rising 0 ∷ []) ∷ [])
    (200 ∷ 200 ∷ []) ((200 ∷ 33 ∷ 32 ∷ 30 ∷ []) ∷ (200 ∷ 33 ∷ 32 ∷ []) ∷ (200 ∷ 33 ∷ []) ∷ [])
    (plan
    (forward 0
    (IndexSeek 1 (OneKey (plain_key (Lit (int 2))) ∷ []) None None) (2 ∷ [])
    ∷ forward 1 (IndexSeek 2 (OneKey (plain_key (Column 0 0)) ∷ []) None None)
    (0 ∷ []) ∷ [])
    false (false ∷ false ∷ []) 93 101 (1 ∷ 2 ∷ []) ∷ [])
    (1 ∷ 2 ∷ [])
order_against_cost = refl

-- CREATE TABLE t0(a,b,c);
-- CREATE TABLE t1(a,b,c);
-- CREATE TABLE t2(a,b,c);
-- CREATE TABLE t3(a,b,c);
-- SELECT * FROM t0, t1, t2, t3 WHERE t3.b=t1.b AND t2.c = 1 ORDER BY t0.b DESC
order_of_four : told
    (asked (three_columns ∷ three_columns ∷ three_columns ∷ three_columns ∷ []) []
    (asks
    (select (from 0 ∷ from 1 ∷ from 2 ∷ from 3 ∷ [])
    (all_columns 0 3 ++ all_columns 1 3 ++ all_columns 2 3 ++ all_columns 3 3)
    (common (equals (Column 3 1) (Column 1 1))
    ∷ common (equals (Column 2 2) (Lit (int 1))) ∷ [])
    (falling_key (Column 0 1) ∷ []))
    ((0 ∷ 1 ∷ 2 ∷ [])
    ∷ (0 ∷ 1 ∷ 2 ∷ [])
    ∷ (0 ∷ 1 ∷ 2 ∷ [])
    ∷ (0 ∷ 1 ∷ 2 ∷ []) ∷ []) ∷ []))
    ≡ says
    (index_on 0 (falling 1 ∷ [])
    ∷ index_on 1 (rising 1 ∷ [])
    ∷ index_on 2 (rising 2 ∷ [])
    ∷ index_on 3 (rising 1 ∷ []) ∷ [])
    (200 ∷ 200 ∷ 200 ∷ 200 ∷ [])
    ((200 ∷ 33 ∷ []) ∷ (200 ∷ 33 ∷ []) ∷ (200 ∷ 33 ∷ []) ∷ (200 ∷ 33 ∷ []) ∷ [])
    (plan
    (forward 0 (IndexScan 0) []
    ∷ forward 1 TableScan []
    ∷ forward 3 (IndexSeek 3 (OneKey (plain_key (Column 1 1)) ∷ []) None None)
    (0 ∷ [])
    ∷ forward 2
    (IndexSeek 2 (OneKey (plain_key (Lit (int 1))) ∷ []) None None) (1 ∷ [])
    ∷ [])
    false (false ∷ false ∷ false ∷ false ∷ []) 494 551 (0 ∷ 2 ∷ 3 ∷ []) ∷ [])
    (0 ∷ 2 ∷ 3 ∷ [])
order_of_four = refl
