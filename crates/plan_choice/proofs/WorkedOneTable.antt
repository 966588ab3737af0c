-- Requests over one table, and the advice on them: what another reading of the same rules answers.
use Rattle.std.proofs.Common.{◌≡◌, pos, true, false, [], ◌∷◌, Some, None, refl}
use Rattle.std.specs.Prelude.{codes}
use Rattle.sql_meaning.specs.Values.{Dec, Text, Integer, Numeric, TextAffinity, BlobAffinity}
use Rattle.sql_meaning.specs.Values.{Binary, Nocase}
use Rattle.sql_meaning.specs.Expressions.{Lit, Param, Column, Rowid, Plus, Cmp, OneOf, Like, All}
use Rattle.sql_meaning.specs.Expressions.{Any, Nil, More, IsBelow, IsAtMost, IsAbove}
use Rattle.sql_meaning.specs.Paths.{TableScan, RowidEq, RowidRange, IndexSeek, Union, Nowhere, Then}
use Rattle.sql_meaning.specs.Paths.{OneKey, ManyKeys}
use Rattle.sql_meaning.proofs.ExampleData.{int, table_of_columns, rising, falling, index_on, from}
use Rattle.sql_meaning.proofs.ExampleData.{common, equals, equals_number, converted_key, select}
use Rattle.sql_meaning.proofs.ExampleData.{plain_key}
use Rattle.plan_choice.proofs.Worked.{told, asked, says, plan, three_columns, all_columns, asks}
use Rattle.plan_choice.proofs.Worked.{compared, rising_nocase, bound_by, forward}

-- CREATE TABLE x1(a,b,c);
-- SELECT * FROM x1 WHERE a=? AND b>?
equality_and_bound : told
    (asked (three_columns ∷ []) []
    (asks
    (select (from 0 ∷ []) (all_columns 0 3)
    (common (equals (Column 0 0) (Param 1))
    ∷ common (Cmp IsAbove (Column 0 1) (Param 2) None None Binary) ∷ [])
    [])
    ((0 ∷ 1 ∷ 2 ∷ []) ∷ []) ∷ []))
    ≡ says (index_on 0 (rising 0 ∷ rising 1 ∷ []) ∷ []) (200 ∷ []) ((200 ∷ 33 ∷ 32 ∷ []) ∷ [])
    (plan
    (forward 0
    (IndexSeek 0 (OneKey (plain_key (Param 1)) ∷ [])
    (bound_by (plain_key (Param 2)) false) None)
    (0 ∷ 1 ∷ []) ∷ [])
    false (false ∷ []) 49 49 (0 ∷ []) ∷ [])
    (0 ∷ [])
equality_and_bound = refl

-- CREATE TABLE x1(a,b,c);
-- CREATE INDEX i1 ON x1(a,b);
-- SELECT * FROM x1 WHERE a=? AND b>?
index_is_there : told
    (asked (three_columns ∷ []) (index_on 0 (rising 0 ∷ rising 1 ∷ []) ∷ [])
    (asks
    (select (from 0 ∷ []) (all_columns 0 3)
    (common (equals (Column 0 0) (Param 1))
    ∷ common (Cmp IsAbove (Column 0 1) (Param 2) None None Binary) ∷ [])
    [])
    ((0 ∷ 1 ∷ 2 ∷ []) ∷ []) ∷ []))
    ≡ says [] (200 ∷ []) ((200 ∷ 33 ∷ 32 ∷ []) ∷ [])
    (plan
    (forward 0
    (IndexSeek 0 (OneKey (plain_key (Param 1)) ∷ [])
    (bound_by (plain_key (Param 2)) false) None)
    (0 ∷ 1 ∷ []) ∷ [])
    false (false ∷ []) 49 49 [] ∷ [])
    []
index_is_there = refl

-- CREATE TABLE t(id INTEGER PRIMARY KEY, a);
-- SELECT * FROM t WHERE rowid=5;
-- SELECT a FROM t WHERE id>5 AND id<=9
rowid : told
    (asked
    ((record {
      columns = compared Integer Binary ∷ compared BlobAffinity Binary ∷ [];
      alias = Some 0;
    }) ∷ [])
    []
    (asks
    (select (from 0 ∷ []) (Rowid 0 ∷ Column 0 1 ∷ [])
    (common (equals_number (Rowid 0) 5) ∷ []) [])
    ((1 ∷ []) ∷ [])
    ∷ asks
    (select (from 0 ∷ []) (Column 0 1 ∷ [])
    (common
    (Cmp IsAbove (Rowid 0) (Lit (int 5)) None (Some Numeric) Binary)
    ∷ common
    (Cmp IsAtMost (Rowid 0) (Lit (int 9)) None (Some Numeric) Binary)
    ∷ [])
    [])
    ((1 ∷ []) ∷ []) ∷ []))
    ≡ says [] (200 ∷ []) []
    (plan (forward 0 (RowidEq (OneKey (converted_key 5))) (0 ∷ []) ∷ []) false
    (false ∷ []) 44 44 []
    ∷ plan
    (forward 0
    (RowidRange (bound_by (converted_key 5) false)
    (bound_by (converted_key 9) true))
    (0 ∷ 1 ∷ []) ∷ [])
    false (false ∷ []) 170 170 [] ∷ [])
    []
rowid = refl

-- CREATE TABLE t(a INTEGER, b);
-- SELECT * FROM t WHERE a IN (1,'1',1.0)
in_list : told
    (asked (table_of_columns (Integer ∷ BlobAffinity ∷ []) ∷ []) []
    (asks
    (select (from 0 ∷ []) (all_columns 0 2)
    (common
    (OneOf false (Column 0 0)
    (More (Lit (int 1))
    (More (Lit (Text (codes "1")))
    (More (Lit (Dec (pos 10000))) Nil)))
    (Some Numeric) Binary) ∷ [])
    [])
    ((0 ∷ 1 ∷ []) ∷ []) ∷ []))
    ≡ says (index_on 0 (rising 0 ∷ []) ∷ []) (200 ∷ []) ((200 ∷ 33 ∷ []) ∷ [])
    (plan
    (forward 0
    (IndexSeek 0
    (ManyKeys
    (converted_key 1
    ∷ (record {
      expr = Lit (Text (codes "1"));
      conversion = Some Numeric;
    })
    ∷ (record {
      expr = Lit (Dec (pos 10000));
      conversion = Some Numeric;
    }) ∷ []) ∷ [])
    None None)
    (0 ∷ []) ∷ [])
    false (false ∷ []) 76 76 (0 ∷ []) ∷ [])
    (0 ∷ [])
in_list = refl

-- CREATE TABLE x1(a,b,c);
-- SELECT * FROM x1 WHERE +a = 5
plus_hides_a_column : told
    (asked (three_columns ∷ []) []
    (asks
    (select (from 0 ∷ []) (all_columns 0 3)
    (common (equals (Plus (Column 0 0)) (Lit (int 5))) ∷ []) [])
    ((0 ∷ 1 ∷ 2 ∷ []) ∷ []) ∷ []))
    ≡ says [] (200 ∷ []) []
    (plan (forward 0 TableScan [] ∷ []) false (false ∷ []) 216 216 [] ∷ []) []
plus_hides_a_column = refl

-- CREATE TABLE x1(a,b,c);
-- SELECT * FROM x1 WHERE (a=1 AND b=2) OR c=3
union : told
    (asked (three_columns ∷ []) []
    (asks
    (select (from 0 ∷ []) (all_columns 0 3)
    (common
    (Any
    (More
    (All
    (More (equals (Column 0 0) (Lit (int 1)))
    (More (equals (Column 0 1) (Lit (int 2))) Nil)))
    (More (equals (Column 0 2) (Lit (int 3))) Nil))) ∷ [])
    [])
    ((0 ∷ 1 ∷ 2 ∷ []) ∷ []) ∷ []))
    ≡ says (index_on 0 (rising 0 ∷ rising 1 ∷ []) ∷ index_on 0 (rising 2 ∷ []) ∷ []) (200 ∷ [])
    ((200 ∷ 33 ∷ 32 ∷ []) ∷ (200 ∷ 33 ∷ []) ∷ [])
    (plan
    (forward 0
    (Union
    (Then
    (IndexSeek 0
    (OneKey (plain_key (Lit (int 1)))
    ∷ OneKey (plain_key (Lit (int 2))) ∷ [])
    None None)
    (Then
    (IndexSeek 1 (OneKey (plain_key (Lit (int 3))) ∷ [])
    None None)
    Nowhere)))
    [] ∷ [])
    false (false ∷ []) 70 70 (0 ∷ 1 ∷ []) ∷ [])
    (0 ∷ 1 ∷ [])
union = refl

-- CREATE TABLE x1(a,b,c);
-- SELECT * FROM x1 WHERE a=1 OR a=2
or_as_in : told
    (asked (three_columns ∷ []) []
    (asks
    (select (from 0 ∷ []) (all_columns 0 3)
    (common
    (Any
    (More (equals (Column 0 0) (Lit (int 1)))
    (More (equals (Column 0 0) (Lit (int 2))) Nil))) ∷ [])
    [])
    ((0 ∷ 1 ∷ 2 ∷ []) ∷ []) ∷ []))
    ≡ says (index_on 0 (rising 0 ∷ []) ∷ []) (200 ∷ []) ((200 ∷ 33 ∷ []) ∷ [])
    (plan
    (forward 0
    (IndexSeek 0
    (ManyKeys
    (plain_key (Lit (int 1))
    ∷ plain_key (Lit (int 2)) ∷ []) ∷ [])
    None None)
    (0 ∷ []) ∷ [])
    false (false ∷ []) 70 70 (0 ∷ []) ∷ [])
    (0 ∷ [])
or_as_in = refl

-- CREATE TABLE x1(a,b,c);
-- SELECT * FROM x1 WHERE a=1 OR +b=2
or_with_a_useless_branch : told
    (asked (three_columns ∷ []) []
    (asks
    (select (from 0 ∷ []) (all_columns 0 3)
    (common
    (Any
    (More (equals (Column 0 0) (Lit (int 1)))
    (More (equals (Plus (Column 0 1)) (Lit (int 2))) Nil)))
    ∷ [])
    [])
    ((0 ∷ 1 ∷ 2 ∷ []) ∷ []) ∷ []))
    ≡ says [] (200 ∷ []) []
    (plan (forward 0 TableScan [] ∷ []) false (false ∷ []) 216 216 [] ∷ []) []
or_with_a_useless_branch = refl

-- CREATE TABLE t(b INT);
-- CREATE INDEX tb ON t(b DESC);
-- SELECT b FROM t WHERE b < ?
falling_column : told
    (asked (table_of_columns (Integer ∷ []) ∷ []) (index_on 0 (falling 0 ∷ []) ∷ [])
    (asks
    (select (from 0 ∷ []) (Column 0 0 ∷ [])
    (common
    (Cmp IsBelow (Column 0 0) (Param 1) None (Some Numeric) Binary)
    ∷ [])
    [])
    ((0 ∷ []) ∷ []) ∷ []))
    ≡ says (index_on 0 (rising 0 ∷ []) ∷ []) (200 ∷ []) ((200 ∷ 33 ∷ []) ∷ (200 ∷ 33 ∷ []) ∷ [])
    (plan
    (forward 0
    (IndexSeek 0 [] None
    (bound_by (record { expr = Param 1; conversion = Some Numeric })
    false))
    (0 ∷ []) ∷ [])
    false (true ∷ []) 185 185 [] ∷ [])
    []
falling_column = refl

-- CREATE TABLE t(a TEXT COLLATE NOCASE, b);
-- SELECT b FROM t WHERE a LIKE 'ab%'
like_of_nocase : told
    (asked
    ((record {
      columns = compared TextAffinity Nocase ∷ compared BlobAffinity Binary ∷ [];
      alias = None;
    }) ∷ [])
    []
    (asks
    (select (from 0 ∷ []) (Column 0 1 ∷ [])
    (common (Like false (Column 0 0) (Lit (Text (codes "ab%")))) ∷ []) [])
    ((0 ∷ 1 ∷ []) ∷ []) ∷ []))
    ≡ says (index_on 0 (rising_nocase 0 ∷ []) ∷ []) (200 ∷ []) ((200 ∷ 33 ∷ []) ∷ [])
    (plan
    (forward 0
    (IndexSeek 0 []
    (bound_by (plain_key (Lit (Text (codes "ab")))) true)
    (bound_by (plain_key (Lit (Text (codes "ac")))) false))
    [] ∷ [])
    false (false ∷ []) 181 181 (0 ∷ []) ∷ [])
    (0 ∷ [])
like_of_nocase = refl

-- CREATE TABLE t(a TEXT, b);
-- SELECT b FROM t WHERE a LIKE 'ab%'
like_of_binary : told
    (asked (table_of_columns (TextAffinity ∷ BlobAffinity ∷ []) ∷ []) []
    (asks
    (select (from 0 ∷ []) (Column 0 1 ∷ [])
    (common (Like false (Column 0 0) (Lit (Text (codes "ab%")))) ∷ []) [])
    ((0 ∷ 1 ∷ []) ∷ []) ∷ []))
    ≡ says [] (200 ∷ []) []
    (plan (forward 0 TableScan [] ∷ []) false (false ∷ []) 216 216 [] ∷ []) []
like_of_binary = refl

-- CREATE TABLE x1(a,b,c);
-- CREATE INDEX x1_idx_00000061 ON x1(c);
-- SELECT c FROM x1 WHERE a=1;
-- SELECT c FROM x1 WHERE b=1
two_candidates : told
    (asked (three_columns ∷ []) (index_on 0 (rising 2 ∷ []) ∷ [])
    (asks
    (select (from 0 ∷ []) (Column 0 2 ∷ [])
    (common (equals (Column 0 0) (Lit (int 1))) ∷ []) [])
    ((0 ∷ 2 ∷ []) ∷ [])
    ∷ asks
    (select (from 0 ∷ []) (Column 0 2 ∷ [])
    (common (equals (Column 0 1) (Lit (int 1))) ∷ []) [])
    ((1 ∷ 2 ∷ []) ∷ []) ∷ []))
    ≡ says (index_on 0 (rising 0 ∷ []) ∷ index_on 0 (rising 1 ∷ []) ∷ []) (200 ∷ [])
    ((200 ∷ 33 ∷ []) ∷ (200 ∷ 33 ∷ []) ∷ (200 ∷ 33 ∷ []) ∷ [])
    (plan
    (forward 0
    (IndexSeek 1 (OneKey (plain_key (Lit (int 1))) ∷ []) None None) (0 ∷ [])
    ∷ [])
    false (false ∷ []) 60 60 (0 ∷ [])
    ∷ plan
    (forward 0
    (IndexSeek 2 (OneKey (plain_key (Lit (int 1))) ∷ []) None None) (0 ∷ [])
    ∷ [])
    false (false ∷ []) 60 60 (1 ∷ []) ∷ [])
    (0 ∷ 1 ∷ [])
two_candidates = refl
