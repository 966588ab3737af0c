-- Requests with joins, and the advice on them: what another reading of the same rules answers.
use Rattle.std.proofs.Common.{◌≡◌, ℕ, pos, true, false, List, [], ◌∷◌, ◌++◌, Some, None, refl}
use Rattle.std.specs.Prelude.{codes}
use Rattle.sql_meaning.specs.Values.{Dec, Text, Integer, Real, Numeric, TextAffinity, BlobAffinity}
use Rattle.sql_meaning.specs.Values.{Binary, Nocase}
use Rattle.sql_meaning.specs.Expressions.{Lit, Column, Rowid, Cmp, OneOf, IsNull, Nil, More}
use Rattle.sql_meaning.specs.Expressions.{IsEqual, IsAtMost, IsAbove, IsAtLeast}
use Rattle.sql_meaning.specs.Paths.{TableScan, RowidEq, IndexSeek, OneKey}
use Rattle.sql_meaning.proofs.ExampleData.{int, table_of_columns, rising, index_on, from, left_join}
use Rattle.sql_meaning.proofs.ExampleData.{common, owned, equals, equals_number, converted_key}
use Rattle.sql_meaning.proofs.ExampleData.{select, rising_key, plain_key}
use Rattle.sql_meaning.specs.Schemas.{Index}
use Rattle.sql_meaning.specs.Statements.{Conjunct}
use Rattle.plan_choice.proofs.Worked.{told, asked, says, plan, two_columns, three_columns}
use Rattle.plan_choice.proofs.Worked.{cross_join, all_columns, change, asks, compared}
use Rattle.plan_choice.proofs.Worked.{rising_nocase, bound_by, forward}

-- a1.x=b1.x AND b1.z=c1.z AND c1.w=7
abbrev chained : List Conjunct
chained = common (equals (Column 0 0) (Column 1 0)) ∷ common (equals (Column 1 1) (Column 2 0))
    ∷ common (equals (Column 2 1) (Lit (int 7))) ∷ []

-- a1(x), b1(x, z), b1(z) and c1(w, z)
abbrev chain_indexes : List Index
chain_indexes = index_on 0 (rising 0 ∷ []) ∷ index_on 1 (rising 0 ∷ rising 1 ∷ [])
    ∷ index_on 1 (rising 1 ∷ []) ∷ index_on 2 (rising 1 ∷ rising 0 ∷ []) ∷ []

-- their figures
abbrev chain_figures : List (List ℕ)
chain_figures = (200 ∷ 33 ∷ []) ∷ (200 ∷ 33 ∷ 32 ∷ []) ∷ (200 ∷ 33 ∷ []) ∷ (200 ∷ 33 ∷ 32 ∷ []) ∷ []

-- CREATE TABLE customer(id INTEGER PRIMARY KEY, name TEXT COLLATE NOCASE, city TEXT);
-- CREATE TABLE item(id INTEGER PRIMARY KEY, title TEXT, price REAL);
-- CREATE TABLE sale(id INTEGER PRIMARY KEY, customer_id INT, item_id INT, day TEXT);
-- CREATE INDEX sale_day ON sale(day);
-- SELECT name FROM customer WHERE name = 'ada';
-- SELECT c.name, s.day FROM sale AS s JOIN customer AS c ON c.id = s.customer_id WHERE s.day >=
--   '2024-01-01' ORDER BY s.day;
-- SELECT * FROM item WHERE price BETWEEN 2 AND 10.5;
-- UPDATE item SET price = 5 WHERE title = 'cup';
-- DELETE FROM sale WHERE id = 7;
shop : told
    (asked
    ((record {
      columns = compared Integer Binary
          ∷ compared TextAffinity Nocase
          ∷ compared TextAffinity Binary ∷ [];
      alias = Some 0;
    })
    ∷ (record {
      columns = compared Integer Binary
          ∷ compared TextAffinity Binary
          ∷ compared Real Binary ∷ [];
      alias = Some 0;
    })
    ∷ (record {
      columns = compared Integer Binary
          ∷ compared Integer Binary
          ∷ compared Integer Binary
          ∷ compared TextAffinity Binary ∷ [];
      alias = Some 0;
    }) ∷ [])
    (index_on 2 (rising 3 ∷ []) ∷ [])
    (asks
    (select (from 0 ∷ []) (Column 0 1 ∷ [])
    (common
    (Cmp IsEqual (Column 0 1) (Lit (Text (codes "ada"))) None
    (Some TextAffinity) Nocase) ∷ [])
    [])
    ((1 ∷ []) ∷ [])
    ∷ asks
    (select (from 2 ∷ from 0 ∷ []) (Column 1 1 ∷ Column 0 3 ∷ [])
    (common (equals (Rowid 1) (Column 0 1))
    ∷ common
    (Cmp IsAtLeast (Column 0 3) (Lit (Text (codes "2024-01-01")))
    None (Some TextAffinity) Binary) ∷ [])
    (rising_key (Column 0 3) ∷ []))
    ((1 ∷ 3 ∷ []) ∷ (1 ∷ []) ∷ [])
    ∷ asks
    (select (from 1 ∷ []) (Rowid 0 ∷ Column 0 1 ∷ Column 0 2 ∷ [])
    (common
    (Cmp IsAtLeast (Column 0 2) (Lit (int 2)) None (Some Numeric)
    Binary)
    ∷ common
    (Cmp IsAtMost (Column 0 2) (Lit (Dec (pos 105000))) None
    (Some Numeric) Binary) ∷ [])
    [])
    ((1 ∷ 2 ∷ []) ∷ [])
    ∷ asks
    (change (from 1 ∷ [])
    (common
    (Cmp IsEqual (Column 0 1) (Lit (Text (codes "cup"))) None
    (Some TextAffinity) Binary) ∷ [])
    [])
    ((1 ∷ 2 ∷ []) ∷ [])
    ∷ asks (change (from 2 ∷ []) (common (equals_number (Rowid 0) 7) ∷ []) [])
    ((1 ∷ 2 ∷ 3 ∷ []) ∷ []) ∷ []))
    ≡ says
    (index_on 0 (rising_nocase 1 ∷ [])
    ∷ index_on 2 (rising 1 ∷ rising 3 ∷ [])
    ∷ index_on 1 (rising 2 ∷ [])
    ∷ index_on 1 (rising 1 ∷ []) ∷ [])
    (200 ∷ 200 ∷ 200 ∷ [])
    ((200 ∷ 33 ∷ [])
    ∷ (200 ∷ 33 ∷ [])
    ∷ (200 ∷ 33 ∷ 32 ∷ [])
    ∷ (200 ∷ 33 ∷ [])
    ∷ (200 ∷ 33 ∷ []) ∷ [])
    (plan
    (forward 0
    (IndexSeek 1
    (OneKey
    (record {
      expr = Lit (Text (codes "ada"));
      conversion = Some TextAffinity;
    }) ∷ [])
    None None)
    (0 ∷ []) ∷ [])
    false (true ∷ []) 51 51 (0 ∷ [])
    ∷ plan
    (forward 0
    (IndexSeek 0 []
    (bound_by
    (record {
      expr = Lit (Text (codes "2024-01-01"));
      conversion = Some TextAffinity;
    })
    true)
    None)
    (1 ∷ [])
    ∷ forward 1 (RowidEq (OneKey (plain_key (Column 0 1)))) (0 ∷ []) ∷ [])
    false (false ∷ false ∷ []) 227 227 []
    ∷ plan
    (forward 0
    (IndexSeek 3 [] (bound_by (converted_key 2) true)
    (bound_by
    (record {
      expr = Lit (Dec (pos 105000));
      conversion = Some Numeric;
    })
    true))
    (0 ∷ 1 ∷ []) ∷ [])
    false (false ∷ []) 181 181 (2 ∷ [])
    ∷ plan
    (forward 0
    (IndexSeek 4
    (OneKey
    (record {
      expr = Lit (Text (codes "cup"));
      conversion = Some TextAffinity;
    }) ∷ [])
    None None)
    (0 ∷ []) ∷ [])
    false (false ∷ []) 60 60 (3 ∷ [])
    ∷ plan (forward 0 (RowidEq (OneKey (converted_key 7))) (0 ∷ []) ∷ []) false
    (false ∷ []) 44 44 [] ∷ [])
    (0 ∷ 2 ∷ 3 ∷ [])
shop = refl

-- CREATE TABLE t(a INT, d);
-- CREATE TABLE u(b INT, e);
-- SELECT * FROM t, u WHERE t.a=u.b AND u.b=5
derived_equality : told
    (asked
    (table_of_columns (Integer ∷ BlobAffinity ∷ [])
    ∷ table_of_columns (Integer ∷ BlobAffinity ∷ []) ∷ [])
    []
    (asks
    (select (from 0 ∷ from 1 ∷ []) (all_columns 0 2 ++ all_columns 1 2)
    (common (equals (Column 0 0) (Column 1 0))
    ∷ common (equals_number (Column 1 0) 5) ∷ [])
    [])
    ((0 ∷ 1 ∷ []) ∷ (0 ∷ 1 ∷ []) ∷ []) ∷ []))
    ≡ says (index_on 0 (rising 0 ∷ []) ∷ index_on 1 (rising 0 ∷ []) ∷ []) (200 ∷ 200 ∷ [])
    ((200 ∷ 33 ∷ []) ∷ (200 ∷ 33 ∷ []) ∷ [])
    (plan
    (forward 0 (IndexSeek 0 (OneKey (converted_key 5) ∷ []) None None) []
    ∷ forward 1 (IndexSeek 1 (OneKey (plain_key (Column 0 0)) ∷ []) None None)
    (0 ∷ []) ∷ [])
    false (false ∷ false ∷ []) 94 94 (0 ∷ 1 ∷ []) ∷ [])
    (0 ∷ 1 ∷ [])
derived_equality = refl

-- CREATE TABLE t(a TEXT COLLATE NOCASE, d);
-- CREATE TABLE u(b TEXT, e);
-- SELECT * FROM t, u WHERE t.a=u.b AND u.b='k'
nothing_derived : told
    (asked
    ((record {
      columns = compared TextAffinity Nocase ∷ compared BlobAffinity Binary ∷ [];
      alias = None;
    })
    ∷ table_of_columns (TextAffinity ∷ BlobAffinity ∷ []) ∷ [])
    []
    (asks
    (select (from 0 ∷ from 1 ∷ []) (all_columns 0 2 ++ all_columns 1 2)
    (common (Cmp IsEqual (Column 0 0) (Column 1 0) None None Nocase)
    ∷ common
    (Cmp IsEqual (Column 1 0) (Lit (Text (codes "k"))) None
    (Some TextAffinity) Binary) ∷ [])
    [])
    ((0 ∷ 1 ∷ []) ∷ (0 ∷ 1 ∷ []) ∷ []) ∷ []))
    ≡ says (index_on 0 (rising_nocase 0 ∷ []) ∷ index_on 1 (rising 0 ∷ []) ∷ []) (200 ∷ 200 ∷ [])
    ((200 ∷ 33 ∷ []) ∷ (200 ∷ 33 ∷ []) ∷ [])
    (plan
    (forward 1
    (IndexSeek 1
    (OneKey
    (record {
      expr = Lit (Text (codes "k"));
      conversion = Some TextAffinity;
    }) ∷ [])
    None None)
    (1 ∷ [])
    ∷ forward 0 (IndexSeek 0 (OneKey (plain_key (Column 1 0)) ∷ []) None None)
    (0 ∷ []) ∷ [])
    false (false ∷ false ∷ []) 94 261 (0 ∷ 1 ∷ []) ∷ [])
    (0 ∷ 1 ∷ [])
nothing_derived = refl

-- CREATE TABLE a1(x,y);
-- CREATE TABLE b1(x,z);
-- CREATE TABLE c1(z,w);
-- SELECT * FROM a1, b1, c1 WHERE a1.x=b1.x AND b1.z=c1.z AND c1.w=7
chain : told
    (asked (two_columns ∷ two_columns ∷ two_columns ∷ []) []
    (asks
    (select (from 0 ∷ from 1 ∷ from 2 ∷ [])
    (all_columns 0 2 ++ all_columns 1 2 ++ all_columns 2 2) chained [])
    ((0 ∷ 1 ∷ []) ∷ (0 ∷ 1 ∷ []) ∷ (0 ∷ 1 ∷ []) ∷ []) ∷ []))
    ≡ says chain_indexes (200 ∷ 200 ∷ 200 ∷ []) chain_figures
    (plan
    (forward 2
    (IndexSeek 3 (OneKey (plain_key (Lit (int 7))) ∷ []) None None) (2 ∷ [])
    ∷ forward 1 (IndexSeek 2 (OneKey (plain_key (Column 2 0)) ∷ []) None None)
    (1 ∷ [])
    ∷ forward 0 (IndexSeek 0 (OneKey (plain_key (Column 1 0)) ∷ []) None None)
    (0 ∷ []) ∷ [])
    false (true ∷ false ∷ false ∷ []) 127 285 (0 ∷ 2 ∷ 3 ∷ []) ∷ [])
    (0 ∷ 2 ∷ 3 ∷ [])
chain = refl

-- CREATE TABLE a1(x,y);
-- CREATE TABLE b1(x,z);
-- CREATE TABLE c1(z,w);
-- SELECT * FROM a1 CROSS JOIN b1 CROSS JOIN c1 WHERE a1.x=b1.x AND b1.z=c1.z AND c1.w=7
chain_with_cross_join : told
    (asked (two_columns ∷ two_columns ∷ two_columns ∷ []) []
    (asks
    (select (from 0 ∷ cross_join 1 ∷ cross_join 2 ∷ [])
    (all_columns 0 2 ++ all_columns 1 2 ++ all_columns 2 2) chained [])
    ((0 ∷ 1 ∷ []) ∷ (0 ∷ 1 ∷ []) ∷ (0 ∷ 1 ∷ []) ∷ []) ∷ []))
    ≡ says chain_indexes (200 ∷ 200 ∷ 200 ∷ []) chain_figures
    (plan
    (forward 0 TableScan []
    ∷ forward 1 (IndexSeek 1 (OneKey (plain_key (Column 0 0)) ∷ []) None None)
    (0 ∷ [])
    ∷ forward 2
    (IndexSeek 3
    (OneKey (plain_key (Lit (int 7)))
    ∷ OneKey (plain_key (Column 1 1)) ∷ [])
    None None)
    (1 ∷ 2 ∷ []) ∷ [])
    false (false ∷ true ∷ true ∷ []) 285 285 (1 ∷ 3 ∷ []) ∷ [])
    (1 ∷ 3 ∷ [])
chain_with_cross_join = refl

-- CREATE TABLE t(a TEXT, p);
-- CREATE TABLE u(n INTEGER, q);
-- SELECT * FROM t, u WHERE t.a = u.n
text_with_number : told
    (asked
    (table_of_columns (TextAffinity ∷ BlobAffinity ∷ [])
    ∷ table_of_columns (Integer ∷ BlobAffinity ∷ []) ∷ [])
    []
    (asks
    (select (from 0 ∷ from 1 ∷ []) (all_columns 0 2 ++ all_columns 1 2)
    (common
    (Cmp IsEqual (Column 0 0) (Column 1 0) (Some Numeric) None
    Binary) ∷ [])
    [])
    ((0 ∷ 1 ∷ []) ∷ (0 ∷ 1 ∷ []) ∷ []) ∷ []))
    ≡ says (index_on 1 (rising 0 ∷ []) ∷ []) (200 ∷ 200 ∷ []) ((200 ∷ 33 ∷ []) ∷ [])
    (plan
    (forward 0 TableScan []
    ∷ forward 1
    (IndexSeek 0
    (OneKey
    (record {
      expr = Column 0 0;
      conversion = Some Numeric;
    }) ∷ [])
    None None)
    (0 ∷ []) ∷ [])
    false (false ∷ false ∷ []) 261 261 (0 ∷ []) ∷ [])
    (0 ∷ [])
text_with_number = refl

-- CREATE TABLE t(a INT, b);
-- CREATE TABLE u(c INT, d);
-- SELECT * FROM t LEFT JOIN u ON u.c=t.a WHERE t.b=3
left_join_by_seek : told
    (asked
    (table_of_columns (Integer ∷ BlobAffinity ∷ [])
    ∷ table_of_columns (Integer ∷ BlobAffinity ∷ []) ∷ [])
    []
    (asks
    (select (from 0 ∷ left_join 1 ∷ []) (all_columns 0 2 ++ all_columns 1 2)
    (owned 1 (equals (Column 1 0) (Column 0 0))
    ∷ common (equals (Column 0 1) (Lit (int 3))) ∷ [])
    [])
    ((0 ∷ 1 ∷ []) ∷ (0 ∷ 1 ∷ []) ∷ []) ∷ []))
    ≡ says (index_on 0 (rising 1 ∷ []) ∷ index_on 1 (rising 0 ∷ []) ∷ []) (200 ∷ 200 ∷ [])
    ((200 ∷ 33 ∷ []) ∷ (200 ∷ 33 ∷ []) ∷ [])
    (plan
    (forward 0
    (IndexSeek 0 (OneKey (plain_key (Lit (int 3))) ∷ []) None None) (1 ∷ [])
    ∷ forward 1 (IndexSeek 1 (OneKey (plain_key (Column 0 0)) ∷ []) None None)
    (0 ∷ []) ∷ [])
    false (false ∷ false ∷ []) 94 94 (0 ∷ 1 ∷ []) ∷ [])
    (0 ∷ 1 ∷ [])
left_join_by_seek = refl

-- CREATE TABLE t(a INT, b);
-- CREATE TABLE u(c INT, d);
-- SELECT t.a FROM t LEFT JOIN u ON u.c=t.a WHERE u.d IS NULL
left_join_where_missing : told
    (asked
    (table_of_columns (Integer ∷ BlobAffinity ∷ [])
    ∷ table_of_columns (Integer ∷ BlobAffinity ∷ []) ∷ [])
    []
    (asks
    (select (from 0 ∷ left_join 1 ∷ []) (Column 0 0 ∷ [])
    (owned 1 (equals (Column 1 0) (Column 0 0))
    ∷ common (IsNull false (Column 1 1)) ∷ [])
    [])
    ((0 ∷ []) ∷ (0 ∷ 1 ∷ []) ∷ []) ∷ []))
    ≡ says (index_on 1 (rising 0 ∷ []) ∷ []) (200 ∷ 200 ∷ []) ((200 ∷ 33 ∷ []) ∷ [])
    (plan
    (forward 0 TableScan []
    ∷ forward 1 (IndexSeek 0 (OneKey (plain_key (Column 0 0)) ∷ []) None None)
    (0 ∷ []) ∷ [])
    false (false ∷ false ∷ []) 261 261 (0 ∷ []) ∷ [])
    (0 ∷ [])
left_join_where_missing = refl

-- CREATE TABLE t(a INT, b);
-- CREATE TABLE u(c INT, d);
-- SELECT * FROM t LEFT JOIN u ON u.c=5
left_join_first : told
    (asked
    (table_of_columns (Integer ∷ BlobAffinity ∷ [])
    ∷ table_of_columns (Integer ∷ BlobAffinity ∷ []) ∷ [])
    []
    (asks
    (select (from 0 ∷ left_join 1 ∷ []) (all_columns 0 2 ++ all_columns 1 2)
    (owned 1 (equals_number (Column 1 0) 5) ∷ []) [])
    ((0 ∷ 1 ∷ []) ∷ (0 ∷ 1 ∷ []) ∷ []) ∷ []))
    ≡ says (index_on 1 (rising 0 ∷ []) ∷ []) (200 ∷ 200 ∷ []) ((200 ∷ 33 ∷ []) ∷ [])
    (plan
    (forward 0 TableScan []
    ∷ forward 1 (IndexSeek 0 (OneKey (converted_key 5) ∷ []) None None)
    (0 ∷ []) ∷ [])
    false (false ∷ false ∷ []) 261 261 (0 ∷ []) ∷ [])
    (0 ∷ [])
left_join_first = refl

-- CREATE TABLE t0(a,b,c);
-- CREATE TABLE t1(a,b,c);
-- CREATE TABLE t2(a,b,c);
-- SELECT * FROM t0, t1, t2 WHERE t2.b=t1.a
five_for_three_items : told
    (asked (three_columns ∷ three_columns ∷ three_columns ∷ []) []
    (asks
    (select (from 0 ∷ from 1 ∷ from 2 ∷ [])
    (all_columns 0 3 ++ all_columns 1 3 ++ all_columns 2 3)
    (common (equals (Column 2 1) (Column 1 0)) ∷ []) [])
    ((0 ∷ 1 ∷ 2 ∷ []) ∷ (0 ∷ 1 ∷ 2 ∷ []) ∷ (0 ∷ 1 ∷ 2 ∷ []) ∷ []) ∷ []))
    ≡ says (index_on 1 (rising 0 ∷ []) ∷ index_on 2 (rising 1 ∷ []) ∷ []) (200 ∷ 200 ∷ 200 ∷ [])
    ((200 ∷ 33 ∷ []) ∷ (200 ∷ 33 ∷ []) ∷ [])
    (plan
    (forward 1 TableScan []
    ∷ forward 2 (IndexSeek 1 (OneKey (plain_key (Column 1 0)) ∷ []) None None)
    (0 ∷ [])
    ∷ forward 0 TableScan [] ∷ [])
    false (false ∷ false ∷ false ∷ []) 449 461 (1 ∷ []) ∷ [])
    (1 ∷ [])
five_for_three_items = refl

-- CREATE TABLE t(a,b,c,r);
-- CREATE TABLE u(a,b,c,r);
-- CREATE TABLE v(a,b,c,r);
-- SELECT * FROM t, u, v WHERE t.a=1 AND t.b IN (u.a, v.a) AND t.c=v.c AND t.r>0
list_of_no_item : told
    (asked
    (table_of_columns (BlobAffinity ∷ BlobAffinity ∷ BlobAffinity ∷ BlobAffinity ∷ [])
    ∷ table_of_columns (BlobAffinity ∷ BlobAffinity ∷ BlobAffinity ∷ BlobAffinity ∷ [])
    ∷ table_of_columns (BlobAffinity ∷ BlobAffinity ∷ BlobAffinity ∷ BlobAffinity ∷ [])
    ∷ [])
    []
    (asks
    (select (from 0 ∷ from 1 ∷ from 2 ∷ [])
    (all_columns 0 4 ++ all_columns 1 4 ++ all_columns 2 4)
    (common (equals (Column 0 0) (Lit (int 1)))
    ∷ common
    (OneOf false (Column 0 1)
    (More (Column 1 0) (More (Column 2 0) Nil)) None Binary)
    ∷ common (equals (Column 0 2) (Column 2 2))
    ∷ common (Cmp IsAbove (Column 0 3) (Lit (int 0)) None None Binary) ∷ [])
    [])
    ((0 ∷ 1 ∷ 2 ∷ 3 ∷ []) ∷ (0 ∷ 1 ∷ 2 ∷ 3 ∷ []) ∷ (0 ∷ 1 ∷ 2 ∷ 3 ∷ []) ∷ []) ∷ []))
    ≡ says
    (index_on 0 (rising 0 ∷ rising 1 ∷ rising 2 ∷ rising 3 ∷ [])
    ∷ index_on 0 (rising 0 ∷ rising 2 ∷ rising 3 ∷ [])
    ∷ index_on 0 (rising 0 ∷ rising 3 ∷ [])
    ∷ index_on 2 (rising 2 ∷ []) ∷ [])
    (200 ∷ 200 ∷ 200 ∷ [])
    ((200 ∷ 33 ∷ 32 ∷ 30 ∷ 28 ∷ [])
    ∷ (200 ∷ 33 ∷ 32 ∷ 30 ∷ [])
    ∷ (200 ∷ 33 ∷ 32 ∷ [])
    ∷ (200 ∷ 33 ∷ []) ∷ [])
    (plan
    (forward 0
    (IndexSeek 2 (OneKey (plain_key (Lit (int 1))) ∷ [])
    (bound_by (plain_key (Lit (int 0))) false) None)
    (0 ∷ 3 ∷ [])
    ∷ forward 2 (IndexSeek 3 (OneKey (plain_key (Column 0 2)) ∷ []) None None)
    (2 ∷ [])
    ∷ forward 1 TableScan [] ∷ [])
    false (false ∷ false ∷ false ∷ []) 262 274 (2 ∷ 3 ∷ []) ∷ [])
    (2 ∷ 3 ∷ [])
list_of_no_item = refl
