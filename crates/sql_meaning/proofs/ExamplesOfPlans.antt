-- Plans at work: seeks, unions, LEFT JOIN; and one plan shown to mean its statement.
use Rattle.std.specs.Prelude.{codes}
use Rattle.std.proofs.Common.{◌≡◌, ℕ, pos, false, List, [], ◌∷◌, Option, Some, None}
use Rattle.std.proofs.Common.{refl, true, ◌≤◌, arith}
use Rattle.list_laws.specs.Nest.{same}
use Rattle.sql_meaning.specs.Values.{Value, Null, Dec, Text, Integer, BlobAffinity, Numeric, Binary}
use Rattle.sql_meaning.specs.Rows.{Row, AtColumn}
use Rattle.sql_meaning.specs.Expressions.{Lit, Column, Rowid, OneOf, IsNull, All, Any, Nil, More}
use Rattle.sql_meaning.specs.Schemas.{Schema}
use Rattle.sql_meaning.specs.Paths.{KeyExpr, Path, TableScan, IndexSeek, Union, Nowhere, Then}
use Rattle.sql_meaning.specs.Paths.{EqPart, OneKey, ManyKeys}
use Rattle.sql_meaning.specs.Terms.{Term, Equals}
use Rattle.sql_meaning.specs.Statements.{Bound, statement_rows, FitsStatement}
use Rattle.sql_meaning.specs.Plans.{Loop, Plan, plan_walks}
use Rattle.sql_meaning.specs.UsedTerms.{AllOf, Used}
use Rattle.sql_meaning.specs.Offers.{FitsOffers, IsOffer}
use Rattle.sql_meaning.specs.OrderState.{FitsOrder}
use Rattle.sql_meaning.specs.Asked.{answer, Means}
use Rattle.sql_meaning.proofs.ExampleData.{int, row, table_of_columns, rising, index_on, from}
use Rattle.sql_meaning.proofs.ExampleData.{left_join, equals_number, converted_key, common, owned}
use Rattle.sql_meaning.proofs.ExampleData.{equals, select, number_key, plain_key, one}
use Rattle.sql_meaning.proofs.ListedTerms.{seek_of_terms}
use Rattle.sql_meaning.proofs.Asked.{offered_plans_mean}

abbrev loop : ℕ → Path → List ℕ → Loop
loop item path consumed =
    record { item = item; path = path; reverse = false; consumed = consumed }

abbrev plan : Bound → List Loop → Plan
plan bound loops = record { bound = bound; loops = loops; sort = false }

abbrev text_p : Value
text_p = Text (codes "p")

abbrev text_q : Value
text_q = Text (codes "q")

-- t(a INTEGER, b) with an index on a: `a IN (1, '1', 1.0)` finds (1, 'p') once
abbrev listed : Schema
listed = record {
  tables = table_of_columns (Integer ∷ BlobAffinity ∷ []) ∷ [];
  indexes = index_on 0 (rising 0 ∷ []) ∷ [];
}

abbrev in_list : Bound
in_list =
    select (from 0 ∷ []) (Column 0 0 ∷ Column 0 1 ∷ [])
    (common
    (OneOf false (Column 0 0)
    (More (Lit (int 1)) (More (Lit (Text (codes "1"))) (More (Lit (Dec (pos 10000))) Nil)))
    (Some Numeric) Binary)
    ∷ []) []

found_once : answer listed ((row 1 (int 1 ∷ text_p ∷ []) ∷ row 2 (int 2 ∷ text_q ∷ []) ∷ []) ∷ [])
    (plan in_list
    (loop 0
    (IndexSeek 0
    (ManyKeys
    (record { expr = Lit (int 1); conversion = Some Numeric }
    ∷ record { expr = Lit (Text (codes "1")); conversion = Some Numeric }
    ∷ record { expr = Lit (Dec (pos 10000)); conversion = Some Numeric } ∷ [])
    ∷ []) None None) (0 ∷ [])
    ∷ []))
    []
    ≡ (int 1 ∷ text_p ∷ []) ∷ []
found_once = refl

-- `(a = 1 AND b = 2) OR c = 3` by two indexes: each row once, and nothing is consumed
abbrev three : Schema
three = record {
  tables = table_of_columns (BlobAffinity ∷ BlobAffinity ∷ BlobAffinity ∷ []) ∷ [];
  indexes = index_on 0 (rising 0 ∷ rising 1 ∷ []) ∷ index_on 0 (rising 2 ∷ []) ∷ [];
}

abbrev either : Bound
either =
    select (from 0 ∷ []) (Rowid 0 ∷ [])
    (common
    (Any
    (More
    (All (More (equals (Column 0 0) (Lit (int 1))) (More (equals (Column 0 1) (Lit (int 2))) Nil)))
    (More (equals (Column 0 2) (Lit (int 3))) Nil)))
    ∷ []) []

each_row_once : answer three
    ((row 1 (int 1 ∷ int 2 ∷ int 3 ∷ []) ∷ row 2 (int 1 ∷ int 2 ∷ int 0 ∷ [])
    ∷ row 3 (int 0 ∷ int 0 ∷ int 3 ∷ []) ∷ []) ∷ [])
    (plan either
    (loop 0
    (Union
    (Then (IndexSeek 0 (OneKey (number_key 1) ∷ OneKey (number_key 2) ∷ []) None None)
    (Then (IndexSeek 1 (one (number_key 3)) None None) Nowhere))) []
    ∷ []))
    []
    ≡ (int 1 ∷ []) ∷ (int 2 ∷ []) ∷ (int 3 ∷ []) ∷ []
each_row_once = refl

-- t(a INT, b) with an index on b, u(c INT, d) with one on c
abbrev outer : Schema
outer = record {
  tables =
      table_of_columns (Integer ∷ BlobAffinity ∷ [])
      ∷ table_of_columns (Integer ∷ BlobAffinity ∷ []) ∷ [];
  indexes = index_on 0 (rising 1 ∷ []) ∷ index_on 1 (rising 0 ∷ []) ∷ [];
}

abbrev text_x : Value
text_x = Text (codes "x")

abbrev tables : List (List Row)
tables =
    (row 1 (int 1 ∷ int 3 ∷ []) ∷ row 2 (int 2 ∷ int 3 ∷ []) ∷ row 3 (int 3 ∷ int 4 ∷ []) ∷ [])
    ∷ (row 1 (int 1 ∷ text_x ∷ []) ∷ []) ∷ []

abbrev seek_u : Loop
seek_u = loop 1 (IndexSeek 1 (one (plain_key (Column 0 0))) None None) (0 ∷ [])

-- `SELECT * FROM t LEFT JOIN u ON u.c = t.a WHERE t.b = 3`
abbrev three_of_b : Bound
three_of_b =
    select (from 0 ∷ left_join 1 ∷ []) (Column 0 0 ∷ Column 0 1 ∷ Column 1 0 ∷ Column 1 1 ∷ [])
    (owned 1 (equals (Column 1 0) (Column 0 0)) ∷ common (equals (Column 0 1) (Lit (int 3))) ∷ [])
    []

missing_row : answer outer tables
    (plan three_of_b (loop 0 (IndexSeek 0 (one (number_key 3)) None None) (1 ∷ []) ∷ seek_u ∷ []))
    []
    ≡ (int 1 ∷ int 3 ∷ int 1 ∷ text_x ∷ []) ∷ (int 2 ∷ int 3 ∷ Null ∷ Null ∷ []) ∷ []
missing_row = refl

-- no offers of t, whatever terms they are said to use: a seek by an index of u, by one that isn't
-- there, or with more parts than its index has columns
abbrev seek_t : ℕ → List EqPart → Loop
seek_t index parts = loop 0 (IndexSeek index parts None None) (1 ∷ [])

another_table : (used : Used) → IsOffer outer three_of_b [] (seek_t 1 (one (number_key 3))) used → ⊥
another_table used h = let no : false ≡ true = h.path.0 in cc

no_index : (used : Used) → IsOffer outer three_of_b [] (seek_t 2 (one (number_key 3))) used → ⊥
no_index used h = let no : false ≡ true = h.path.0 in cc

too_many_parts : (used : Used)
    → IsOffer outer three_of_b [] (seek_t 0 (OneKey (number_key 3) ∷ one (number_key 3))) used → ⊥
too_many_parts used h = let no : 2 ≤ 1 = h.path.1 in omega (arith, no)

-- `SELECT t.a FROM t LEFT JOIN u ON u.c = t.a WHERE u.d IS NULL`: a common conjunct is tested after
-- the missing row stands
abbrev without_partner : Bound
without_partner =
    select (from 0 ∷ left_join 1 ∷ []) (Column 0 0 ∷ [])
    (owned 1 (equals (Column 1 0) (Column 0 0)) ∷ common (IsNull false (Column 1 1)) ∷ []) []

tested_after : answer outer tables (plan without_partner (loop 0 TableScan [] ∷ seek_u ∷ [])) []
    ≡ (int 2 ∷ []) ∷ (int 3 ∷ []) ∷ []
tested_after = refl

as_the_statement : plan_walks outer tables
    (plan without_partner (loop 0 TableScan [] ∷ seek_u ∷ [])) []
    ≡ statement_rows without_partner tables []
as_the_statement = refl

-- `t.a = u.a AND u.a = 5` over one table twice: t by the derived 5, then u by the first conjunct
abbrev linked : Schema
linked = record {
  tables = table_of_columns (Integer ∷ []) ∷ [];
  indexes = index_on 0 (rising 0 ∷ []) ∷ [];
}

abbrev pairs : Bound
pairs =
    select (from 0 ∷ from 0 ∷ []) (Rowid 0 ∷ Rowid 1 ∷ [])
    (common (equals (Column 0 0) (Column 1 0)) ∷ common (equals_number (Column 1 0) 5) ∷ []) []

abbrev derived_plan : Plan
derived_plan =
    plan pairs
    (loop 0 (IndexSeek 0 (one (converted_key 5)) None None) []
    ∷ loop 1 (IndexSeek 0 (one (plain_key (Column 0 0))) None None) (0 ∷ []) ∷ [])

two_by_two : answer linked
    ((row 1 (int 5 ∷ []) ∷ row 2 (int 6 ∷ []) ∷ row 3 (int 5 ∷ []) ∷ []) ∷ []) derived_plan []
    ≡ (int 1 ∷ int 1 ∷ []) ∷ (int 1 ∷ int 3 ∷ []) ∷ (int 3 ∷ int 1 ∷ []) ∷ (int 3 ∷ int 3 ∷ []) ∷ []
two_by_two = refl

-- the same plan, by the laws: what it seeks by is what its terms offer, and it needs no sort. So it
-- means its statement, whatever the database holds
pairs_fit : FitsStatement linked pairs
pairs_fit = ((refl, refl, tt, tt), ((refl, refl, tt, tt), tt))

abbrev equal_to : Option ℕ → KeyExpr → Term
equal_to conjunct key = record {
  column = AtColumn 0;
  conjunct = conjunct;
  collation = Binary;
  kind = Equals key;
}

abbrev by_derived : List Term
by_derived = equal_to None (converted_key 5) ∷ []

abbrev by_direct : List Term
by_direct = equal_to (Some 0) (plain_key (Column 0 0)) ∷ []

loops_are_offers : FitsOffers linked derived_plan
loops_are_offers = record {
  used = AllOf by_derived ∷ AllOf by_direct ∷ [];
  once = same (0 ∷ 1 ∷ []);
  offered = (
    seek_of_terms linked pairs [] 0 0 false
        (record { path = IndexSeek 0 (one (converted_key 5)) None None; used = by_derived })
        pairs_fit refl refl refl,
    (
      seek_of_terms linked pairs (0 ∷ []) 1 0 false
          (record { path = IndexSeek 0 (one (plain_key (Column 0 0))) None None; used = by_direct })
          pairs_fit refl refl refl,
      tt,
    ),
  );
  some = λ e. cc;
  named = (refl, (refl, tt));
  owners = ((λ owner e. absurd (cc)), ((λ owner e. absurd (cc)), tt));
}

flags_are_right : FitsOrder linked derived_plan
flags_are_right = record { sorts = refl; reverses = λ e. refl; forward = λ e. refl }

means_its_statement : Means linked derived_plan
means_its_statement = offered_plans_mean linked derived_plan loops_are_offers flags_are_right
