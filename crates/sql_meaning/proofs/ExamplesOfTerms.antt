-- Terms at work: what conjuncts say of columns, what follows from links, and what a seek takes.
use Rattle.std.proofs.Common.{◌≡◌, ℕ, true, false, List, [], ◌∷◌, Some, None, refl, inr, map}
use Rattle.sql_meaning.specs.Values.{BlobAffinity, Integer, Numeric, TextAffinity, Binary, Nocase}
use Rattle.sql_meaning.specs.Values.{Collation}
use Rattle.sql_meaning.specs.Rows.{Site, AtColumn}
use Rattle.sql_meaning.specs.Expressions.{BExpr}
use Rattle.sql_meaning.specs.Expressions.{Lit, Column, Collate, Plus, Cmp, Any, All, Nil, More}
use Rattle.sql_meaning.specs.Expressions.{IsEqual, IsBelow, ColumnRef}
use Rattle.sql_meaning.specs.Schemas.{Schema}
use Rattle.sql_meaning.specs.Paths.{IndexSeek, OneKey}
use Rattle.sql_meaning.specs.Terms.{Term, Equals, Within, Low}
use Rattle.sql_meaning.specs.Statements.{Bound, Conjunct}
use Rattle.sql_meaning.specs.Conjuncts.{first_at, may_serve}
use Rattle.sql_meaning.specs.Serving.{serving}
use Rattle.sql_meaning.specs.TermLists.{or_terms, column_terms, item_terms, OffersBranches}
use Rattle.sql_meaning.specs.TermLists.{linked_to}
use Rattle.sql_meaning.specs.Choices.{seek_offer}
use Rattle.sql_meaning.proofs.ExampleData.{int, table_of_columns, rising, index_on, from, left_join}
use Rattle.sql_meaning.proofs.ExampleData.{equals_number, converted_key, common, owned, equals}
use Rattle.sql_meaning.proofs.ExampleData.{select, number_key, plain_key, one}

abbrev own : Site → Collation
own site = Binary

-- a column alone or directly under COLLATE is served, on either side
from_the_left : serving own 0 (equals (Column 0 1) (Column 1 0))
    ≡ Some
    (record { site = AtColumn 1; collation = Binary; kind = Equals (plain_key (Column 1 0)) })
from_the_left = refl

from_the_right : serving own 0
    (Cmp IsBelow (Lit (int 5)) (Collate (Column 0 1) Nocase) None None Nocase)
    ≡ Some (record { site = AtColumn 1; collation = Nocase; kind = Low (number_key 5) false })
from_the_right = refl

-- no column is served under a sign, nor where the comparison converts it (TEXT against a number),
-- nor against its own item
under_plus : serving own 0 (equals (Plus (Column 0 1)) (Lit (int 5))) ≡ None
under_plus = refl

converted_column : serving own 0
    (Cmp IsEqual (Column 0 0) (Column 1 0) (Some Numeric) None Binary)
    ≡ None
converted_column = refl

own_item : serving own 0 (equals (Column 0 1) (Column 0 2)) ≡ None
own_item = refl

-- an OR of equalities of one column is an IN, each key with its own conversion
or_as_list : serving own 0
    (Any
    (More (Cmp IsEqual (Column 0 1) (Lit (int 1)) None (Some Numeric) Binary)
    (More (equals (Column 1 0) (Column 0 1)) Nil)))
    ≡ Some
    (record {
      site = AtColumn 1;
      collation = Binary;
      kind =
          Within
          (record { expr = Lit (int 1); conversion = Some Numeric } ∷ plain_key (Column 1 0) ∷ []);
    })
or_as_list = refl

or_of_two_columns : serving own 0
    (Any (More (equals (Column 0 1) (Lit (int 1))) (More (equals (Column 0 2) (Lit (int 1))) Nil)))
    ≡ None
or_of_two_columns = refl

-- `t.a = u.b AND u.b = 5` over t(a INT) and u(b INT), each with an index: t.a = 5 follows
abbrev linked : Schema
linked = record {
  tables = table_of_columns (Integer ∷ []) ∷ table_of_columns (Integer ∷ []) ∷ [];
  indexes = index_on 0 (rising 0 ∷ []) ∷ index_on 1 (rising 0 ∷ []) ∷ [];
}

abbrev join : Bound
join =
    select (from 0 ∷ from 1 ∷ []) (Column 0 0 ∷ [])
    (common (equals (Column 0 0) (Column 1 0)) ∷ common (equals_number (Column 1 0) 5) ∷ []) []

abbrev terms_of_a : List Term
terms_of_a = (column_terms linked join 0 (AtColumn 0)).equals

-- the direct term first, then the derived ones, which have no conjunct
direct_first : map (λ t. t.conjunct) terms_of_a ≡ Some 0 ∷ None ∷ None ∷ []
direct_first = refl

derived_key : map (λ t. t.kind) terms_of_a
    ≡ Equals (plain_key (Column 1 0)) ∷ Equals (converted_key 5) ∷ Equals (plain_key (Column 1 0))
    ∷ []
derived_key = refl

-- with nothing placed, the direct term can't be used, and the derived 5 can
first_usable : seek_offer [] None (item_terms linked join 0) 0 (rising 0 ∷ [])
    ≡ Some
    (record {
      path = IndexSeek 0 (one (converted_key 5)) None None;
      used =
          record {
            column = AtColumn 0;
            conjunct = None;
            collation = Binary;
            kind = Equals (converted_key 5);
          }
          ∷ [];
    })
first_usable = refl

-- where t.a is TEXT COLLATE NOCASE and u.b is TEXT, nothing is linked: the comparison is not u.b's
-- own
abbrev unlinked : Schema
unlinked = record {
  tables =
      record { columns = record { affinity = TextAffinity; collation = Nocase } ∷ []; alias = None }
      ∷ table_of_columns (TextAffinity ∷ []) ∷ [];
  indexes = [];
}

abbrev a_of_t : ColumnRef
a_of_t = record { item = 0; site = AtColumn 0 }

nothing_linked : linked_to unlinked (from 0 ∷ from 1 ∷ [])
    (Cmp IsEqual (Column 0 0) (Column 1 0) None None Nocase ∷ []) a_of_t
    ≡ []
nothing_linked = refl

-- `(a = 1 AND b = 2) OR c = 3` with indexes on (a, b) and (c): a seek for each branch
abbrev three : Schema
three = record {
  tables = table_of_columns (BlobAffinity ∷ BlobAffinity ∷ BlobAffinity ∷ []) ∷ [];
  indexes = index_on 0 (rising 0 ∷ rising 1 ∷ []) ∷ index_on 0 (rising 2 ∷ []) ∷ [];
}

abbrev either : Conjunct
either =
    common
    (Any
    (More
    (All (More (equals (Column 0 0) (Lit (int 1))) (More (equals (Column 0 1) (Lit (int 2))) Nil)))
    (More (equals (Column 0 2) (Lit (int 3))) Nil)))

abbrev term_of : ℕ → ℕ → Term
term_of column key = record {
  column = AtColumn column;
  conjunct = Some 0;
  collation = Binary;
  kind = Equals (number_key key);
}

branches : OffersBranches three
    (select (from 0 ∷ []) (Column 0 0 ∷ []) (either ∷ []) []) either [] 0 0
    (More
    (All (More (equals (Column 0 0) (Lit (int 1))) (More (equals (Column 0 1) (Lit (int 2))) Nil)))
    (More (equals (Column 0 2) (Lit (int 3))) Nil))
    (record {
      path = IndexSeek 0 (OneKey (number_key 1) ∷ OneKey (number_key 2) ∷ []) None None;
      used = term_of 0 1 ∷ term_of 1 2 ∷ [];
    }
    ∷ record { path = IndexSeek 1 (one (number_key 3)) None None; used = term_of 2 3 ∷ [] } ∷ [])
branches = (inr (0, refl, refl), (inr (1, refl, refl), tt))

-- it is an OR term, because each branch has a term; `a = 1 OR a = 2` is an IN term in its place,
-- and `a = 1 OR +b = 2` is neither
abbrev or_numbers : BExpr → List ℕ
or_numbers e =
    map (λ o. o.conjunct)
    (or_terms three (select (from 0 ∷ []) (Column 0 0 ∷ []) (common e ∷ []) []) 0)

each_branch_has_one : or_numbers either.expr ≡ 0 ∷ []
each_branch_has_one = refl

in_term : or_numbers
    (Any (More (equals (Column 0 0) (Lit (int 1))) (More (equals (Column 0 0) (Lit (int 2))) Nil)))
    ≡ []
in_term = refl

branch_without : or_numbers
    (Any
    (More (equals (Column 0 0) (Lit (int 1)))
    (More (equals (Plus (Column 0 1)) (Lit (int 2))) Nil)))
    ≡ []
branch_without = refl

-- `FROM t LEFT JOIN u ON u.b = t.a WHERE t.a = 1`: u is served by its own conjunct alone, and that
-- is first known at u's loop; the common one at t's
abbrev outer : Bound
outer =
    select (from 0 ∷ left_join 1 ∷ []) (Column 0 0 ∷ [])
    (owned 1 (equals (Column 1 0) (Column 0 0)) ∷ common (equals_number (Column 0 0) 1) ∷ []) []

owned_serves : map (may_serve outer 1) outer.conjuncts ≡ true ∷ false ∷ []
owned_serves = refl

common_serves : map (may_serve outer 0) outer.conjuncts ≡ false ∷ true ∷ []
common_serves = refl

first_known : map (first_at [] 0) outer.conjuncts ≡ false ∷ true ∷ []
first_known = refl

known_later : map (first_at (0 ∷ []) 1) outer.conjuncts ≡ true ∷ false ∷ []
known_later = refl
