-- The bounds that a LIKE gives, over t(a TEXT COLLATE NOCASE, b).
use Rattle.std.specs.Prelude.{codes}
use Rattle.std.proofs.Common.{◌≡◌, ℕ, true, false, List, [], ◌∷◌, Option, Some, None, refl, map}
use Rattle.sql_meaning.specs.Values.{Text, TextAffinity, BlobAffinity, Binary, Nocase}
use Rattle.sql_meaning.specs.Rows.{AtColumn}
use Rattle.sql_meaning.specs.Expressions.{BExpr, Lit, Column, Collate, Cmp, IsAbove, Like, Any, Nil}
use Rattle.sql_meaning.specs.Expressions.{More}
use Rattle.sql_meaning.specs.Schemas.{Schema}
use Rattle.sql_meaning.specs.Statements.{Bound}
use Rattle.sql_meaning.specs.Terms.{Term, Low, High}
use Rattle.sql_meaning.specs.LikeTerms.{like_terms, nocase_term, text_literal}
use Rattle.sql_meaning.specs.TermLists.{column_terms, or_terms}
use Rattle.sql_meaning.proofs.ExampleData.{int, from, common, equals, select}

abbrev schema : Schema
schema = record {
  tables =
      record {
        columns =
            record { affinity = TextAffinity; collation = Nocase }
            ∷ record { affinity = BlobAffinity; collation = Binary } ∷ [];
        alias = None;
      }
      ∷ [];
  indexes = [];
}

abbrev like_ab : BExpr → BExpr
like_ab e = Like false e (Lit (Text (codes "ab%")))

abbrev bounds : List Term
bounds =
    nocase_term (AtColumn 0) (Low (text_literal (codes "ab")) true)
    ∷ nocase_term (AtColumn 0) (High (text_literal (codes "ac")) false) ∷ []

abbrev terms : BExpr → List Term
terms e = like_terms schema (from 0 ∷ []) 0 e

of_a : terms (like_ab (Column 0 0)) ≡ bounds
of_a = refl

under_collate : terms (like_ab (Collate (Column 0 0) Binary)) ≡ bounds
under_collate = refl

-- none of a column that isn't TEXT, of NOT LIKE, or of a pattern that isn't a literal or is empty
of_b : terms (like_ab (Column 0 1)) ≡ []
of_b = refl

not_like : terms (Like true (Column 0 0) (Lit (Text (codes "ab%")))) ≡ []
not_like = refl

collated_pattern : terms (Like false (Column 0 0) (Collate (Lit (Text (codes "ab%"))) Nocase)) ≡ []
collated_pattern = refl

empty_pattern : terms (Like false (Column 0 0) (Lit (Text []))) ≡ []
empty_pattern = refl

-- `a LIKE 'ab%' AND a > 'aa'`: the direct bound stands first
abbrev statement : List BExpr → Bound
statement es = select (from 0 ∷ []) (Column 0 1 ∷ []) (map common es) []

abbrev above_aa : BExpr
above_aa = Cmp IsAbove (Column 0 0) (Lit (Text (codes "aa"))) None (Some TextAffinity) Nocase

abbrev lows : List (Option ℕ)
lows =
    map (λ t. t.conjunct)
    (column_terms schema (statement (like_ab (Column 0 0) ∷ above_aa ∷ [])) 0 (AtColumn 0)).lows

direct_first : lows ≡ Some 1 ∷ None ∷ []
direct_first = refl

-- `a LIKE 'ab%' OR b = 1`: each branch has a term
in_a_branch : map (λ o. o.conjunct)
    (or_terms schema
    (statement
    (Any (More (like_ab (Column 0 0)) (More (equals (Column 0 1) (Lit (int 1))) Nil)) ∷ [])) 0)
    ≡ 0 ∷ []
in_a_branch = refl
