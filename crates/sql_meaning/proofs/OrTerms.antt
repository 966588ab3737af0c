-- The OR terms of an item are of its OR conjuncts.
use Rattle.std.specs.List.{AllByRecursion}
use Rattle.std.proofs.Common.{◌≡◌, ◌≢◌, ℕ, suc, ◌+◌, Bool, true, false, ◌==◌, not, cond, List, []}
use Rattle.std.proofs.Common.{◌∷◌}
use Rattle.std.proofs.Common.{Option, Some, None, refl, ◌∙◌, ap, subst, slice_get, arith, length}
use Rattle.std.proofs.Common.{add-zero}
use Rattle.list_laws.proofs.Lists.{all_append}
use Rattle.sql_meaning.specs.Expressions.{BExpr, BExprs, Nil, More, Any, Lit, Param, Column, Rowid}
use Rattle.sql_meaning.specs.Expressions.{Plus, Collate, Cmp, OneOf, IsNull, Like, Not, All}
use Rattle.sql_meaning.specs.Schemas.{Schema}
use Rattle.sql_meaning.specs.Statements.{Bound, Conjunct}
use Rattle.sql_meaning.specs.Conjuncts.{may_serve}
use Rattle.sql_meaning.specs.Choices.{ColumnTerms}
use Rattle.sql_meaning.specs.Serving.{Served}
use Rattle.sql_meaning.specs.TermLists.{OrTerm, or_terms_from, or_terms_of, or_term}
use Rattle.sql_meaning.specs.TermLists.{unless_served, terms_of_branches, branch_terms}
use Rattle.sql_meaning.specs.TermLists.{if_each_has_terms}
use Rattle.sql_meaning.specs.TermLaws.{AreTermsOfBranches, IsListedOr, OrTermsAreOfConjuncts}

has_some : {X : Type 0} (xs : List X) → not (length xs == 0) ≡ true → xs ≢ []
has_some {X} xs h =
    λ e. let no : not (length xs == 0) ≡ false = ap (λ (zs : List X). not (length zs == 0)) e in cc

split_cond : (columns : List ColumnTerms) (others bs : List (List ColumnTerms)) (b : Bool)
    → not (length columns == 0) ≡ b → cond b (Some (columns ∷ others)) None ≡ Some bs
    → (columns ∷ others ≡ bs) × (columns ≢ [])
split_cond columns others bs true e f = (cc, has_some columns e)
split_cond columns others bs false e f = absurd (cc)

split_terms : (columns : List ColumnTerms) (o : Option (List (List ColumnTerms)))
    (bs : List (List ColumnTerms))
    → if_each_has_terms columns o ≡ Some bs
    → (rest : List (List ColumnTerms)) × (columns ∷ rest ≡ bs) × (columns ≢ []) × (o ≡ Some rest)
split_terms columns None bs e = absurd (cc)
split_terms columns (Some others) bs e =
    let c = split_cond columns others bs _ refl e in (others, c.0, c.1, refl)

are_terms : (schema : Schema) (bound : Bound) (c : Conjunct) (item number : ℕ) (es : BExprs)
    (bs : List (List ColumnTerms))
    → terms_of_branches schema bound c item number es ≡ Some bs
    → AreTermsOfBranches schema bound c item number es bs
are_terms schema bound c item number Nil bs h =
    let none : [] ≡ bs = cc in
    subst (AreTermsOfBranches schema bound c item number Nil) none tt
are_terms schema bound c item number (More e es) bs h =
    let t =
    split_terms (branch_terms schema bound c item number e)
    (terms_of_branches schema bound c item number es) bs h in
    subst (AreTermsOfBranches schema bound c item number (More e es)) t.1
    (refl, t.2, are_terms schema bound c item number es t.0 t.3)

some_branches : (schema : Schema) (bound : Bound) (item number : ℕ) (c : Conjunct) (es : BExprs)
    → slice_get bound.conjuncts number ≡ Some c → may_serve bound item c ≡ true
    → c.expr ≡ Any es → (o : Option (List (List ColumnTerms)))
    → terms_of_branches schema bound c item number es ≡ o
    → AllByRecursion (IsListedOr schema bound item) (or_term number o)
some_branches schema bound item number c es is allowed any None e = tt
some_branches schema bound item number c es is allowed any (Some bs) e = (
  record {
    conjunct = c;
    branches = es;
    is = is;
    allowed = allowed;
    any = any;
    terms = are_terms schema bound c item number es bs e;
  },
  tt,
)

unserved : (schema : Schema) (bound : Bound) (item : ℕ) (o : Option Served) (ts : List OrTerm)
    → AllByRecursion (IsListedOr schema bound item) ts
    → AllByRecursion (IsListedOr schema bound item) (unless_served o ts)
unserved schema bound item None ts h = h
unserved schema bound item (Some served) ts h = tt

of_expr : (schema : Schema) (bound : Bound) (item number : ℕ) (c : Conjunct)
    → slice_get bound.conjuncts number ≡ Some c → may_serve bound item c ≡ true → (e : BExpr)
    → c.expr ≡ e
    → AllByRecursion (IsListedOr schema bound item) (or_terms_of schema bound c item number e)
of_expr schema bound item number c is allowed (Any es) any =
    unserved schema bound item _ _
    (some_branches schema bound item number c es is allowed any _ refl)
of_expr schema bound item number c is allowed (Lit v) any = tt
of_expr schema bound item number c is allowed (Param n) any = tt
of_expr schema bound item number c is allowed (Column i n) any = tt
of_expr schema bound item number c is allowed (Rowid i) any = tt
of_expr schema bound item number c is allowed (Plus e) any = tt
of_expr schema bound item number c is allowed (Collate e k) any = tt
of_expr schema bound item number c is allowed (Cmp op l r lc rc k) any = tt
of_expr schema bound item number c is allowed (OneOf n l es ec k) any = tt
of_expr schema bound item number c is allowed (IsNull n e) any = tt
of_expr schema bound item number c is allowed (Like n e p) any = tt
of_expr schema bound item number c is allowed (Not e) any = tt
of_expr schema bound item number c is allowed (All es) any = tt

if_serving : (schema : Schema) (bound : Bound) (item number : ℕ) (c : Conjunct)
    → slice_get bound.conjuncts number ≡ Some c → (b : Bool) → may_serve bound item c ≡ b
    → AllByRecursion (IsListedOr schema bound item)
    (cond b (or_terms_of schema bound c item number c.expr) [])
if_serving schema bound item number c is true e =
    of_expr schema bound item number c is e c.expr refl
if_serving schema bound item number c is false e = tt

listed_from : (schema : Schema) (bound : Bound) (item number : ℕ) (cs : List Conjunct)
    → ((k : ℕ) (c : Conjunct) → slice_get cs k ≡ Some c
    → slice_get bound.conjuncts (k + number) ≡ Some c)
    → AllByRecursion (IsListedOr schema bound item) (or_terms_from schema bound item number cs)
listed_from schema bound item number [] at = tt
listed_from schema bound item number (c ∷ cs) at =
    all_append _ _ _
    (if_serving schema bound item number c
    (let e : number ≡ 0 + number = omega arith in
    ap (slice_get bound.conjuncts) e ∙ at 0 c refl) (may_serve bound item c) refl)
    (listed_from schema bound item (suc number) cs
    (λ k d f. let e : k + suc number ≡ suc k + number = omega arith in
    ap (slice_get bound.conjuncts) e ∙ at (suc k) d f))

pub or_terms_are_of_conjuncts : OrTermsAreOfConjuncts
or_terms_are_of_conjuncts = λ schema bound item.
    listed_from schema bound item 0 bound.conjuncts
    (λ k c e. ap (slice_get bound.conjuncts) (add-zero k) ∙ e)
