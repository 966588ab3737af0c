-- The branches of an OR, one after the other.
use Rattle.std.proofs.Common.{◌≡◌, ◌<◌, ◌≤◌, ℕ, zero, suc, List, [], ◌∷◌, ◌++◌, refl, ap, sym, ◌∙◌}
use Rattle.std.proofs.Common.{length, drop, get_or, arith, slice_get, Some, subst}
use Rattle.std.proofs.lemmas.List.{append-nil}
use Rattle.std.specs.Borrow.{Bor}
use Rattle.list_laws.proofs.Turns.{past_end}
use Rattle.sql_meaning.specs.Expressions as plain
use Rattle.sql_meaning.specs.Items.{Item}
use Rattle.sql_meaning.specs.Schemas.{Schema}
use Rattle.sql_meaning.specs.Statements.{Bound, Conjunct}
use Rattle.sql_meaning.specs.Choices as choices
use Rattle.sql_meaning.specs.TermLists.{OrTerm}
use Rattle.sql_meaning.specs.TermLaws.{AreTermsOfBranches, IsListedOr}
use Rattle.plan_choice.specs.Scans as meant
use Rattle.sql_bound.proofs.Members.{plain_members}
use Rattle.sql_bound.specs.Expressions.{expr_of}
use Rattle.sql_bound.specs.Fits.{NamesExist, AllNamesExist}
use Rattle.sql_bound.specs.declared.expression.BExpr.{BExpr}
use Rattle.where_terms.specs.Views.{branches_of}
use Rattle.where_terms.specs.declared.term.ColumnTerms.{ColumnTerms}
use Rattle.statement_scans.specs.Branches.{branches_with, any_of, members_at}
use Rattle.statement_scans.specs.Items.{or_scans}

-- what a member names is there
pub names_at : (schema : Schema) (items : List Item) (members : List (Bor BExpr)) (i : ℕ)
    (d : Bor BExpr) → AllNamesExist schema items (plain_members members) → i < length members
    → NamesExist schema items (expr_of (get_or members i d).now)
names_at schema items [] i d names below = absurd (omega (arith, below))
names_at schema items (m ∷ members) zero d names below = names.0
names_at schema items (m ∷ members) (suc i) d names below =
    names_at schema items members i d names.1 (omega (arith, below))

none_with : (schema : Schema) (b : Bound) (item number : ℕ) (es : plain.BExprs)
    → branches_with schema b item number es [] ≡ []
none_with schema b item number plain.Nil = refl
none_with schema b item number (plain.More e es) = refl

pub branches_done : (schema : Schema) (b : Bound) (item number : ℕ) (es : plain.BExprs)
    (branches : List (Bor (List ColumnTerms))) (i : ℕ) (made whole : List meant.Scan)
    → length branches ≤ i
    → made ++ branches_with schema b item number es (branches_of (drop i branches)) ≡ whole
    → made ≡ whole
branches_done schema b item number es branches i made whole past h =
    let none : made ++ branches_with schema b item number es (branches_of (drop i branches)) ≡ made =
    ap (λ (bs : List (Bor (List ColumnTerms))).
    made ++ branches_with schema b item number es (branches_of bs)) (past_end branches i past)
    ∙ ap (λ (ss : List meant.Scan). made ++ ss) (none_with schema b item number es)
    ∙ append-nil made in
    sym none ∙ h

pub as_many : (schema : Schema) (b : Bound) (c : Conjunct) (item number : ℕ)
    (members : List (Bor BExpr)) (bs : List (List choices.ColumnTerms))
    → AreTermsOfBranches schema b c item number (plain_members members) bs
    → length bs ≤ length members
as_many schema b c item number [] [] h = omega arith
as_many schema b c item number [] (columns ∷ bs) h = absurd h
as_many schema b c item number (m ∷ members) [] h = absurd h
as_many schema b c item number (m ∷ members) (columns ∷ bs) h =
    let rest = as_many schema b c item number members bs h.2 in omega (arith, rest)

-- with the terms of each branch they are the scans of the branches
pub with_terms : (schema : Schema) (b : Bound) (c : Conjunct) (item number : ℕ)
    (es : plain.BExprs) (bs : List (List choices.ColumnTerms))
    → AreTermsOfBranches schema b c item number es bs
    → branches_with schema b item number es bs
    ≡ meant.branch_scans_of schema b c item number es
with_terms schema b c item number plain.Nil [] h = refl
with_terms schema b c item number plain.Nil (columns ∷ bs) h = absurd h
with_terms schema b c item number (plain.More e es) [] h = absurd h
with_terms schema b c item number (plain.More e es) (columns ∷ bs) h =
    rw (h.0, with_terms schema b c item number es bs h.2) refl

-- the members of the conjunct of an OR term are those whose terms it has
members_are : (schema : Schema) (b : Bound) (item : ℕ) (o : OrTerm) (es : plain.BExprs)
    → (l : IsListedOr schema b item o) → Some es ≡ members_at (slice_get b.conjuncts o.conjunct)
    → es ≡ l.branches
members_are schema b item o es l e =
    let both : Some es ≡ Some l.branches = e ∙ ap members_at l.is ∙ ap any_of l.any in cc

pub or_many : (schema : Schema) (b : Bound) (item : ℕ) (o : OrTerm) (members : List (Bor BExpr))
    → IsListedOr schema b item o
    → Some (plain_members members) ≡ members_at (slice_get b.conjuncts o.conjunct)
    → length o.branches ≤ length members
or_many schema b item o members l e =
    as_many schema b l.conjunct item o.conjunct members o.branches
    (subst (λ es. AreTermsOfBranches schema b l.conjunct item o.conjunct es o.branches)
    (sym (members_are schema b item o (plain_members members) l e)) l.terms)

pub or_is : (schema : Schema) (b : Bound) (item : ℕ) (o : OrTerm) (es : plain.BExprs)
    → IsListedOr schema b item o → Some es ≡ members_at (slice_get b.conjuncts o.conjunct)
    → branches_with schema b item o.conjunct es o.branches ≡ or_scans schema b item o
or_is schema b item o es l e =
    ap (λ ms. branches_with schema b item o.conjunct ms o.branches)
    (members_are schema b item o es l e)
    ∙ with_terms schema b l.conjunct item o.conjunct l.branches o.branches l.terms
    ∙ sym
    (ap (meant.scans_of_or schema b item o.conjunct) l.is
    ∙ ap (meant.scans_of_any schema b l.conjunct item o.conjunct) l.any)
