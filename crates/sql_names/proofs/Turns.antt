-- Members in turn.
use Rattle.std.proofs.Common.{◌≡◌, ◌<◌, ◌≤◌, ◌+◌, ℕ, Option, None, Some}
use Rattle.std.proofs.Common.{List, [], ◌∷◌, ◌++◌, length}
use Rattle.std.proofs.Common.{map, drop, get_or, refl, ap, sym, ◌∙◌, add-one, drop-cons}
use Rattle.std.proofs.lemmas.List.{map-append, drop_all}
use Rattle.std.specs.Borrow.{Bor}
use Rattle.sql_tree.specs.Trees.{Trees, trees, tree_of, more}
use Rattle.sql_tree.specs.declared.expression.Expr.{Expr}
use Rattle.sql_meaning.specs.Expressions.{BExpr, BExprs, More, Nil}
use Rattle.sql_bound.specs.Expressions.{exprs, expr_of}
use Rattle.sql_bound.specs.declared.expression.BExpr.{BExpr as Declared}
use Rattle.sql_names.specs.Faults.{first_failing}
use Rattle.sql_names.specs.Scopes.{Scope}
use Rattle.sql_names.specs.Binding.{expr_checks, all_checks, bound, all_bound}
use Rattle.sql_names.specs.declared.faults.BindFault.{BindFault}
use Rattle.sql_names.specs.declared.faults.BindFault.TheVariants.{Memory}
use Rattle.sql_names.proofs.Checks.{passed_first, fails_through}

-- some members before others
abbrev pub with_front : List BExpr → BExprs → BExprs
with_front [] es = es
with_front (f ∷ fs) es = More f (with_front fs es)

with_front-push : (fs : List BExpr) (e : BExpr) (es : BExprs)
    → with_front (fs ++ e ∷ []) es ≡ with_front fs (More e es)
with_front-push [] e es = refl
with_front-push (f ∷ fs) e es = ap (More f) (with_front-push fs e es)

with_front-end : (fs : List BExpr) → with_front fs Nil ≡ exprs fs
with_front-end [] = refl
with_front-end (f ∷ fs) = ap (More f) (with_front-end fs)

abbrev pub tree_members : List (Bor Expr) → Trees
tree_members rs = trees (map tree_of (map (λ member. member.now) rs))

module _ (scope : Scope) (owner : Option ℕ) (members : List (Bor Expr)) (i : ℕ) where
  abbrev pub here : Bor Expr → Trees
  here d = more (tree_of (get_or members i d).now) (tree_members (drop (i + 1) members))

  cut : (d : Bor Expr) → i < length members → tree_members (drop i members) ≡ here d
  cut d below =
      let turn : drop i members ≡ get_or members i d ∷ drop (i + 1) members =
      rw add-one (drop-cons members i d below) in
      ap tree_members turn

  pub checks_turn : (d : Bor Expr) (whole : Option BindFault) → i < length members
      → first_failing (expr_checks scope owner (tree_of (get_or members i d).now)) ≡ None
      → first_failing (all_checks scope owner (tree_members (drop i members))) ≡ whole
      → first_failing (all_checks scope owner (tree_members (drop (i + 1) members))) ≡ whole
  checks_turn d whole below passed invariant =
      sym
      (passed_first (expr_checks scope owner (tree_of (get_or members i d).now))
      (all_checks scope owner (tree_members (drop (i + 1) members))) passed)
      ∙ sym (ap (λ ts. first_failing (all_checks scope owner ts)) (cut d below))
      ∙ invariant

  pub bound_turn : (d : Bor Expr) (before : List Declared) (e : Declared) (now : List Declared)
      (whole : BExprs) → i < length members → now ≡ before ++ e ∷ []
      → expr_of e ≡ bound scope (tree_of (get_or members i d).now)
      → with_front (map expr_of before) (all_bound scope (tree_members (drop i members))) ≡ whole
      → with_front (map expr_of now) (all_bound scope (tree_members (drop (i + 1) members)))
      ≡ whole
  bound_turn d before e now whole below pushed is invariant =
      let rest = all_bound scope (tree_members (drop (i + 1) members)) in
      ap (λ xs. with_front (map expr_of xs) rest) pushed
      ∙ ap (λ xs. with_front xs rest) (map-append expr_of before (e ∷ []))
      ∙ with_front-push (map expr_of before) (expr_of e) rest
      ∙ ap (λ x. with_front (map expr_of before) (More x rest)) is
      ∙ sym (ap (λ ts. with_front (map expr_of before) (all_bound scope ts)) (cut d below))
      ∙ invariant

  pub fails_turn : (d : Bor Expr) (fault : BindFault) (whole : Option BindFault)
      → i < length members
      → ((fault ≡ Memory → ⊥)
      → first_failing (expr_checks scope owner (tree_of (get_or members i d).now)) ≡ Some fault)
      → first_failing (all_checks scope owner (tree_members (drop i members))) ≡ whole
      → (fault ≡ Memory → ⊥) → whole ≡ Some fault
  fails_turn d fault whole below fails invariant other =
      sym invariant
      ∙ ap (λ ts. first_failing (all_checks scope owner ts)) (cut d below)
      ∙ fails_through fault (expr_checks scope owner (tree_of (get_or members i d).now))
      (all_checks scope owner (tree_members (drop (i + 1) members))) fails other

  ended : length members ≤ i → drop i members ≡ []
  ended past = drop_all i members past

  pub checks_end : (whole : Option BindFault) → length members ≤ i
      → first_failing (all_checks scope owner (tree_members (drop i members))) ≡ whole
      → whole ≡ None
  checks_end whole past invariant =
      sym invariant
      ∙ ap (λ rs. first_failing (all_checks scope owner (tree_members rs))) (ended past)

  pub bound_end : (made : List Declared) (whole : BExprs) → length members ≤ i
      → with_front (map expr_of made) (all_bound scope (tree_members (drop i members))) ≡ whole
      → exprs (map expr_of made) ≡ whole
  bound_end made whole past invariant =
      sym (with_front-end (map expr_of made))
      ∙ sym
      (ap (λ rs. with_front (map expr_of made) (all_bound scope (tree_members rs))) (ended past))
      ∙ invariant
