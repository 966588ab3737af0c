-- What is bound of a LEFT JOIN's ON condition stays to the left.
use Rattle.std.proofs.Common.{◌≡◌, ◌≤◌, ℕ, Bool, true, false, nat_lt, if◌then◌else◌, None}
use Rattle.std.proofs.Common.{Some, List, [], ◌∷◌, ◌++◌, refl, arith}
use Rattle.std.specs.List.{AllByRecursion}
use Rattle.sql_meaning.specs.Expressions.{BExpr, Lit, Column, Rowid, names, all_names}
use Rattle.sql_tree.specs.Trees as tree
use Rattle.sql_tree.specs.Trees.{Tree, Trees}
use Rattle.sql_names.specs.declared.faults.BindFault.TheVariants.{RightName}
use Rattle.sql_names.specs.Faults.{first_failing}
use Rattle.sql_names.specs.Scopes.{Scope, IsScope}
use Rattle.sql_names.specs.Names.{Meaning, Denotes, Ambiguous, Unknown, meant_expr, meaning_check}
use Rattle.sql_names.specs.Names.{is_right_of, meaning_of, shown}
use Rattle.sql_names.specs.Binding.{bound, all_bound, expr_checks, all_checks}
use Rattle.sql_names.specs.Laws.{BoundStaysLeft}
use Rattle.sql_names.proofs.Checks.{passed_both}
use Rattle.sql_names.proofs.Sound.{IsPart, name_is_part}

-- the item is not to the right of the owner
abbrev Stays : ℕ → List ℕ → Type 0
Stays owner items = AllByRecursion (λ item. item ≤ owner) items

both : (owner : ℕ) (xs ys : List ℕ) → Stays owner xs → Stays owner ys → Stays owner (xs ++ ys)
both owner [] ys a b = b
both owner (x ∷ xs) ys a b = (a.0, both owner xs ys a.1 b)

at_most : (owner item : ℕ) (b : Bool) → nat_lt owner item ≡ b → b ≡ false → item ≤ owner
at_most owner item true is h = absurd (cc)
at_most owner item false is h = grind arith

part_stays : (owner : ℕ) (e : BExpr) → IsPart e → is_right_of (Some owner) e ≡ false
    → Stays owner (names e)
part_stays owner (Lit v) part h = tt
part_stays owner (Column item column) part h = (at_most owner item _ refl h, tt)
part_stays owner (Rowid item) part h = (at_most owner item _ refl h, tt)
part_stays owner e part h = absurd part

-- the items of the two comparisons of a BETWEEN
abbrev twice : List ℕ → List ℕ → List ℕ → List ℕ
twice xs ls hs = (xs ++ ls) ++ ((xs ++ hs) ++ [])

twice_stay : (owner : ℕ) (xs ls hs : List ℕ) → Stays owner xs → Stays owner ls → Stays owner hs
    → Stays owner (twice xs ls hs)
twice_stay owner xs ls hs a b c =
    both owner (xs ++ ls) _ (both owner xs ls a b)
    (both owner (xs ++ hs) [] (both owner xs hs a c) tt)

between : (scope : Scope) (owner : ℕ) (negated : Bool) (x low high : Tree)
    → Stays owner
    (twice (names (bound scope x)) (names (bound scope low)) (names (bound scope high)))
    → Stays owner (names (bound scope (tree.Between negated x low high)))
between scope owner true x low high h = h
between scope owner false x low high h = h

meaning_stays : (owner : ℕ) (m : Meaning) (text : List ℕ) → IsPart (meant_expr m)
    → first_failing (meaning_check (Some owner) m text ∷ []) ≡ None
    → Stays owner (names (meant_expr m))
meaning_stays owner Ambiguous text part h = tt
meaning_stays owner Unknown text part h = tt
meaning_stays owner (Denotes e) text part h =
    part_stays owner e part
    (checked (is_right_of (Some owner) e) h)
  where
    checked : (b : Bool)
        → first_failing ((if b then Some (RightName text) else None) ∷ []) ≡ None → b ≡ false
    checked true h = absurd (cc)
    checked false h = refl

module _ (scope : Scope) (owner : ℕ) (is : IsScope scope) where
  mutual
    stays : (t : Tree) → first_failing (expr_checks scope (Some owner) t) ≡ None
        → Stays owner (names (bound scope t))
    stays (tree.Lit v) h = tt
    stays (tree.Param number) h = tt
    stays (tree.Name table name) h =
        meaning_stays owner (meaning_of scope table name) (shown table name)
        (name_is_part scope is table name) h
    stays (tree.Plus x) h = stays x h
    stays (tree.Collate x name) h =
        stays x (passed_both (expr_checks scope (Some owner) x) _ h).0
    stays (tree.Cmp op x y) h =
        let a = passed_both (expr_checks scope (Some owner) x) _ h in
        both owner (names (bound scope x)) _ (stays x a.0) (stays y a.1)
    stays (tree.Between negated x low high) h =
        let a = passed_both (expr_checks scope (Some owner) x) _ h in
        let b = passed_both (expr_checks scope (Some owner) low) _ a.1 in
        between scope owner negated x low high
        (twice_stay owner (names (bound scope x)) (names (bound scope low))
        (names (bound scope high)) (stays x a.0) (stays low b.0) (stays high b.1))
    stays (tree.OneOf negated x xs) h =
        let a = passed_both (expr_checks scope (Some owner) x) _ h in
        both owner (names (bound scope x)) _ (stays x a.0) (all_stay xs a.1)
    stays (tree.Like negated x pattern) h =
        let a = passed_both (expr_checks scope (Some owner) x) _ h in
        both owner (names (bound scope x)) _ (stays x a.0) (stays pattern a.1)
    stays (tree.IsNull negated x) h = stays x h
    stays (tree.Not x) h = stays x h
    stays (tree.All xs) h = all_stay xs h
    stays (tree.Any xs) h = all_stay xs h

    all_stay : (ts : Trees) → first_failing (all_checks scope (Some owner) ts) ≡ None
        → Stays owner (all_names (all_bound scope ts))
    all_stay tree.end h = tt
    all_stay (tree.more x xs) h =
        let a = passed_both (expr_checks scope (Some owner) x) _ h in
        both owner (names (bound scope x)) _ (stays x a.0) (all_stay xs a.1)

pub bound_stays : BoundStaysLeft
bound_stays scope owner t is h = stays scope owner is t h
