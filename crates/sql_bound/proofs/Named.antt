-- Whether an item is named, of lists of names one after another.
use Rattle.std.proofs.Common.{◌≡◌, ◌<◌, ◌+◌, ℕ, Bool, true, false, ◌||◌, ◌==◌, List, [], ◌∷◌, ◌++◌}
use Rattle.std.proofs.Common.{refl, ap, sym, ◌∙◌, length, get_or, drop, add-one, drop-cons}
use Rattle.std.specs.Borrow.{Bor}
use Rattle.sql_meaning.specs.Statements.{has_number}
use Rattle.sql_meaning.specs.Expressions.{names, all_names}
use Rattle.sql_bound.specs.declared.expression.BExpr.{BExpr}
use Rattle.sql_bound.specs.Expressions.{expr_of}
use Rattle.sql_bound.proofs.Members.{plain_members}

or_assoc : (a b c : Bool) → ((a || b) || c) ≡ (a || (b || c))
or_assoc true b c = refl
or_assoc false b c = refl

pub named-append : (item : ℕ) (xs ys : List ℕ)
    → has_number item (xs ++ ys) ≡ (has_number item xs || has_number item ys)
named-append item [] ys = refl
named-append item (x ∷ xs) ys =
    ap (λ b. (item == x) || b) (named-append item xs ys)
    ∙ sym (or_assoc (item == x) (has_number item xs) (has_number item ys))

pub named_first : (item : ℕ) (xs ys : List ℕ) (b : Bool) → b ≡ has_number item xs → b ≡ true
    → b ≡ has_number item (xs ++ ys)
named_first item xs ys b is t =
    t ∙ ap (λ v. v || has_number item ys) (sym t ∙ is) ∙ sym (named-append item xs ys)

pub named_second : (item : ℕ) (xs ys : List ℕ) (a b : Bool) → a ≡ has_number item xs → a ≡ false
    → b ≡ has_number item ys → b ≡ has_number item (xs ++ ys)
named_second item xs ys a b is f here =
    here ∙ ap (λ v. v || has_number item ys) (sym f ∙ is) ∙ sym (named-append item xs ys)

cut : (members : List (Bor BExpr)) (i : ℕ) (d : Bor BExpr) → i < length members
    → all_names (plain_members (drop i members))
    ≡ names (expr_of (get_or members i d).now) ++ all_names (plain_members (drop (i + 1) members))
cut members i d below =
    let e : drop i members ≡ get_or members i d ∷ drop (i + 1) members =
    rw add-one (drop-cons members i d below) in
    ap (λ ms. all_names (plain_members ms)) e

pub named_here : (item : ℕ) (members : List (Bor BExpr)) (i : ℕ) (d : Bor BExpr) (b whole : Bool)
    → i < length members → b ≡ has_number item (names (expr_of (get_or members i d).now)) → b ≡ true
    → has_number item (all_names (plain_members (drop i members))) ≡ whole → true ≡ whole
named_here item members i d b whole below is t inv =
    sym t
    ∙ named_first item (names (expr_of (get_or members i d).now))
    (all_names (plain_members (drop (i + 1) members))) b is t
    ∙ ap (has_number item) (sym (cut members i d below)) ∙ inv

pub named_later : (item : ℕ) (members : List (Bor BExpr)) (i : ℕ) (d : Bor BExpr) (b whole : Bool)
    → i < length members → b ≡ has_number item (names (expr_of (get_or members i d).now))
    → b ≡ false → has_number item (all_names (plain_members (drop i members))) ≡ whole
    → has_number item (all_names (plain_members (drop (i + 1) members))) ≡ whole
named_later item members i d b whole below is f inv =
    named_second item (names (expr_of (get_or members i d).now))
    (all_names (plain_members (drop (i + 1) members))) b
    (has_number item (all_names (plain_members (drop (i + 1) members)))) is f refl
    ∙ ap (has_number item) (sym (cut members i d below)) ∙ inv
