-- Where a member comes to among those that are kept, which stand in order.
use Rattle.std.specs.Prelude.{ℕ, ◌+◌, Bool, ◌&&◌, ◌==◌, cond, List, [], ◌∷◌, Option, Some, None}
use Rattle.std.specs.Ordering.{is_le}
use Rattle.std.specs.declared.cmp.Ordering.{Ordering}
use Rattle.sql_meaning.specs.Statements.{all_in}
use Rattle.sql_meaning.specs.OrderState.{state_number}
use Rattle.plan_choice.specs.Settings.{Setting}
use Rattle.plan_choice.specs.Prefixes.{Prefix, placed_in}

-- behind all that go before it or tie, and nowhere where one of these is its rival; the list's
-- members are numbered from n on
abbrev pub entry_from : {X : Type 0} → (X → X → Bool) → (X → X → Ordering) → X → ℕ → List X
    → Option ℕ
entry_from E cmp x n [] = Some n
entry_from E cmp x n (y ∷ ys) =
    cond (is_le (cmp y x)) (cond (E y x) None (entry_from E cmp x (n + 1) ys)) (Some n)

-- where its first rival is, of members that are numbered from n on
abbrev pub rival_from : {X : Type 0} → (X → X → Bool) → X → ℕ → List X → Option ℕ
rival_from E x n [] = None
rival_from E x n (y ∷ ys) = cond (E y x) (Some n) (rival_from E x (n + 1) ys)

abbrev pub same_items : List ℕ → List ℕ → Bool
same_items is js = all_in is js && all_in js is

-- what rivals are among prefixes of one length, in a form that is an equivalence of all prefixes
abbrev pub alike : Setting → Prefix → Prefix → Bool
alike s p q =
    same_items (placed_in p) (placed_in q)
    && state_number s.bound.keys p.state == state_number s.bound.keys q.state
