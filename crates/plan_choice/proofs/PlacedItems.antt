-- Which items are placed, and which may come next.
use Rattle.std.specs.List.{filter}
use Rattle.std.proofs.Common.{◌≡◌, ◌≢◌, ◌<◌, ◌≤◌, ℕ, zero, suc, ◌+◌, Bool, true, false, cond, not}
use Rattle.std.proofs.Common.{◌||◌, ◌==◌, List, [], ◌∷◌, Option, Some, None, slice_get}
use Rattle.std.proofs.Common.{refl, sym, ap, ◌∙◌, arith}
use Rattle.std.proofs.lemmas.Bool.{eqb-true, eq-eqb}
use Rattle.list_laws.proofs.Bools.{or_first, or_later, and_left, and_right, not_true}
use Rattle.sql_meaning.specs.Items.{Item}
use Rattle.sql_meaning.specs.Statements.{Bound, has_number, all_in, left_item, is_left}
use Rattle.sql_meaning.specs.Statements.{numbers_from}
use Rattle.plan_choice.specs.Prefixes.{stays_right, may_come}

inside_case : (n : ℕ) (ns ms : List ℕ) (a : ℕ) (b : Bool) → (a == n) ≡ b
    → has_number n ms ≡ true → (has_number a ns ≡ true → has_number a ms ≡ true)
    → (has_number a (n ∷ ns)) ≡ true → has_number a ms ≡ true
inside_case n ns ms a true e h ih k = ap (λ i. has_number i ms) (eqb-true a n e) ∙ h
inside_case n ns ms a false e h ih k = ih (ap (λ b. b || has_number a ns) (sym e) ∙ k)

-- members of a list that is inside another one are in that one
pub inside : (ns ms : List ℕ) (a : ℕ) → all_in ns ms ≡ true → has_number a ns ≡ true
    → has_number a ms ≡ true
inside [] ms a h k = absurd (cc)
inside (n ∷ ns) ms a h k =
    inside_case n ns ms a (a == n) refl (and_left (has_number n ms) _ h)
    (inside ns ms a (and_right (has_number n ms) _ h)) k

from_case : (start n a : ℕ) (b : Bool) → (a == start) ≡ b → start ≤ a → a < start + suc n
    → (start + 1 ≤ a → a < start + 1 + n → has_number a (numbers_from (start + 1) n) ≡ true)
    → has_number a (start ∷ numbers_from (start + 1) n) ≡ true
from_case start n a true e l m ih = or_first (a == start) _ e
from_case start n a false e l m ih =
    let apart : a ≢ start = (λ same. let yes : (a == start) ≡ true = eq-eqb a start same in cc) in
    or_later (a == start) _ (ih (omega (arith, l, apart)) (omega (arith, m)))

pub has_from : (start n a : ℕ) → start ≤ a → a < start + n
    → has_number a (numbers_from start n) ≡ true
has_from start zero a l m = absurd (omega (arith, l, m))
has_from start (suc n) a l m =
    from_case start n a (a == start) refl l m (has_from (start + 1) n a)

kept_case : (f : ℕ → Bool) (a x : ℕ) (xs : List ℕ) (d : Bool)
    → has_number a (filter f xs) ≡ true
    → has_number a (cond d (x ∷ filter f xs) (filter f xs)) ≡ true
kept_case f a x xs true h = or_later (a == x) _ h
kept_case f a x xs false h = h

filter_step : (f : ℕ → Bool) (a x : ℕ) (xs : List ℕ) (b : Bool) → (a == x) ≡ b → f a ≡ true
    → has_number a (x ∷ xs) ≡ true
    → (has_number a xs ≡ true → has_number a (filter f xs) ≡ true) → (d : Bool) → f x ≡ d
    → has_number a (cond d (x ∷ filter f xs) (filter f xs)) ≡ true
filter_step f a x xs true e g h ih true k = or_first (a == x) _ e
filter_step f a x xs true e g h ih false k =
    let is : f x ≡ true = ap f (sym (eqb-true a x e)) ∙ g in absurd (cc)
filter_step f a x xs false e g h ih d k =
    let rest : has_number a xs ≡ true = ap (λ b. b || has_number a xs) (sym e) ∙ h in
    kept_case f a x xs d (ih rest)

pub has_filter : (f : ℕ → Bool) (xs : List ℕ) (a : ℕ) → f a ≡ true → has_number a xs ≡ true
    → has_number a (filter f xs) ≡ true
has_filter f [] a g h = h
has_filter f (x ∷ xs) a g h =
    filter_step f a x xs (a == x) refl g h (has_filter f xs a g) (f x) refl

stays : (o : Option Item) → left_item o ≡ true → stays_right o ≡ true
stays None h = absurd (cc)
stays (Some item) h = or_later item.cross _ h

-- what may come next isn't placed; of two items that may not change places the first one comes
-- first
pub unplaced : (bound : Bound) (placed : List ℕ) (i : ℕ) → may_come bound placed i ≡ true
    → has_number i placed ≡ false
unplaced bound placed i h =
    not_true (has_number i placed) (and_left (not (has_number i placed)) _ h)

all_left_of : (b : Bool) (i : ℕ) (placed : List ℕ) → b ≡ true
    → (not b || all_in (numbers_from 0 i) placed) ≡ true
    → all_in (numbers_from 0 i) placed ≡ true
all_left_of true i placed e h = h
all_left_of false i placed e h = absurd (cc)

pub before_left : (bound : Bound) (placed : List ℕ) (i a : ℕ) → may_come bound placed i ≡ true
    → a < i → is_left bound i ≡ true → has_number a placed ≡ true
before_left bound placed i a h l left =
    let rest = and_right (not (has_number i placed)) _ h in
    let second = and_left
    (not (stays_right (slice_get bound.items i)) || all_in (numbers_from 0 i) placed) _ rest in
    inside (numbers_from 0 i) placed a
    (all_left_of (stays_right (slice_get bound.items i)) i placed
    (stays (slice_get bound.items i) left) second)
    (has_from 0 i a (omega arith) (omega (arith, l)))

pub left_before : (bound : Bound) (placed : List ℕ) (i a : ℕ) → may_come bound placed i ≡ true
    → a < i → is_left bound a ≡ true → has_number a placed ≡ true
left_before bound placed i a h l left =
    let rest = and_right (not (has_number i placed)) _ h in
    let third = and_right
    (not (stays_right (slice_get bound.items i)) || all_in (numbers_from 0 i) placed) _ rest in
    inside (filter (is_left bound) (numbers_from 0 i)) placed a third
    (has_filter (is_left bound) (numbers_from 0 i) a left
    (has_from 0 i a (omega arith) (omega (arith, l))))
