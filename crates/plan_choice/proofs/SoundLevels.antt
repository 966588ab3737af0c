-- Each level has sound prefixes, and so has the written order.
use Rattle.std.specs.List.{AllByRecursion, filter}
use Rattle.std.proofs.Common.{◌≡◌, ◌≢◌, ◌<◌, ◌≤◌, ℕ, zero, suc, ◌+◌, Bool, true, false, cond, not}
use Rattle.std.proofs.Common.{◌||◌, ◌==◌, ltb, List, [], ◌∷◌, length, map, Option, Some}
use Rattle.std.proofs.Common.{None, refl, sym, ap, ◌∙◌, subst, arith, slice_get}
use Rattle.std.proofs.lemmas.Bool.{eqb-true, eq-eqb, ltb-true, ltb-false, lt-ltb, le-ltb}
use Rattle.list_laws.proofs.Lists.{all_map, all_both, all_flat_map, all_filter}
use Rattle.list_laws.proofs.Lists.{filter_all}
use Rattle.list_laws.proofs.Bools.{or_later, both_true}
use Rattle.list_laws.proofs.FirstComings.{all_keep}
use Rattle.sql_meaning.specs.Statements.{Bound, has_number, all_in, is_left, numbers_from}
use Rattle.list_laws.proofs.SortedViews.{all_sort}
use Rattle.plan_choice.specs.Settings.{Setting}
use Rattle.plan_choice.specs.Offers.{lighter, lightest}
use Rattle.plan_choice.specs.Prefixes.{OfferedLoop, Prefix, placed_in, empty_prefix, extended}
use Rattle.plan_choice.specs.Prefixes.{may_come, next_items, offered_loops, extensions, stays_right}
use Rattle.plan_choice.specs.Choice.{neighbor_count, nearer, rivals, next_level, levels, last_level}
use Rattle.plan_choice.specs.Choice.{written, written_from, written_step, extended_by}
use Rattle.list_laws.proofs.Lists.{all_take, all_mapped}
use Rattle.plan_choice.proofs.ListedOffers.{IsNext, lightest_one}
use Rattle.plan_choice.proofs.OfferedLoops.{IsOfferedLoop, placed_more}
use Rattle.plan_choice.proofs.PlacedItems.{unplaced}
use Rattle.plan_choice.proofs.SoundPrefixes.{IsOwn, IsPrefix, empty_is, extended_is}
use Rattle.plan_choice.proofs.SoundPrefixes.{offered_loops_are}

pub numbers_below : (start n : ℕ) → AllByRecursion (λ i. i < start + n) (numbers_from start n)
numbers_below start zero = tt
numbers_below start (suc n) = (
  omega arith,
  all_map _ _ (numbers_from (start + 1) n) (λ i l. omega (arith, l)) (numbers_below (start + 1) n),
)

pub next_are : (bound : Bound) (placed : List ℕ)
    → AllByRecursion
    (λ i. (may_come bound placed i ≡ true) × (i < length bound.items)) (next_items bound placed)
next_are bound placed =
    all_both _ _ _ (next_items bound placed) (λ i a b. (a, b))
    (filter_all _ (may_come bound placed) (numbers_from 0 (length bound.items)) (λ i e. e))
    (all_filter _ (may_come bound placed) (numbers_from 0 (length bound.items))
    (all_map _ _ (numbers_from 0 (length bound.items)) (λ i l. omega (arith, l))
    (numbers_below 0 (length bound.items))))

pub next_of : (s : Setting) (placed : List ℕ) (i : ℕ) → IsOwn s → may_come s.bound placed i ≡ true
    → i < length s.bound.items → IsNext s placed i
next_of s placed i o come below =
    record { fits = o.fits; unplaced = unplaced s.bound placed i come; own = o.own i below }

pub by_taking : (s : Setting) (count : ℕ) (p : Prefix) (i : ℕ) → IsPrefix s count p
    → may_come s.bound (placed_in p) i ≡ true → i < length s.bound.items → (t : OfferedLoop)
    → t.item ≡ i → IsOfferedLoop s (placed_in p) t → IsPrefix s (suc count) (extended s p t)
by_taking s count p i h come below t e k =
    extended_is s count p t h (ap (may_come s.bound (placed_in p)) e ∙ come)
    (subst (λ (j : ℕ). j < length s.bound.items) (sym e) below) k

pub extensions_are : (s : Setting) (count : ℕ) (p : Prefix) → IsOwn s → IsPrefix s count p
    → AllByRecursion (IsPrefix s (suc count)) (extensions s p)
extensions_are s count p o h =
    all_flat_map (IsPrefix s (suc count))
    (λ i. map (extended s p) (offered_loops s (placed_in p) i)) (next_items s.bound (placed_in p))
    (all_map _ _ (next_items s.bound (placed_in p))
    (λ i n. all_mapped (IsPrefix s (suc count)) (extended s p) (offered_loops s (placed_in p) i)
    (all_map _ _ (offered_loops s (placed_in p) i)
    (λ t k. by_taking s count p i h n.0 n.1 t k.0 k.1)
    (offered_loops_are s (placed_in p) i (next_of s (placed_in p) i o n.0 n.1))))
    (next_are s.bound (placed_in p)))

pub next_level_is : (s : Setting) (count : ℕ) (kept : List Prefix) → IsOwn s
    → AllByRecursion (IsPrefix s count) kept
    → AllByRecursion (IsPrefix s (suc count)) (next_level s kept)
next_level_is s count kept o h =
    all_take _ (neighbor_count (length s.bound.items)) _
    (all_keep (rivals s) _ _ []
    (all_sort _ (nearer s) _
    (all_flat_map _ _ kept (all_map _ _ kept (λ p i. extensions_are s count p o i) h))))

pub levels_are : (s : Setting) (count n : ℕ) (kept : List Prefix) → IsOwn s
    → AllByRecursion (IsPrefix s count) kept
    → AllByRecursion (IsPrefix s (count + n)) (levels s n kept)
levels_are s count zero kept o h =
    let e : count ≡ count + 0 = omega arith in
    subst (λ (c : ℕ). AllByRecursion (IsPrefix s c) kept) e h
levels_are s count (suc n) kept o h =
    let e : suc count + n ≡ count + suc n = omega arith in
    subst (λ (c : ℕ). AllByRecursion (IsPrefix s c) (levels s n (next_level s kept))) e
    (levels_are s (suc count) n (next_level s kept) o (next_level_is s count kept o h))

pub last_is : (s : Setting) → IsOwn s
    → AllByRecursion (IsPrefix s (length s.bound.items)) (last_level s)
last_is s o =
    let e : 0 + length s.bound.items ≡ length s.bound.items = omega arith in
    subst (λ (c : ℕ). AllByRecursion (IsPrefix s c) (last_level s)) e
    (levels_are s 0 (length s.bound.items) (empty_prefix s ∷ []) o (empty_is s, tt))

-- in written order just the items before are placed
abbrev pub IsFront : ℕ → List ℕ → Type 0
IsFront i placed = (j : ℕ) → has_number j placed ≡ ltb j i

front_case : (i j : ℕ) (b c : Bool) → (j == i) ≡ b → ltb j i ≡ c → (b || c) ≡ ltb j (i + 1)
front_case i j true c e f =
    let is : j ≡ i = eqb-true j i e in sym (lt-ltb j (i + 1) (omega (arith, is)))
front_case i j false true e f =
    let below = ltb-true j i f in sym (lt-ltb j (i + 1) (omega (arith, below)))
front_case i j false false e f =
    let above = ltb-false j i f in
    let apart : j ≢ i = (λ is. let yes : (j == i) ≡ true = eq-eqb j i is in cc) in
    sym (le-ltb j (i + 1) (omega (arith, above, apart)))

front_more : (i : ℕ) (placed : List ℕ) → IsFront i placed → IsFront (i + 1) (i ∷ placed)
front_more i placed f j =
    ap (λ b. (j == i) || b) (f j) ∙ front_case i j (j == i) (ltb j i) refl refl

all_front : (start n i : ℕ) (placed : List ℕ) → IsFront i placed → start + n ≤ i
    → all_in (numbers_from start n) placed ≡ true
all_front start zero i placed f l = refl
all_front start (suc n) i placed f l =
    both_true (has_number start placed) _ (f start ∙ lt-ltb start i (omega (arith, l)))
    (all_front (start + 1) n i placed f (omega (arith, l)))

some_case : (q : ℕ → Bool) (x : ℕ) (ys placed : List ℕ) (b : Bool) → has_number x placed ≡ true
    → all_in ys placed ≡ true → all_in (cond b (x ∷ ys) ys) placed ≡ true
some_case q x ys placed true h k = both_true (has_number x placed) _ h k
some_case q x ys placed false h k = k

some_front : (q : ℕ → Bool) (start n i : ℕ) (placed : List ℕ) → IsFront i placed → start + n ≤ i
    → all_in (filter q (numbers_from start n)) placed ≡ true
some_front q start zero i placed f l = refl
some_front q start (suc n) i placed f l =
    some_case q start (filter q (numbers_from (start + 1) n)) placed (q start)
    (f start ∙ lt-ltb start i (omega (arith, l)))
    (some_front q (start + 1) n i placed f (omega (arith, l)))

pub front_comes : (bound : Bound) (placed : List ℕ) (i : ℕ) → IsFront i placed
    → may_come bound placed i ≡ true
front_comes bound placed i f =
    both_true (not (has_number i placed)) _
    (ap not (f i ∙ le-ltb i i (omega arith)))
    (both_true (not (stays_right (slice_get bound.items i)) || all_in (numbers_from 0 i) placed) _
    (or_later (not (stays_right (slice_get bound.items i))) _
    (all_front 0 i i placed f (omega arith)))
    (some_front (is_left bound) 0 i i placed f (omega arith)))

chosen_some : {X : Type 0} (x y : X) (b : Bool) → (z : X) × (cond b (Some y) (Some x) ≡ Some z)
chosen_some x y true = (y, refl)
chosen_some x y false = (x, refl)

-- there is an offer, so there is a lightest one
lighter_some : {X : Type 0} (weight : X → ℕ) (x : X) (o : Option X)
    → (y : X) × (lighter weight x o ≡ Some y)
lighter_some weight x None = (x, refl)
lighter_some weight x (Some y) = chosen_some x y _

abbrev HasSome : {X : Type 0} → List X → Type 0
HasSome [] = ⊥
HasSome (x ∷ xs) = Unit {0}

pub lightest_some : {X : Type 0} (weight : X → ℕ) (xs : List X) → HasSome xs
    → (y : X) × (lightest weight xs ≡ Some y)
lightest_some weight [] h = absurd h
lightest_some weight (x ∷ xs) h = lighter_some weight x (lightest weight xs)

pub front_placed : (p : Prefix) (i : ℕ) (s : Setting) (t : OfferedLoop) → t.item ≡ i
    → IsFront i (placed_in p) → IsFront (i + 1) (placed_in (extended s p t))
front_placed p i s t e f =
    subst (IsFront (i + 1)) (sym (placed_more p.loops t []))
    (subst (λ (j : ℕ). IsFront (i + 1) (j ∷ placed_in p)) (sym e) (front_more i (placed_in p) f))

pub record IsWritten (s : Setting) (i : ℕ) (p : Prefix) : Type 0 where
  pub prefix : IsPrefix s i p
  pub front : IsFront i (placed_in p)

pub written_step_is : (s : Setting) (p : Prefix) (i : ℕ) → IsOwn s → IsWritten s i p
    → i < length s.bound.items → IsWritten s (i + 1) (written_step s p i)
written_step_is s p i o w below =
    let come = front_comes s.bound (placed_in p) i w.front in
    let each = offered_loops_are s (placed_in p) i (next_of s (placed_in p) i o come below) in
    let best = lightest_some (λ (t : OfferedLoop). t.offer.cost.run)
    (offered_loops s (placed_in p) i) tt in
    let is = lightest_one _ (λ (t : OfferedLoop). t.offer.cost.run)
    (offered_loops s (placed_in p) i) each best.0 best.1 in
    let e : suc i ≡ i + 1 = omega arith in
    subst (λ (o : Option OfferedLoop). IsWritten s (i + 1) (extended_by s p o)) (sym best.1)
    (record {
      prefix =
          subst (λ (c : ℕ). IsPrefix s c (extended s p best.0)) e
          (by_taking s i p i w.prefix come below best.0 is.0 is.1);
      front = front_placed p i s best.0 is.0 w.front;
    })

pub written_from_is : (s : Setting) (p : Prefix) (i n : ℕ) → IsOwn s → IsWritten s i p
    → i + n ≡ length s.bound.items
    → IsPrefix s (length s.bound.items) (written_from s p i n)
written_from_is s p i zero o w e =
    let is : i ≡ length s.bound.items = omega (arith, e) in
    subst (λ (c : ℕ). IsPrefix s c p) is w.prefix
written_from_is s p i (suc n) o w e =
    written_from_is s (written_step s p i) (i + 1) n o
    (written_step_is s p i o w (omega (arith, e))) (omega (arith, e))

pub none_placed : IsFront 0 []
none_placed j = sym (le-ltb j 0 (omega arith))

pub written_is : (s : Setting) → IsOwn s → IsPrefix s (length s.bound.items) (written s)
written_is s o =
    written_from_is s (empty_prefix s) 0 (length s.bound.items) o
    (record { prefix = empty_is s; front = none_placed }) (omega arith)
