-- Lists in order: sorting, filtering, stretches of one key.
use Rattle.std.specs.Ordering.{is_le, is_gt, ordering_reverse, ordering_then, is_lt, then_cmp, on}
use Rattle.std.specs.Ordering.{is_eq}
use Rattle.std.specs.declared.cmp.Ordering.{Ordering}
use Rattle.std.specs.List.{AllByRecursion, filter}
use Rattle.std.specs.declared.cmp.Ordering.TheVariants.{Less, Equal, Greater}
use Rattle.std.specs.Cmp.{IsTotalOrder}
use Rattle.std.proofs.Common.{◌≡◌, Bool, true, List, [], ◌∷◌, false, cond, refl, ap}
use Rattle.std.proofs.Common.{◌∙◌, sym, subst, not, ◌&&◌}
use Rattle.std.proofs.lemmas.Cmp.{upto, tied_back}
use Rattle.std.proofs.lemmas.List.Elements.{filter_agree}
use Rattle.list_laws.specs.Order.{Ascends, insert_by, sort_by}
use Rattle.list_laws.specs.Stretch.{Rises, stretch}
use Rattle.list_laws.specs.Tally.{SameTally}
use Rattle.list_laws.proofs.Bools.{not_true}
use Rattle.list_laws.proofs.Lists.{all_map, all_filter, all_both, filter_all}
use Rattle.list_laws.proofs.Permutations.{SameTally-from_permutation}
use Rattle.list_laws.proofs.Permuted.{IsPermutation-sort_by}
use Rattle.list_laws.proofs.Stretches.{stretch_is}

-- a test that keeps true upwards rises along an ordered list
pub Rises-from_order : {X : Type 0} (cmp : X → X → Ordering) (p : X → Bool)
    → ((x y : X) → is_le (cmp x y) ≡ true → p x ≡ true → p y ≡ true) → (xs : List X)
    → Ascends cmp xs → Rises p xs
Rises-from_order cmp p up [] h = tt
Rises-from_order cmp p up (x ∷ xs) h =
    (λ e. all_map _ _ xs (λ y l. up x y l e) h.0, Rises-from_order cmp p up xs h.1)

-- a sort has the same tallies
pub SameTally-sort_by : {X : Type 0} (cmp : X → X → Ordering) (xs : List X)
    → SameTally (sort_by cmp xs) xs
SameTally-sort_by cmp xs = SameTally-from_permutation _ xs (IsPermutation-sort_by cmp xs)

pub all_insert : {X : Type 0} (P : X → Type 0) (cmp : X → X → Ordering) (x : X) (xs : List X) → P x
    → AllByRecursion P xs → AllByRecursion P (insert_by cmp x xs)
all_insert P cmp x [] p h = (p, tt)
all_insert P cmp x (y ∷ ys) p h =
    elim (is_le (cmp x y)) as (λ b. AllByRecursion P (cond b (x ∷ y ∷ ys) (y ∷ insert_by cmp x ys)))
    [ true ↦ (p, h) | false ↦ (h.0, all_insert P cmp x ys p h.1) ]

le_from_gt : (o : Ordering) → is_gt o ≡ false → is_le o ≡ true
le_from_gt Less h = refl
le_from_gt Equal h = refl
le_from_gt Greater h = sym h

gt_from_le : (o : Ordering) → is_le o ≡ true → is_gt o ≡ false
gt_from_le Less h = refl
gt_from_le Equal h = refl
gt_from_le Greater h = sym h

le_from_reverse : (o : Ordering) → is_le (ordering_reverse o) ≡ false → is_le o ≡ true
le_from_reverse Less h = refl
le_from_reverse Equal h = refl
le_from_reverse Greater h = sym h

-- the order goes along, and of two elements one is at most the other
pub le_trans : {X : Type 0} {cmp : X → X → Ordering} → IsTotalOrder cmp → (x y z : X)
    → is_le (cmp x y) ≡ true → is_le (cmp y z) ≡ true → is_le (cmp x z) ≡ true
le_trans o x y z h k = le_from_gt _ (upto o x y z (gt_from_le _ h) (gt_from_le _ k))

le_total : {X : Type 0} {cmp : X → X → Ordering} → IsTotalOrder cmp → (x y : X)
    → is_le (cmp x y) ≡ false → is_le (cmp y x) ≡ true
le_total {X} {cmp} o x y h = le_from_reverse (cmp y x) (rw (← o.antisymm x y) h)

insert_cases : {X : Type 0} {cmp : X → X → Ordering} → IsTotalOrder cmp → (x y : X) (ys : List X)
    → Ascends cmp (y ∷ ys) → Ascends cmp (insert_by cmp x ys) → (b : Bool) → is_le (cmp x y) ≡ b
    → Ascends cmp (cond b (x ∷ y ∷ ys) (y ∷ insert_by cmp x ys))
insert_cases {X} {cmp} o x y ys h ih true e =
    ((e, all_map _ _ ys (λ z k. le_trans o x y z e k) h.0), h)
insert_cases {X} {cmp} o x y ys h ih false e =
    (all_insert (λ z. is_le (cmp y z) ≡ true) cmp x ys (le_total o x y e) h.0, ih)

Ascends-insert : {X : Type 0} {cmp : X → X → Ordering} → IsTotalOrder cmp → (x : X) (xs : List X)
    → Ascends cmp xs → Ascends cmp (insert_by cmp x xs)
Ascends-insert o x [] h = (tt, tt)
Ascends-insert {X} {cmp} o x (y ∷ ys) h =
    insert_cases o x y ys h (Ascends-insert o x ys h.1) (is_le (cmp x y)) refl

-- a sorted list is in order
pub Ascends-sort_by : {X : Type 0} {cmp : X → X → Ordering} → IsTotalOrder cmp → (xs : List X)
    → Ascends cmp (sort_by cmp xs)
Ascends-sort_by o [] = tt
Ascends-sort_by o (x ∷ xs) = Ascends-insert o x _ (Ascends-sort_by o xs)

ascends_cond : {X : Type 0} (cmp : X → X → Ordering) (b : Bool) (x : X) (xs : List X)
    → AllByRecursion (λ y. is_le (cmp x y) ≡ true) xs → Ascends cmp xs
    → Ascends cmp (cond b (x ∷ xs) xs)
ascends_cond cmp true x xs p h = (p, h)
ascends_cond cmp false x xs p h = h

-- a filter keeps the order
pub Ascends-filter : {X : Type 0} (cmp : X → X → Ordering) (p : X → Bool) (xs : List X)
    → Ascends cmp xs → Ascends cmp (filter p xs)
Ascends-filter cmp p [] h = tt
Ascends-filter cmp p (x ∷ xs) h =
    ascends_cond cmp (p x) x (filter p xs) (all_filter _ p xs h.0) (Ascends-filter cmp p xs h.1)

first_le : (a b : Ordering) → is_le (ordering_then a b) ≡ true → is_le a ≡ true
first_le Less b h = refl
first_le Equal b h = refl
first_le Greater b h = h

second_le : (a b : Ordering) → a ≡ Equal → is_le (ordering_then a b) ≡ true → is_le b ≡ true
second_le a b e h = subst (λ (v : Ordering). is_le (ordering_then v b) ≡ true) e h

-- two that tie with one tie with each other
pub ties : {K : Type 0} {R : K → K → Ordering} → IsTotalOrder R → (x y k : K) → R x k ≡ Equal
    → R y k ≡ Equal → R x y ≡ Equal
ties {K} {R} o x y k h j = o.congr x k y h ∙ tied_back o y k j

lt_from_gt : (o : Ordering) → not (is_lt (ordering_reverse o)) ≡ not (is_gt o)
lt_from_gt Less = refl
lt_from_gt Equal = refl
lt_from_gt Greater = refl

pub not_below_up : {K : Type 0} {R : K → K → Ordering} → IsTotalOrder R → (x y k : K)
    → is_le (R x y) ≡ true → not (is_lt (R x k)) ≡ true → not (is_lt (R y k)) ≡ true
not_below_up {K} {R} o x y k le p =
    let low : is_gt (R k x) ≡ false =
    not_true _ (sym (lt_from_gt (R k x)) ∙ ap (λ v. not (is_lt v)) (sym (o.antisymm x k)) ∙ p) in
    ap (λ v. not (is_lt v)) (o.antisymm y k) ∙ lt_from_gt (R k y)
    ∙ ap not (upto o k x y low (gt_from_le _ le))

is_gt_cases : (b : Bool) → (b ≡ false → ⊥) → b ≡ true
is_gt_cases true h = refl
is_gt_cases false h = absurd (h refl)

pub above_up : {K : Type 0} {R : K → K → Ordering} → IsTotalOrder R → (x y k : K)
    → is_le (R x y) ≡ true → is_gt (R x k) ≡ true → is_gt (R y k) ≡ true
above_up {K} {R} o x y k le p =
    is_gt_cases _ (λ e. let low : is_gt (R x k) ≡ false = upto o x y k (gt_from_le _ le) e in cc)

-- by the first of two orders
pub Ascends-first : {X : Type 0} (A B : X → X → Ordering) (xs : List X) → Ascends (then_cmp A B) xs
    → Ascends A xs
Ascends-first A B [] h = tt
Ascends-first A B (x ∷ xs) h =
    (all_map _ _ xs (λ y e. first_le (A x y) (B x y) e) h.0, Ascends-first A B xs h.1)

-- among elements at one place of the first order, by the second
pub Ascends-second : {X K : Type 0} {R : K → K → Ordering} → IsTotalOrder R
    → (f : X → K) (k : K) (B : X → X → Ordering) (xs : List X)
    → AllByRecursion (λ x. R (f x) k ≡ Equal) xs → Ascends (then_cmp (on f R) B) xs → Ascends B xs
Ascends-second o f k B [] e h = tt
Ascends-second {X} {K} {R} o f k B (x ∷ xs) e h = (
  all_both _ _ _ xs
      (λ y at le. second_le (R (f x) (f y)) (B x y) (ties o (f x) (f y) k e.0 at) le) e.1 h.0,
  Ascends-second o f k B xs e.1 h.1,
)

-- what is not below k stays so, and what is above k too
pub Rises-not_below : {X K : Type 0} {R : K → K → Ordering} → IsTotalOrder R
    → (f : X → K) (k : K) (xs : List X) → Ascends (on f R) xs
    → Rises (λ x. not (is_lt (R (f x) k))) xs
Rises-not_below {X} {K} {R} o f k xs h =
    Rises-from_order (on f R) (λ x. not (is_lt (R (f x) k)))
    (λ x y le p. not_below_up o (f x) (f y) k le p) xs h

pub Rises-above : {X K : Type 0} {R : K → K → Ordering} → IsTotalOrder R
    → (f : X → K) (k : K) (xs : List X) → Ascends (on f R) xs → Rises (λ x. is_gt (R (f x) k)) xs
Rises-above {X} {K} {R} o f k xs h =
    Rises-from_order (on f R) (λ x. is_gt (R (f x) k))
    (λ x y le p. above_up o (f x) (f y) k le p) xs h

-- an element whose side is neither below nor above is at k
at_from_sides : (o : Ordering) → (not (is_lt o) && not (is_gt o)) ≡ is_eq o
at_from_sides Less = refl
at_from_sides Equal = refl
at_from_sides Greater = refl

-- the stretch of a key of a list in order are the elements that tie with the key
pub stretch_at : {X K : Type 0} {R : K → K → Ordering} → IsTotalOrder R
    → (f : X → K) (k : K) (xs : List X) → Ascends (on f R) xs
    → stretch (λ x. is_lt (R (f x) k)) (λ x. is_gt (R (f x) k)) xs
    ≡ filter (λ x. is_eq (R (f x) k)) xs
stretch_at {X} {K} {R} o f k xs h =
    stretch_is (λ x. is_lt (R (f x) k)) (λ x. is_gt (R (f x) k)) xs (Rises-not_below o f k xs h)
    (Rises-above o f k xs h)
    ∙ filter_agree _ _ (λ x. at_from_sides (R (f x) k)) xs

pub eq_at : (o : Ordering) → is_eq o ≡ true → o ≡ Equal
eq_at Less h = absurd (cc)
eq_at Equal h = refl
eq_at Greater h = absurd (cc)

-- a stretch is in order by what comes next
pub Ascends-at : {X K : Type 0} {R : K → K → Ordering} → IsTotalOrder R
    → (f : X → K) (k : K) (B : X → X → Ordering) (xs : List X) → Ascends (then_cmp (on f R) B) xs
    → Ascends B (filter (λ x. is_eq (R (f x) k)) xs)
Ascends-at {X} {K} {R} o f k B xs h =
    Ascends-second o f k B _ (filter_all _ _ xs (λ x e. eq_at _ e))
    (Ascends-filter (then_cmp (on f R) B) (λ x. is_eq (R (f x) k)) xs h)
