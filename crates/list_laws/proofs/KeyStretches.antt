-- The stretches of keys that rise, joined, are a filter.
use Rattle.std.specs.List.{AllByRecursion, filter, flat_map}
use Rattle.std.specs.Ordering.{is_eq, is_le, ordering_reverse, on}
use Rattle.std.specs.declared.cmp.Ordering.{Ordering}
use Rattle.std.specs.declared.cmp.Ordering.TheVariants.{Less, Equal, Greater}
use Rattle.std.specs.Cmp.{IsTotalOrder}
use Rattle.std.proofs.Common.{◌≡◌, Bool, true, false, List, [], ◌∷◌, cond, ◌++◌, refl, ap, ◌||◌}
use Rattle.std.proofs.Common.{◌∙◌, sym}
use Rattle.std.proofs.lemmas.Cmp.{alike_right, tied_itself}
use Rattle.list_laws.specs.Order.{Ascends}
use Rattle.list_laws.proofs.Bools.{or_cases}
use Rattle.list_laws.proofs.Orders.{eq_at}
use Rattle.list_laws.proofs.Lists.{filter_none, all_map}
use Rattle.list_laws.specs.Order.{RisesStrictly}
use Rattle.list_laws.proofs.FirstComings.{ties_any}

-- once q passes, p does no more
abbrev pub Follows : {X : Type 0} → (X → Bool) → (X → Bool) → List X → Type 0
Follows p q [] = Unit {0}
Follows p q (x ∷ xs) =
    (q x ≡ true → (p x ≡ false) × AllByRecursion (λ y. p y ≡ false) xs) × Follows p q xs

join_case : {X : Type 0} (a b : Bool) (x : X) (ps qs os : List X)
    → (b ≡ true → (a ≡ false) × (ps ≡ [])) → os ≡ ps ++ qs
    → cond (a || b) (x ∷ os) os ≡ cond a (x ∷ ps) ps ++ cond b (x ∷ qs) qs
join_case true true x ps qs os h e = absurd (let no : true ≡ false = (h refl).0 in cc)
join_case true false x ps qs os h e = ap (λ zs. x ∷ zs) e
join_case false true x ps qs os h e = rw (e, (h refl).1) refl
join_case false false x ps qs os h e = e

-- the elements that pass p, then those that pass q
pub filter_or : {X : Type 0} (p q : X → Bool) (xs : List X) → Follows p q xs
    → filter (λ x. p x || q x) xs ≡ filter p xs ++ filter q xs
filter_or p q [] h = refl
filter_or p q (x ∷ xs) h =
    join_case (p x) (q x) x (filter p xs) (filter q xs) _
    (λ e. ((h.0 e).0, filter_none p xs (h.0 e).1)) (filter_or p q xs h.1)

not_eq : (o : Ordering) → (o ≡ Equal → ⊥) → is_eq o ≡ false
not_eq Less h = refl
not_eq Equal h = absurd (h refl)
not_eq Greater h = refl

-- a value that ties with one of the later keys is above the first
above_first : {K : Type 0} {R : K → K → Ordering} → IsTotalOrder R → (k : K) (ks : List K) (v : K)
    → AllByRecursion (λ j. R k j ≡ Less) ks → ties_any R ks v ≡ true → R k v ≡ Less
above_first o k [] v h e = absurd (cc)
above_first {K} {R} o k (j ∷ ks) v h e =
    or_cases (is_eq (R v j)) (ties_any R ks v) (λ t. alike_right o v j k (eq_at _ t) ∙ h.0)
    (λ t. above_first o k ks v h.1 t) e

-- and a later value of an ordered list doesn't tie with the first
later_differs : {K : Type 0} {R : K → K → Ordering} → IsTotalOrder R → (k v w : K) → R k v ≡ Less
    → is_le (R v w) ≡ true → is_eq (R w k) ≡ false
later_differs {K} {R} o k v w less le =
    not_eq (R w k)
    (λ tie. let up : R v w ≡ Greater = alike_right o w k v tie ∙ o.antisymm v k
    ∙ ap ordering_reverse less in let no : is_le (R v w) ≡ false = ap is_le up in cc)

itself_le : {K : Type 0} {R : K → K → Ordering} → IsTotalOrder R → (v : K) → is_le (R v v) ≡ true
itself_le o v = ap is_le (tied_itself o v)

follows : {X K : Type 0} {R : K → K → Ordering} → IsTotalOrder R → (f : X → K) (k : K) (ks : List K)
    → AllByRecursion (λ j. R k j ≡ Less) ks → (xs : List X) → Ascends (on f R) xs
    → Follows (λ x. is_eq (R (f x) k)) (λ x. ties_any R ks (f x)) xs
follows o f k ks h [] a = tt
follows {X} {K} {R} o f k ks h (x ∷ xs) a = (
  (λ e. let less : R k (f x) ≡ Less = above_first o k ks (f x) h e in (
    later_differs o k (f x) (f x) less (itself_le o (f x)),
    all_map _ _ xs (λ y le. later_differs o k (f x) (f y) less le) a.0,
  )),
  follows o f k ks h xs a.1,
)

filter_never : {X : Type 0} (xs : List X) → [] ≡ filter (λ x. false) xs
filter_never [] = refl
filter_never (x ∷ xs) = filter_never xs

-- the stretches of keys that rise, joined, are the elements that tie with one of them, in the
-- list's order
pub many_is : {X K : Type 0} {R : K → K → Ordering} → IsTotalOrder R → (f : X → K) (keys : List K)
    → RisesStrictly R keys → (xs : List X) → Ascends (on f R) xs
    → flat_map (λ k. filter (λ x. is_eq (R (f x) k)) xs) keys
    ≡ filter (λ x. ties_any R keys (f x)) xs
many_is o f [] h xs a = filter_never xs
many_is {X} {K} {R} o f (k ∷ ks) h xs a =
    ap (λ zs. filter (λ x. is_eq (R (f x) k)) xs ++ zs) (many_is o f ks h.1 xs a)
    ∙ sym
    (filter_or (λ x. is_eq (R (f x) k)) (λ x. ties_any R ks (f x)) xs (follows o f k ks h.0 xs a))
