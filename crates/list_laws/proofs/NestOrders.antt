-- Lists in order, joined in order, are in order.
use Rattle.std.specs.List.{AllByRecursion, flat_map}
use Rattle.std.specs.Ordering.{is_le, ordering_then, then_cmp}
use Rattle.std.specs.declared.cmp.Ordering.{Ordering}
use Rattle.std.specs.declared.cmp.Ordering.TheVariants.{Less, Equal}
use Rattle.std.proofs.Common.{◌≡◌, true, List, [], ◌∷◌, ◌++◌, refl, Bool, false, cond, ap, ◌∙◌}
use Rattle.list_laws.specs.Order.{Ascends}
use Rattle.list_laws.specs.Order.{RisesStrictly}
use Rattle.list_laws.specs.Nest.{Env}
use Rattle.list_laws.proofs.Lists.{all_append, all_always, all_map}

-- each of the first is at most each of the second
abbrev pub Crosses : {Y : Type 0} → (Y → Y → Ordering) → List Y → List Y → Type 0
Crosses cmp xs ys = AllByRecursion (λ x. AllByRecursion (λ y. is_le (cmp x y) ≡ true) ys) xs

ascends_append : {Y : Type 0} (cmp : Y → Y → Ordering) (xs ys : List Y) → Ascends cmp xs
    → Ascends cmp ys → Crosses cmp xs ys → Ascends cmp (xs ++ ys)
ascends_append cmp [] ys h k c = k
ascends_append cmp (x ∷ xs) ys h k c =
    (all_append _ xs ys h.0 c.0, ascends_append cmp xs ys h.1 k c.1)

-- for each pair of elements, the first before the second, all of the one's list are at most all of
-- the other's
abbrev pub PairsCross : {X Y : Type 0} → (Y → Y → Ordering) → (X → List Y) → List X → Type 0
PairsCross cmp g [] = Unit {0}
PairsCross cmp g (x ∷ xs) = AllByRecursion (λ y. Crosses cmp (g x) (g y)) xs × PairsCross cmp g xs

cross_all : {X Y : Type 0} (cmp : Y → Y → Ordering) (g : X → List Y) (xs : List X) (us : List Y)
    → AllByRecursion (λ y. Crosses cmp us (g y)) xs → Crosses cmp us (flat_map g xs)
cross_all cmp g [] us h = all_always _ us (λ a. tt)
cross_all cmp g (x ∷ xs) us h = all_two cmp us (g x) (flat_map g xs) h.0 (cross_all cmp g xs us h.1)
  where
    all_two : {Y : Type 0} (cmp : Y → Y → Ordering) (us bs cs : List Y) → Crosses cmp us bs
        → Crosses cmp us cs → Crosses cmp us (bs ++ cs)
    all_two cmp [] bs cs p q = tt
    all_two cmp (a ∷ us) bs cs p q = (all_append _ bs cs p.0 q.0, all_two cmp us bs cs p.1 q.1)

-- lists in order, joined in order, are in order
pub Ascends-flat_map : {X Y : Type 0} (cmp : Y → Y → Ordering) (g : X → List Y) (xs : List X)
    → AllByRecursion (λ x. Ascends cmp (g x)) xs → PairsCross cmp g xs → Ascends cmp (flat_map g xs)
Ascends-flat_map cmp g [] h p = tt
Ascends-flat_map cmp g (x ∷ xs) h p =
    ascends_append cmp (g x) (flat_map g xs) h.0 (Ascends-flat_map cmp g xs h.1 p.1)
    (cross_all cmp g xs (g x) p.0)

pub pairs_from : {X Y : Type 0} (cmp : Y → Y → Ordering) (g : X → List Y) (r : X → X → Ordering)
    (xs : List X)
    → Ascends r xs → ((x y : X) → is_le (r x y) ≡ true → Crosses cmp (g x) (g y))
    → PairsCross cmp g xs
pairs_from cmp g r [] h f = tt
pairs_from cmp g r (x ∷ xs) h f =
    (all_map _ _ xs (λ y le. f x y le) h.0, pairs_from cmp g r xs h.1 f)

pub pairs_strictly : {X Y : Type 0} (cmp : Y → Y → Ordering) (g : X → List Y) (r : X → X → Ordering)
    (xs : List X)
    → RisesStrictly r xs → ((x y : X) → r x y ≡ Less → Crosses cmp (g x) (g y))
    → PairsCross cmp g xs
pairs_strictly cmp g r [] h f = tt
pairs_strictly cmp g r (x ∷ xs) h f =
    (all_map _ _ xs (λ y le. f x y le) h.0, pairs_strictly cmp g r xs h.1 f)

pub less_then : (o p : Ordering) → o ≡ Less → is_le (ordering_then o p) ≡ true
less_then o p e = rw e refl

pub ascends_cond : {Y : Type 0} (cmp : Y → Y → Ordering) (b : Bool) (xs : List Y) → Ascends cmp xs
    → Ascends cmp (cond b xs [])
ascends_cond cmp true xs h = h
ascends_cond cmp false xs h = tt

equal_then : (o p : Ordering) → o ≡ Equal → is_le p ≡ true → is_le (ordering_then o p) ≡ true
equal_then o p e h = rw e h

-- all of a block tie by what looks at its row alone
pub tied_block : {X : Type 0} (P Q : Env X → Env X → Ordering) (xs : List (Env X))
    (Here : Env X → Type 0)
    → ((a b : Env X) → Here a → Here b → P a b ≡ Equal) → AllByRecursion Here xs → Ascends Q xs
    → Ascends (then_cmp P Q) xs
tied_block P Q [] Here f h k = tt
tied_block P Q (a ∷ xs) Here f h k =
    (all_pairs P Q a xs Here f h.0 h.1 k.0, tied_block P Q xs Here f h.1 k.1)
  where
    all_pairs : {X : Type 0} (P Q : Env X → Env X → Ordering) (a : Env X) (xs : List (Env X))
        (Here : Env X → Type 0)
        → ((a b : Env X) → Here a → Here b → P a b ≡ Equal) → Here a → AllByRecursion Here xs
        → AllByRecursion (λ b. is_le (Q a b) ≡ true) xs
        → AllByRecursion (λ b. is_le (ordering_then (P a b) (Q a b)) ≡ true) xs
    all_pairs P Q a [] Here f p h k = tt
    all_pairs P Q a (b ∷ xs) Here f p h k =
        (equal_then (P a b) (Q a b) (f a b p h.0) k.0, all_pairs P Q a xs Here f p h.1 k.1)

pub tied_all : {X : Type 0} (P : Env X → Env X → Ordering) (xs : List (Env X))
    (Here : Env X → Type 0)
    → ((a b : Env X) → Here a → Here b → P a b ≡ Equal) → AllByRecursion Here xs → Ascends P xs
tied_all P [] Here f h = tt
tied_all P (a ∷ xs) Here f h =
    (all_map _ _ xs (λ b q. ap is_le (f a b h.0 q)) h.1, tied_all P xs Here f h.1)

all_le : {Y : Type 0} (c d : Y → Y → Ordering) (a : Y) (ys : List Y) → ((x y : Y) → d x y ≡ c x y)
    → AllByRecursion (λ b. is_le (c a b) ≡ true) ys → AllByRecursion (λ b. is_le (d a b) ≡ true) ys
all_le c d a ys f h = all_map _ _ ys (λ b e. ap is_le (f a b) ∙ e) h

pub ascends_same : {Y : Type 0} (c d : Y → Y → Ordering) (ys : List Y) → ((x y : Y) → d x y ≡ c x y)
    → Ascends c ys → Ascends d ys
ascends_same c d [] f h = tt
ascends_same c d (y ∷ ys) f h = (all_le c d y ys f h.0, ascends_same c d ys f h.1)
