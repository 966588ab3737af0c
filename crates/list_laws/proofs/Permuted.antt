-- What is joined, filtered or sorted has the same members in another order where its parts do.
use Rattle.std.specs.List.{flat_map, filter, AllByRecursion, swap}
use Rattle.std.specs.List.Sorted.{IsPermutation}
use Rattle.std.specs.Ordering.{is_le}
use Rattle.std.specs.declared.cmp.Ordering.{Ordering}
use Rattle.std.proofs.Common.{◌≡◌, ℕ, zero, suc, List, [], ◌∷◌, ◌++◌, refl, ap, sym, ◌∙◌, Bool}
use Rattle.std.proofs.Common.{true, false, cond, subst, append_assoc, set, get_or, ◌<◌, length}
use Rattle.std.proofs.Common.{arith}
use Rattle.std.proofs.lemmas.List.Sorted.{IsPermutation-refl}
use Rattle.std.proofs.lemmas.List.Sorted.{IsPermutation-trans, IsPermutation-cons}
use Rattle.std.proofs.lemmas.List.Sorted.{IsPermutation-append, IsPermutation-append_left}
use Rattle.std.proofs.lemmas.List.Sorted.{IsPermutation-append_right, IsPermutation-append_comm}
use Rattle.std.proofs.lemmas.List.Sorted.{IsPermutation-middle, IsPermutation-keeps}
use Rattle.list_laws.specs.Order.{insert_by, sort_by}

-- two lists before a third change places
pub front_exchange : {X : Type 0} (xs ys zs : List X)
    → IsPermutation (xs ++ (ys ++ zs)) (ys ++ (xs ++ zs))
front_exchange xs ys zs =
    subst (λ l. IsPermutation l (ys ++ (xs ++ zs))) (append_assoc xs ys zs)
    (subst (IsPermutation ((xs ++ ys) ++ zs)) (append_assoc ys xs zs)
    (IsPermutation-append_left zs (xs ++ ys) (ys ++ xs) (IsPermutation-append_comm xs ys)))

-- what is joined where one member stands in place of another
replaced : {X Y : Type 0} (g : X → List Y) (l : List X) (j : ℕ) (b d : X) → j < length l
    → IsPermutation (g b ++ flat_map g l) (g (get_or l j d) ++ flat_map g (set l j b))
replaced g [] j b d lt = absurd (omega arith)
replaced g (x ∷ xs) zero b d lt = front_exchange (g b) (g x) (flat_map g xs)
replaced g (x ∷ xs) (suc j) b d lt =
    IsPermutation-trans _ _ _ (front_exchange (g b) (g x) (flat_map g xs))
    (IsPermutation-trans _ _ _
    (IsPermutation-append_right (g x) _ _ (replaced g xs j b d (omega arith)))
    (front_exchange (g x) (g (get_or xs j d)) (flat_map g (set xs j b))))

exchanged : {X Y : Type 0} (g : X → List Y) (l : List X) (i j : ℕ) (d : X) → i < length l
    → j < length l
    → IsPermutation (flat_map g l) (flat_map g (set (set l i (get_or l j d)) j (get_or l i d)))
exchanged g [] i j d p q = absurd (omega arith)
exchanged g (x ∷ xs) zero zero d p q = IsPermutation-refl (flat_map g (x ∷ xs))
exchanged g (x ∷ xs) zero (suc j) d p q = replaced g xs j x d (omega arith)
exchanged g (x ∷ xs) (suc i) zero d p q = replaced g xs i x d (omega arith)
exchanged g (x ∷ xs) (suc i) (suc j) d p q =
    IsPermutation-append_right (g x) _ _ (exchanged g xs i j d (omega arith) (omega arith))

swapped : {X Y : Type 0} (g : X → List Y) (l : List X) (i j : ℕ) → i < length l → j < length l
    → IsPermutation (flat_map g l) (flat_map g (swap l i j))
swapped g [] i j p q = absurd (omega arith)
swapped g (x ∷ xs) i j p q = exchanged g (x ∷ xs) i j x p q

pub IsPermutation-flat_map : {X Y : Type 0} (g : X → List Y) (xs ys : List X) → IsPermutation xs ys
    → IsPermutation (flat_map g xs) (flat_map g ys)
IsPermutation-flat_map g xs ys h =
    IsPermutation-keeps xs (λ l. IsPermutation (flat_map g xs) (flat_map g l))
    (IsPermutation-refl (flat_map g xs))
    (λ l i j p q k. IsPermutation-trans _ _ _ k (swapped g l i j p q)) ys h

pub flat_map_permutes : {X Y : Type 0} (g h : X → List Y) (xs : List X)
    → AllByRecursion (λ x. IsPermutation (g x) (h x)) xs
    → IsPermutation (flat_map g xs) (flat_map h xs)
flat_map_permutes g h [] f = IsPermutation-refl []
flat_map_permutes g h (x ∷ xs) f =
    IsPermutation-append (g x) (h x) _ _ f.0 (flat_map_permutes g h xs f.1)

-- what passes a test, and what is joined of that
pub flat_map-filter : {X Y : Type 0} (g : X → List Y) (p : X → Bool) (xs : List X)
    → flat_map g (filter p xs) ≡ flat_map (λ x. cond (p x) (g x) []) xs
flat_map-filter g p [] = refl
flat_map-filter g p (x ∷ xs) =
    passed (p x) ∙ ap (λ zs. cond (p x) (g x) [] ++ zs) (flat_map-filter g p xs)
  where
    passed : (b : Bool)
        → flat_map g (cond b (x ∷ filter p xs) (filter p xs))
        ≡ cond b (g x) [] ++ flat_map g (filter p xs)
    passed true = refl
    passed false = refl

filter_joins : {X : Type 0} (p : X → Bool) (xs : List X)
    → flat_map (λ x. cond (p x) (x ∷ []) []) xs ≡ filter p xs
filter_joins p [] = refl
filter_joins p (x ∷ xs) =
    ap (λ zs. cond (p x) (x ∷ []) [] ++ zs) (filter_joins p xs) ∙ passed (p x)
  where
    passed : (b : Bool)
        → cond b (x ∷ []) [] ++ filter p xs ≡ cond b (x ∷ filter p xs) (filter p xs)
    passed true = refl
    passed false = refl

pub IsPermutation-filter : {X : Type 0} (p : X → Bool) (xs ys : List X) → IsPermutation xs ys
    → IsPermutation (filter p xs) (filter p ys)
IsPermutation-filter p xs ys h =
    subst (λ l. IsPermutation l (filter p ys)) (filter_joins p xs)
    (subst (IsPermutation (flat_map (λ x. cond (p x) (x ∷ []) []) xs)) (filter_joins p ys)
    (IsPermutation-flat_map (λ x. cond (p x) (x ∷ []) []) xs ys h))

-- two joins over one list are one join of both
joined_both : {X Y : Type 0} (g h : X → List Y) (xs : List X)
    → IsPermutation (flat_map g xs ++ flat_map h xs) (flat_map (λ x. g x ++ h x) xs)
joined_both g h [] = IsPermutation-refl []
joined_both g h (x ∷ xs) =
    subst (λ l. IsPermutation l ((g x ++ h x) ++ flat_map (λ x. g x ++ h x) xs))
    (sym (append_assoc (g x) (flat_map g xs) (h x ++ flat_map h xs)))
    (subst (IsPermutation (g x ++ (flat_map g xs ++ (h x ++ flat_map h xs))))
    (sym (append_assoc (g x) (h x) (flat_map (λ x. g x ++ h x) xs)))
    (IsPermutation-append_right (g x) _ _
    (IsPermutation-trans _ _ _ (front_exchange (flat_map g xs) (h x) (flat_map h xs))
    (IsPermutation-append_right (h x) _ _ (joined_both g h xs)))))

none_joined : {X Y : Type 0} (g : X → List Y) (xs : List X) → ((x : X) → g x ≡ [])
    → flat_map g xs ≡ []
none_joined g [] e = refl
none_joined g (x ∷ xs) e = rw (e x) (none_joined g xs e)

-- two nested joins change places
pub joins_exchange : {X Y Z : Type 0} (f : X → Y → List Z) (xs : List X) (ys : List Y)
    → IsPermutation (flat_map (λ x. flat_map (f x) ys) xs)
    (flat_map (λ y. flat_map (λ x. f x y) xs) ys)
joins_exchange f [] ys =
    subst (IsPermutation []) (sym (none_joined _ ys (λ y. refl))) (IsPermutation-refl [])
joins_exchange f (x ∷ xs) ys =
    IsPermutation-trans _ _ _
    (IsPermutation-append_right (flat_map (f x) ys) _ _ (joins_exchange f xs ys))
    (joined_both (f x) (λ y. flat_map (λ x. f x y) xs) ys)

-- a sort only moves members
inserted : {X : Type 0} (cmp : X → X → Ordering) (x : X) (ys : List X)
    → IsPermutation (insert_by cmp x ys) (x ∷ ys)
inserted cmp x [] = IsPermutation-refl (x ∷ [])
inserted cmp x (y ∷ ys) = here (inserted cmp x ys) (is_le (cmp x y))
  where
    here : IsPermutation (insert_by cmp x ys) (x ∷ ys) → (b : Bool)
        → IsPermutation (cond b (x ∷ y ∷ ys) (y ∷ insert_by cmp x ys)) (x ∷ y ∷ ys)
    here ih true = IsPermutation-refl (x ∷ y ∷ ys)
    here ih false =
        IsPermutation-trans _ _ _ (IsPermutation-cons y _ _ ih)
        (IsPermutation-middle (y ∷ []) x ys)

pub IsPermutation-sort_by : {X : Type 0} (cmp : X → X → Ordering) (xs : List X)
    → IsPermutation (sort_by cmp xs) xs
IsPermutation-sort_by cmp [] = IsPermutation-refl []
IsPermutation-sort_by cmp (x ∷ xs) =
    IsPermutation-trans _ _ _ (inserted cmp x (sort_by cmp xs))
    (IsPermutation-cons x _ _ (IsPermutation-sort_by cmp xs))
