-- Sorts by what members are seen as, by orders that are the same, and what holds of all members.
use Rattle.std.specs.List.{AllByRecursion}
use Rattle.std.specs.Ordering.{is_le}
use Rattle.std.specs.declared.cmp.Ordering.{Ordering}
use Rattle.std.proofs.Common.{◌≡◌, Bool, true, false, cond, List, [], ◌∷◌, refl, ap, ◌∙◌, map}
use Rattle.list_laws.specs.Order.{insert_by, sort_by}
use Rattle.list_laws.proofs.Orders.{all_insert}

insert_case : {A B : Type 0} (f : A → B) (x y : A) (ys zs : List A) (b : Bool) → (ws : List B)
    → ws ≡ map f zs
    → cond b (f x ∷ f y ∷ map f ys) (f y ∷ ws) ≡ map f (cond b (x ∷ y ∷ ys) (y ∷ zs))
insert_case f x y ys zs true ws e = refl
insert_case f x y ys zs false ws e = ap (λ l. f y ∷ l) e

insert_by-map : {A B : Type 0} (cmp : B → B → Ordering) (f : A → B) (x : A) (xs : List A)
    → insert_by cmp (f x) (map f xs) ≡ map f (insert_by (λ a b. cmp (f a) (f b)) x xs)
insert_by-map cmp f x [] = refl
insert_by-map cmp f x (y ∷ ys) =
    insert_case f x y ys (insert_by (λ a b. cmp (f a) (f b)) x ys) (is_le (cmp (f x) (f y))) _
    (insert_by-map cmp f x ys)

pub sort_by-map : {A B : Type 0} (cmp : B → B → Ordering) (f : A → B) (xs : List A)
    → sort_by cmp (map f xs) ≡ map f (sort_by (λ a b. cmp (f a) (f b)) xs)
sort_by-map cmp f [] = refl
sort_by-map cmp f (x ∷ xs) =
    ap (insert_by cmp (f x)) (sort_by-map cmp f xs)
    ∙ insert_by-map cmp f x (sort_by (λ a b. cmp (f a) (f b)) xs)

insert_same : {X : Type 0} (c d : X → X → Ordering) → ((x y : X) → c x y ≡ d x y) → (x : X)
    (xs : List X) → insert_by c x xs ≡ insert_by d x xs
insert_same c d h x [] = refl
insert_same c d h x (y ∷ ys) = rw (h x y, insert_same c d h x ys) refl

pub sort_same : {X : Type 0} (c d : X → X → Ordering) → ((x y : X) → c x y ≡ d x y)
    → (xs : List X) → sort_by c xs ≡ sort_by d xs
sort_same c d h [] = refl
sort_same c d h (x ∷ xs) =
    ap (insert_by c x) (sort_same c d h xs) ∙ insert_same c d h x (sort_by d xs)

pub all_sort : {X : Type 0} (P : X → Type 0) (cmp : X → X → Ordering) (xs : List X)
    → AllByRecursion P xs → AllByRecursion P (sort_by cmp xs)
all_sort P cmp [] h = tt
all_sort P cmp (x ∷ xs) h = all_insert P cmp x (sort_by cmp xs) h.0 (all_sort P cmp xs h.1)
