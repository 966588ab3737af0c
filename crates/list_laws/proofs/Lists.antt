-- Members of a list, all of which have a property.
use Rattle.std.specs.List.{AllByRecursion, flat_map, filter}
use Rattle.std.proofs.Common.{slice_get, Some, zero, suc, List, [], ◌∷◌, ◌++◌, ◌≡◌, ◌≢◌, ℕ, refl}
use Rattle.std.proofs.Common.{ap, set, Bool, true, false, cond, ◌&&◌, ◌∙◌, map, take, drop}
use Rattle.std.proofs.Common.{get_or, length, ◌<◌, arith}
use Rattle.std.proofs.lemmas.List.Elements.{filter-append}
use Rattle.list_laws.specs.Nest.{Env, Agree}

pub all_map : {X : Type 0} (P Q : X → Type 0) (xs : List X) → ((x : X) → P x → Q x)
    → AllByRecursion P xs → AllByRecursion Q xs
all_map P Q [] f h = tt
all_map P Q (x ∷ xs) f h = (f x h.0, all_map P Q xs f h.1)

pub all_always : {X : Type 0} (P : X → Type 0) (xs : List X) → ((x : X) → P x) → AllByRecursion P xs
all_always P [] f = tt
all_always P (x ∷ xs) f = (f x, all_always P xs f)

pub all_append : {X : Type 0} (P : X → Type 0) (xs ys : List X) → AllByRecursion P xs
    → AllByRecursion P ys → AllByRecursion P (xs ++ ys)
all_append P [] ys h k = k
all_append P (x ∷ xs) ys h k = (h.0, all_append P xs ys h.1 k)

pub all_push : {X : Type 0} (P : X → Type 0) (xs : List X) (y : X) → AllByRecursion P xs → P y
    → AllByRecursion P (xs ++ y ∷ [])
all_push P xs y h p = all_append P xs (y ∷ []) h (p, tt)

-- of joined lists, the first
pub all_first : {X : Type 0} (P : X → Type 0) (xs ys : List X) → AllByRecursion P (xs ++ ys)
    → AllByRecursion P xs
all_first P [] ys h = tt
all_first P (x ∷ xs) ys h = (h.0, all_first P xs ys h.1)

pub all_mapped : {X Y : Type 0} (P : Y → Type 0) (f : X → Y) (xs : List X)
    → AllByRecursion (λ x. P (f x)) xs → AllByRecursion P (map f xs)
all_mapped P f [] h = tt
all_mapped P f (x ∷ xs) h = (h.0, all_mapped P f xs h.1)

pub all_take : {X : Type 0} (P : X → Type 0) (n : ℕ) (xs : List X) → AllByRecursion P xs
    → AllByRecursion P (take n xs)
all_take P zero xs h = tt
all_take P (suc n) [] h = tt
all_take P (suc n) (x ∷ xs) h = (h.0, all_take P n xs h.1)

pub all_drop : {X : Type 0} (P : X → Type 0) (n : ℕ) (xs : List X) → AllByRecursion P xs
    → AllByRecursion P (drop n xs)
all_drop P zero xs h = h
all_drop P (suc n) [] h = tt
all_drop P (suc n) (x ∷ xs) h = all_drop P n xs h.1

pub all_get : {X : Type 0} (P : X → Type 0) (xs : List X) (i : ℕ) (d : X) → AllByRecursion P xs
    → i < length xs → P (get_or xs i d)
all_get P [] i d h lt = absurd (omega (arith, lt))
all_get P (x ∷ xs) zero d h lt = h.0
all_get P (x ∷ xs) (suc i) d h lt = all_get P xs i d h.1 (omega (arith, lt))

pub all_flat_map : {X Y : Type 0} (P : Y → Type 0) (g : X → List Y) (xs : List X)
    → AllByRecursion (λ x. AllByRecursion P (g x)) xs → AllByRecursion P (flat_map g xs)
all_flat_map P g [] h = tt
all_flat_map P g (x ∷ xs) h = all_append P (g x) (flat_map g xs) h.0 (all_flat_map P g xs h.1)

pub all_both : {X : Type 0} (P Q R : X → Type 0) (xs : List X) → ((x : X) → P x → Q x → R x)
    → AllByRecursion P xs → AllByRecursion Q xs → AllByRecursion R xs
all_both P Q R [] f h k = tt
all_both P Q R (x ∷ xs) f h k = (f x h.0 k.0, all_both P Q R xs f h.1 k.1)

pub set_exchange : {A : Type 0} (l : List A) (i j : ℕ) (a b : A) → i ≢ j
    → set (set l i a) j b ≡ set (set l j b) i a
set_exchange [] i j a b n = refl
set_exchange (x ∷ l) zero zero a b n = absurd (n refl)
set_exchange (x ∷ l) zero (suc j) a b n = refl
set_exchange (x ∷ l) (suc i) zero a b n = refl
set_exchange (x ∷ l) (suc i) (suc j) a b n =
    ap (λ t. x ∷ t) (set_exchange l i j a b (λ e. n (ap suc e)))

all_cond : {X : Type 0} (P : X → Type 0) (b : Bool) (x : X) (xs : List X) → P x
    → AllByRecursion P xs → AllByRecursion P (cond b (x ∷ xs) xs)
all_cond P true x xs p h = (p, h)
all_cond P false x xs p h = h

pub all_filter : {X : Type 0} (P : X → Type 0) (p : X → Bool) (xs : List X) → AllByRecursion P xs
    → AllByRecursion P (filter p xs)
all_filter P p [] h = tt
all_filter P p (x ∷ xs) h = all_cond P (p x) x (filter p xs) h.0 (all_filter P p xs h.1)

filter_cond : {X : Type 0} (P : X → Type 0) (b : Bool) (x : X) (xs : List X) → (b ≡ true → P x)
    → AllByRecursion P xs → AllByRecursion P (cond b (x ∷ xs) xs)
filter_cond P true x xs p h = (p refl, h)
filter_cond P false x xs p h = h

pub filter_all : {X : Type 0} (P : X → Type 0) (p : X → Bool) (xs : List X)
    → ((x : X) → p x ≡ true → P x) → AllByRecursion P (filter p xs)
filter_all P p [] h = tt
filter_all P p (x ∷ xs) h = filter_cond P (p x) x (filter p xs) (h x) (filter_all P p xs h)

filter_twice : {X : Type 0} (b : Bool) (x : X) (ps zs : List X) (q : X → Bool) → filter q ps ≡ zs
    → filter q (cond b (x ∷ ps) ps) ≡ cond (b && q x) (x ∷ zs) zs
filter_twice true x ps zs q e = ap (λ ys. cond (q x) (x ∷ ys) ys) e
filter_twice false x ps zs q e = e

pub filter-filter : {X : Type 0} (p q : X → Bool) (xs : List X)
    → filter q (filter p xs) ≡ filter (λ x. p x && q x) xs
filter-filter p q [] = refl
filter-filter p q (x ∷ xs) =
    filter_twice (p x) x (filter p xs) (filter (λ x. p x && q x) xs) q (filter-filter p q xs)

-- nothing passes once all fail
pub filter_none : {X : Type 0} (p : X → Bool) (xs : List X) → AllByRecursion (λ y. p y ≡ false) xs
    → filter p xs ≡ []
filter_none p [] h = refl
filter_none p (x ∷ xs) h = rw h.0 (filter_none p xs h.1)

-- a filter of joined lists
pub filter-flat_map : {X Y : Type 0} (u : Y → Bool) (g : X → List Y) (xs : List X)
    → filter u (flat_map g xs) ≡ flat_map (λ x. filter u (g x)) xs
filter-flat_map u g [] = refl
filter-flat_map u g (x ∷ xs) =
    filter-append u (g x) (flat_map g xs) ∙ ap (λ zs. filter u (g x) ++ zs) (filter-flat_map u g xs)

pub flat_map_same : {X Y : Type 0} (g h : X → List Y) (xs : List X) → ((x : X) → g x ≡ h x)
    → flat_map g xs ≡ flat_map h xs
flat_map_same g h [] f = refl
flat_map_same g h (x ∷ xs) f = rw (f x, flat_map_same g h xs f) refl

pub agree_first : {X : Type 0} (is js : List ℕ) (env a : Env X) → Agree (is ++ js) env a
    → Agree is env a
agree_first [] js env a h = tt
agree_first (i ∷ is) js env a h = (h.0, agree_first is js env a h.1)

pub agree_second : {X : Type 0} (is js : List ℕ) (env a : Env X) → Agree (is ++ js) env a
    → Agree js env a
agree_second [] js env a h = h
agree_second (i ∷ is) js env a h = agree_second is js env a h.1

pub all_from_at : {X : Type 0} (P : X → Type 0) (xs : List X)
    → ((k : ℕ) (x : X) → slice_get xs k ≡ Some x → P x) → AllByRecursion P xs
all_from_at P [] f = tt
all_from_at P (x ∷ xs) f = (f 0 x refl, all_from_at P xs (λ k y e. f (suc k) y e))
