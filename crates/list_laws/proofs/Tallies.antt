-- Tallies of joined, filtered and mapped lists.
use Rattle.std.specs.List.{flat_map, filter, AllByRecursion}
use Rattle.std.proofs.Common.{◌≡◌, ℕ, ◌+◌, List, [], ◌∷◌, ◌++◌, arith, refl, ap, ◌∙◌, Bool, true}
use Rattle.std.proofs.Common.{false, cond, map, sym}
use Rattle.list_laws.specs.Tally.{tally, SameTally}

pub tally-append : {X : Type 0} (f : X → ℕ) (xs ys : List X)
    → tally f (xs ++ ys) ≡ tally f xs + tally f ys
tally-append f [] ys = omega arith
tally-append f (x ∷ xs) ys = omega (arith, tally-append f xs ys)

pub tally-flat_map : {X Y : Type 0} (f : Y → ℕ) (g : X → List Y) (xs : List X)
    → tally f (flat_map g xs) ≡ tally (λ x. tally f (g x)) xs
tally-flat_map f g [] = refl
tally-flat_map f g (x ∷ xs) =
    tally-append f (g x) (flat_map g xs) ∙ ap (λ n. tally f (g x) + n) (tally-flat_map f g xs)

tally_cond : {X : Type 0} (f : X → ℕ) (b : Bool) (x : X) (ys : List X)
    → tally f (cond b (x ∷ ys) ys) ≡ cond b (f x) 0 + tally f ys
tally_cond f true x ys = refl
tally_cond f false x ys = omega arith

pub tally-filter : {X : Type 0} (f : X → ℕ) (p : X → Bool) (xs : List X)
    → tally f (filter p xs) ≡ tally (λ x. cond (p x) (f x) 0) xs
tally-filter f p [] = refl
tally-filter f p (x ∷ xs) =
    tally_cond f (p x) x (filter p xs) ∙ ap (λ n. cond (p x) (f x) 0 + n) (tally-filter f p xs)

pub tally-map : {X Y : Type 0} (f : Y → ℕ) (g : X → Y) (xs : List X)
    → tally f (map g xs) ≡ tally (λ x. f (g x)) xs
tally-map f g [] = refl
tally-map f g (x ∷ xs) = ap (λ n. f (g x) + n) (tally-map f g xs)

-- weights that agree on the elements
pub tally_agree : {X : Type 0} (f g : X → ℕ) (xs : List X) → AllByRecursion (λ x. f x ≡ g x) xs
    → tally f xs ≡ tally g xs
tally_agree f g [] h = refl
tally_agree f g (x ∷ xs) h = omega (arith, h.0, tally_agree f g xs h.1)

pub tally_same : {X : Type 0} (f g : X → ℕ) (xs : List X) → ((x : X) → f x ≡ g x)
    → tally f xs ≡ tally g xs
tally_same f g [] h = refl
tally_same f g (x ∷ xs) h = omega (arith, h x, tally_same f g xs h)

pub tally_zero : {X : Type 0} (xs : List X) → tally (λ x. 0) xs ≡ 0
tally_zero [] = refl
tally_zero (x ∷ xs) = omega (arith, tally_zero xs)

pub tally_add : {X : Type 0} (f g : X → ℕ) (xs : List X)
    → tally (λ x. f x + g x) xs ≡ tally f xs + tally g xs
tally_add f g [] = refl
tally_add f g (x ∷ xs) = omega (arith, tally_add f g xs)

-- two nested sums change places
pub tally_exchange : {X Y : Type 0} (f : X → Y → ℕ) (xs : List X) (ys : List Y)
    → tally (λ x. tally (f x) ys) xs ≡ tally (λ y. tally (λ x. f x y) xs) ys
tally_exchange f [] ys = sym (tally_zero ys)
tally_exchange f (x ∷ xs) ys =
    ap (λ n. tally (f x) ys + n) (tally_exchange f xs ys)
    ∙ sym (tally_add (f x) (λ y. tally (λ x. f x y) xs) ys)

pub SameTally-refl : {X : Type 0} (xs : List X) → SameTally xs xs
SameTally-refl xs = record { each = λ f. refl }

pub SameTally-sym : {X : Type 0} (xs ys : List X) → SameTally xs ys → SameTally ys xs
SameTally-sym xs ys h = record { each = λ f. sym (h.each f) }

pub SameTally-trans : {X : Type 0} (xs ys zs : List X) → SameTally xs ys → SameTally ys zs
    → SameTally xs zs
SameTally-trans xs ys zs h k = record { each = λ f. h.each f ∙ k.each f }

pub SameTally-filter : {X : Type 0} (p : X → Bool) (xs ys : List X) → SameTally xs ys
    → SameTally (filter p xs) (filter p ys)
SameTally-filter p xs ys h =
    record {
      each = λ f. tally-filter f p xs ∙ h.each (λ x. cond (p x) (f x) 0)
          ∙ sym (tally-filter f p ys);
    }

pub SameTally-map : {X Y : Type 0} (g : X → Y) (xs ys : List X) → SameTally xs ys
    → SameTally (map g xs) (map g ys)
SameTally-map g xs ys h =
    record { each = λ f. tally-map f g xs ∙ h.each (λ x. f (g x)) ∙ sym (tally-map f g ys) }
