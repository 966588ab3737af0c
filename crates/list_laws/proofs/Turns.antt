-- Lists one member further, and what a list that is joined or turned round is seen as.
use Rattle.std.specs.List.{flat_map}
use Rattle.std.specs.Prelude.{slice_get}
use Rattle.std.proofs.Common.{◌≡◌, ◌<◌, ◌≤◌, ℕ, zero, suc, ◌+◌, List, [], ◌∷◌, ◌++◌, drop}
use Rattle.std.proofs.Common.{get_or, ap, sym, ◌∙◌, refl, add-one, Some, length, map, reverse, arith}
use Rattle.std.proofs.Common.{append-nil}
use Rattle.std.proofs.Math.Seq.{drop-cons}
use Rattle.std.proofs.lemmas.Grind.{flat_map-append}
use Rattle.std.proofs.lemmas.List.{map_push, reverse-append}

-- with what stands there, whatever is taken past the end
pub dropped_or : {X : Type 0} (xs : List X) (i : ℕ) (d : X) → i < length xs
    → drop i xs ≡ get_or xs i d ∷ drop (i + 1) xs
dropped_or xs i d h = rw add-one (drop-cons xs i d h)

pub next_dropped : {X : Type 0} (xs : List X) (i : ℕ) (x : X) → i < length xs → x ≡ get_or xs i x
    → drop i xs ≡ x ∷ drop (i + 1) xs
next_dropped xs i x h e = dropped_or xs i x h ∙ ap (λ y. y ∷ drop (i + 1) xs) (sym e)

dropped_at : {X : Type 0} (xs : List X) (i : ℕ) (x : X) → slice_get xs i ≡ Some x
    → drop i xs ≡ x ∷ drop (suc i) xs
dropped_at [] i x e = absurd (cc)
dropped_at (y ∷ ys) zero x e = let both : Some y ≡ Some x = e in cc
dropped_at (y ∷ ys) (suc i) x e = dropped_at ys i x e

pub dropped_get : {X : Type 0} (xs : List X) (i : ℕ) (x : X) → slice_get xs i ≡ Some x
    → drop i xs ≡ x ∷ drop (i + 1) xs
dropped_get xs i x e = rw add-one (dropped_at xs i x e)

pub past_end : {X : Type 0} (xs : List X) (i : ℕ) → length xs ≤ i → drop i xs ≡ []
past_end [] zero h = refl
past_end [] (suc i) h = refl
past_end (x ∷ xs) zero h = absurd (omega (arith, h))
past_end (x ∷ xs) (suc i) h = past_end xs i (omega (arith, h))

pub flat_push : {X Y : Type 0} (f : X → List Y) (xs : List X) (x : X)
    → flat_map f (xs ++ x ∷ []) ≡ flat_map f xs ++ f x
flat_push f xs x = flat_map-append f xs (x ∷ []) ∙ ap (λ l. flat_map f xs ++ l) (append-nil (f x))

pub flat_flat : {X Y Z : Type 0} (g : Y → List Z) (f : X → List Y) (xs : List X)
    → flat_map g (flat_map f xs) ≡ flat_map (λ x. flat_map g (f x)) xs
flat_flat g f [] = refl
flat_flat g f (x ∷ xs) =
    flat_map-append g (f x) (flat_map f xs) ∙ ap (λ l. flat_map g (f x) ++ l) (flat_flat g f xs)

pub map_reverse : {X Y : Type 0} (f : X → Y) (xs : List X) → map f (reverse xs) ≡ reverse (map f xs)
map_reverse f [] = refl
map_reverse f (x ∷ xs) =
    ap (map f) (reverse-append (x ∷ []) xs) ∙ map_push f (reverse xs) x
    ∙ ap (λ l. l ++ f x ∷ []) (map_reverse f xs)
    ∙ sym (reverse-append (f x ∷ []) (map f xs))

pub map_same : {X Y : Type 0} (f g : X → Y) → ((x : X) → f x ≡ g x) → (xs : List X)
    → map f xs ≡ map g xs
map_same f g h [] = refl
map_same f g h (x ∷ xs) = rw (h x, map_same f g h xs) refl
