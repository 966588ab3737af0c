-- Loops over statements: what is left, and what is known of those that were gone through.
use Rattle.std.specs.List.{AllByRecursion, flat_map}
use Rattle.std.proofs.Common.{◌≡◌, ◌<◌, ◌+◌, ◌++◌, ℕ, zero, suc, List, [], ◌∷◌, refl, sym, ap, ◌∙◌}
use Rattle.std.proofs.Common.{append_assoc, arith, drop, length, map}
use Rattle.std.proofs.Math.ListN.{get_or}
use Rattle.std.proofs.lemmas.List.{map-append}

-- a loop has come to a place
pub left_at : {X : Type 0} (xs : List X) (i : ℕ) (d : X) → i < length xs
    → drop i xs ≡ get_or xs i d ∷ drop (i + 1) xs
left_at [] i d below = absurd (omega (arith, below))
left_at (y ∷ ys) zero d below = refl
left_at (y ∷ ys) (suc i) d below =
    let next : suc i + 1 ≡ suc (i + 1) = omega arith in
    rw next (left_at ys i d (omega (arith, below)))

pub left : {X : Type 0} (xs : List X) (i : ℕ) (x : X) → i < length xs → x ≡ get_or xs i x
    → drop i xs ≡ x ∷ drop (i + 1) xs
left xs i x below is = left_at xs i x below ∙ ap (λ z. z ∷ drop (i + 1) xs) (sym is)

pub flat_append : {X Y : Type 0} (g : X → List Y) (xs ys : List X)
    → flat_map g (xs ++ ys) ≡ flat_map g xs ++ flat_map g ys
flat_append g [] ys = refl
flat_append g (x ∷ xs) ys =
    ap (λ zs. g x ++ zs) (flat_append g xs ys) ∙ sym (append_assoc (g x) _ _)

-- some more are made, and the others are left
pub made_more : {X Y : Type 0} (f : X → Y) (old new whole : List Y) (xs ys : List X)
    → new ≡ old ++ map f xs → old ++ map f (xs ++ ys) ≡ whole → new ++ map f ys ≡ whole
made_more f old new whole xs ys made left =
    ap (λ zs. zs ++ map f ys) made ∙ append_assoc old (map f xs) (map f ys)
    ∙ ap (λ zs. old ++ zs) (sym (map-append f xs ys)) ∙ left
