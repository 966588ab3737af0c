-- Lists of columns and of shapes, one by one.
use Rattle.std.proofs.Common.{◌≡◌, subst, ℕ, zero, suc, ◌+◌, ◌<◌, List, [], ◌∷◌, length, drop}
use Rattle.std.proofs.Common.{get_or, arith}
use Rattle.std.specs.List.{AllByRecursion}

pub all_next : {X : Type 0} (P : X → Type 0) (xs : List X) (i : ℕ) (d : X) → i < length xs
    → P (get_or xs i d) → AllByRecursion P (drop (i + 1) xs) → AllByRecursion P (drop i xs)
all_next P [] i d h p a = absurd (omega (arith, h))
all_next P (x ∷ xs) zero d h p a = (p, a)
all_next P (x ∷ xs) (suc i) d h p a = let n : suc i + 1 ≡ suc (i + 1) = omega arith in
    all_next P xs i d (omega (arith, h)) p
    (subst (λ (k : ℕ). AllByRecursion P (drop k (x ∷ xs))) n a)
