-- The terms of a statement, item by item.
use Rattle.std.proofs.Common.{◌≡◌, ◌<◌, ◌+◌, ℕ, zero, suc, List, [], ◌∷◌, refl, ap, ◌∙◌, map}
use Rattle.std.proofs.Common.{length, get_or, arith}
use Rattle.sql_meaning.specs.Statements.{numbers_from}

first_same : {X : Type 0} (x y : X) (xs ys : List X) → x ∷ xs ≡ y ∷ ys → x ≡ y
first_same x y xs ys e = cc

rest_same : {X : Type 0} (x y : X) (xs ys : List X) → x ∷ xs ≡ y ∷ ys → xs ≡ ys
rest_same x y xs ys e = cc

pub as_long : {X Y : Type 0} (v : X → Y) (f : ℕ → Y) (xs : List X) (start n : ℕ)
    → map v xs ≡ map f (numbers_from start n) → length xs ≡ n
as_long v f [] start zero e = refl
as_long v f [] start (suc n) e = absurd (cc)
as_long v f (x ∷ xs) start zero e = absurd (cc)
as_long v f (x ∷ xs) start (suc n) e =
    ap suc (as_long v f xs (start + 1) n
    (rest_same (v x) (f start) (map v xs) (map f (numbers_from (start + 1) n)) e))

numbered_at : {X Y : Type 0} (v : X → Y) (f : ℕ → Y) (xs : List X) (start n i : ℕ) (d : X)
    → map v xs ≡ map f (numbers_from start n) → i < n → v (get_or xs i d) ≡ f (start + i)
numbered_at v f [] start zero i d e below = absurd (omega (arith, below))
numbered_at v f [] start (suc n) i d e below = absurd (cc)
numbered_at v f (x ∷ xs) start zero i d e below = absurd (cc)
numbered_at v f (x ∷ xs) start (suc n) zero d e below =
    let same : start ≡ start + 0 = omega arith in
    first_same (v x) (f start) (map v xs) (map f (numbers_from (start + 1) n)) e ∙ ap f same
numbered_at v f (x ∷ xs) start (suc n) (suc i) d e below =
    let same : start + 1 + i ≡ start + suc i = omega arith in
    numbered_at v f xs (start + 1) n i d
    (rest_same (v x) (f start) (map v xs) (map f (numbers_from (start + 1) n)) e)
    (omega (arith, below))
    ∙ ap f same

pub at_number : {X Y : Type 0} (v : X → Y) (f : ℕ → Y) (xs : List X) (n i : ℕ) (d : X)
    → map v xs ≡ map f (numbers_from 0 n) → i < n → v (get_or xs i d) ≡ f i
at_number v f xs n i d e below =
    let same : 0 + i ≡ i = omega arith in numbered_at v f xs 0 n i d e below ∙ ap f same
