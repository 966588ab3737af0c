-- Going over a list one by one.
use Rattle.std.proofs.Common.{◌≡◌, ℕ, zero, suc, ◌+◌, ◌<◌, List, [], ◌∷◌, ◌++◌, length, drop}
use Rattle.std.proofs.Common.{get_or, Option, None, Some, option_map, refl, ap, sym, ◌∙◌, arith}
use Rattle.std.proofs.Common.{append_assoc}
use Rattle.schema_text.specs.Lists.{with_first, traverse}

pub next : {X Y : Type 0} (f : X → Option Y) (xs : List X) (i : ℕ) (d : X) → i < length xs
    → traverse f (drop i xs) ≡ with_first (f (get_or xs i d)) (traverse f (drop (i + 1) xs))
next f [] i d h = absurd (omega (arith, h))
next f (x ∷ xs) zero d h = refl
next f (x ∷ xs) (suc i) d h = let n : suc i + 1 ≡ suc (i + 1) = omega arith in
    rw n (next f xs i d (omega (arith, h)))

pub pushed : {Y : Type 0} (done : List Y) (y : Y) (rest : Option (List Y))
    → option_map (λ es. done ++ es) (with_first (Some y) rest)
    ≡ option_map (λ es. (done ++ y ∷ []) ++ es) rest
pushed done y None = refl
pushed done y (Some es) = ap Some (sym (append_assoc done (y ∷ []) es))

module _ {X Y : Type 0} (f : X → Option Y) (xs : List X) (i : ℕ) (d : X) (done : List Y)
    (all : Option (List Y))
    (so_far : all ≡ option_map (λ es. done ++ es) (traverse f (drop i xs))) (h : i < length xs)
  where
    pub stops : f (get_or xs i d) ≡ None → None ≡ all
    stops e = sym (so_far
        ∙ ap (option_map (λ es. done ++ es))
        (next f xs i d h ∙ ap (λ o. with_first o (traverse f (drop (i + 1) xs))) e))

    pub goes : (y : Y) → f (get_or xs i d) ≡ Some y → (more : List Y) → more ≡ done ++ y ∷ []
        → all ≡ option_map (λ es. more ++ es) (traverse f (drop (i + 1) xs))
    goes y e more same =
        so_far ∙ ap (option_map (λ es. done ++ es))
        (next f xs i d h ∙ ap (λ o. with_first o (traverse f (drop (i + 1) xs))) e)
        ∙ pushed done y (traverse f (drop (i + 1) xs))
        ∙ ap (λ (front : List Y). option_map (λ es. front ++ es) (traverse f (drop (i + 1) xs)))
        (sym same)
