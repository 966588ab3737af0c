-- The usable ones among the first indexes.
use Rattle.std.proofs.Common.{◌≡◌, ℕ, zero, suc, ◌+◌, Bool, true, false, cond, List, [], ◌∷◌, ◌++◌}
use Rattle.std.proofs.Common.{map}
use Rattle.std.proofs.Common.{take, slice_get, Some, ap, ◌∙◌, arith}
use Rattle.std.specs.List.{filter}
use Rattle.std.proofs.lemmas.List.{map-append, append-nil}
use Rattle.std.proofs.lemmas.List.Elements.{filter-append}
use Rattle.schema_model.specs.PlainSchemas.{plain_index}
use Rattle.schema_model.specs.declared.indexes.Index.{Index}
use Rattle.candidate_index.specs.Known.{usable}

take_suc : {X : Type 0} (xs : List X) (n : ℕ) (x : X) → slice_get xs n ≡ Some x
    → take (suc n) xs ≡ take n xs ++ x ∷ []
take_suc [] n x e = absurd (cc)
take_suc (y ∷ ys) zero x e = let same : y ≡ x = cc in ap (λ z. z ∷ []) same
take_suc {X} (y ∷ ys) (suc n) x e = ap (λ (zs : List X). y ∷ zs) (take_suc ys n x e)

pub take_push : {X : Type 0} (xs : List X) (n : ℕ) (x : X) → slice_get xs n ≡ Some x
    → take (n + 1) xs ≡ take n xs ++ x ∷ []
take_push {X} xs n x e =
    let next : n + 1 ≡ suc n = omega arith in
    ap (λ (k : ℕ). take k xs) next ∙ take_suc xs n x e

one_more : (xs : List Index) (n : ℕ) (x : Index) → slice_get xs n ≡ Some x
    → usable (take (n + 1) xs)
    ≡ usable (take n xs) ++ map plain_index (cond x.usable (x ∷ []) [])
one_more xs n x e =
    ap usable (take_push xs n x e)
    ∙ ap (map plain_index) (filter-append (λ (i : Index). i.usable) (take n xs) (x ∷ []))
    ∙ map-append plain_index (filter (λ (i : Index). i.usable) (take n xs))
    (cond x.usable (x ∷ []) [])

pub usable_more : (xs : List Index) (n : ℕ) (x : Index) → slice_get xs n ≡ Some x
    → x.usable ≡ true → usable (take (n + 1) xs) ≡ usable (take n xs) ++ plain_index x ∷ []
usable_more xs n x e is =
    one_more xs n x e
    ∙ ap (λ (b : Bool). usable (take n xs) ++ map plain_index (cond b (x ∷ []) [])) is

pub usable_same : (xs : List Index) (n : ℕ) (x : Index) → slice_get xs n ≡ Some x
    → x.usable ≡ false → usable (take (n + 1) xs) ≡ usable (take n xs)
usable_same xs n x e is =
    one_more xs n x e
    ∙ ap (λ (b : Bool). usable (take n xs) ++ map plain_index (cond b (x ∷ []) [])) is
    ∙ append-nil (usable (take n xs))
