-- A list of items put in order, one by one.
use Rattle.std.specs.List.{AllByRecursion}
use Rattle.std.proofs.Common.{◌≡◌, ◌≢◌, ◌<◌, ◌≤◌, ℕ, zero, suc, ◌+◌, Bool, true, false, cond, ltb}
use Rattle.std.proofs.Common.{List}
use Rattle.std.proofs.Common.{[], ◌∷◌, ◌++◌, length, refl, sym, ap, ◌∙◌, subst, arith}
use Rattle.std.proofs.lemmas.Bool.{ltb-true, ltb-false}
use Rattle.list_laws.specs.Nest.{Rearranges, same, next, swapped, after}
use Rattle.list_laws.proofs.Lists.{all_map, all_both}
use Rattle.sql_meaning.specs.Statements.{numbers_from}

abbrev pub Rising : List ℕ → Type 0
Rising [] = Unit {0}
Rising (x ∷ xs) = AllByRecursion (λ y. x < y) xs × Rising xs

-- before the first that is greater
abbrev pub put : ℕ → List ℕ → List ℕ
put i [] = i ∷ []
put i (y ∷ ys) = cond (ltb i y) (i ∷ y ∷ ys) (y ∷ put i ys)

put_case : (P : ℕ → Type 0) (i y : ℕ) (ys zs : List ℕ) (b : Bool) → P i → P y → AllByRecursion P ys
    → AllByRecursion P zs → AllByRecursion P (cond b (i ∷ y ∷ ys) (y ∷ zs))
put_case P i y ys zs true p q h k = (p, (q, h))
put_case P i y ys zs false p q h k = (q, k)

pub put_all : (P : ℕ → Type 0) (i : ℕ) (ys : List ℕ) → P i → AllByRecursion P ys
    → AllByRecursion P (put i ys)
put_all P i [] p h = (p, tt)
put_all P i (y ∷ ys) p h = put_case P i y ys (put i ys) (ltb i y) p h.0 h.1 (put_all P i ys p h.1)

rising_case : (i y : ℕ) (ys : List ℕ) (b : Bool) → ltb i y ≡ b → Rising (y ∷ ys) → i ≢ y
    → Rising (put i ys) → Rising (cond b (i ∷ y ∷ ys) (y ∷ put i ys))
rising_case i y ys true e r n h =
    let below = ltb-true i y e in
    ((below, all_map _ _ ys (λ z l. omega (arith, l, below)) r.0), r)
rising_case i y ys false e r n h =
    let above = ltb-false i y e in
    let apart : y < i = omega (arith, above, n) in
    (put_all (λ z. y < z) i ys apart r.0, h)

pub put_rising : (i : ℕ) (ys : List ℕ) → Rising ys → AllByRecursion (λ y. i ≢ y) ys
    → Rising (put i ys)
put_rising i [] r n = (tt, tt)
put_rising i (y ∷ ys) r n =
    rising_case i y ys (ltb i y) refl r n.0 (put_rising i ys r.1 n.1)

length_case : (i y : ℕ) (ys zs : List ℕ) (b : Bool) → length zs ≡ suc (length ys)
    → length (cond b (i ∷ y ∷ ys) (y ∷ zs)) ≡ suc (suc (length ys))
length_case i y ys zs true e = refl
length_case i y ys zs false e = ap suc e

pub put_length : (i : ℕ) (ys : List ℕ) → length (put i ys) ≡ suc (length ys)
put_length i [] = refl
put_length i (y ∷ ys) = length_case i y ys (put i ys) (ltb i y) (put_length i ys)

-- an item may change places with those that are free, where it is free
to_front : (free : ℕ → Bool) (i : ℕ) (zs : List ℕ) → free i ≡ true
    → AllByRecursion (λ z. i ≢ z) zs → AllByRecursion (λ z. free z ≡ true) zs
    → Rearranges free (zs ++ i ∷ []) (i ∷ zs)
to_front free i [] f n h = same (i ∷ [])
to_front free i (z ∷ zs) f n h =
    after _ _ _ (next z _ _ (to_front free i zs f n.1 h.1))
    (swapped z i zs (λ e. n.0 (sym e)) h.0 f)

abbrev pub FreeAbove : (ℕ → Bool) → ℕ → ℕ → Type 0
FreeAbove free i y = i < y → (free i ≡ true) × (free y ≡ true)

moves_case : (free : ℕ → Bool) (i y : ℕ) (ys : List ℕ) (b : Bool) → ltb i y ≡ b → Rising (y ∷ ys)
    → AllByRecursion (λ z. i ≢ z) (y ∷ ys) → AllByRecursion (FreeAbove free i) (y ∷ ys)
    → Rearranges free (ys ++ i ∷ []) (put i ys)
    → Rearranges free (y ∷ (ys ++ i ∷ [])) (cond b (i ∷ y ∷ ys) (y ∷ put i ys))
moves_case free i y ys true e r n f m =
    let below = ltb-true i y e in
    to_front free i (y ∷ ys) (f.0 below).0 n (
      (f.0 below).1,
      all_both _ _ _ ys (λ z l g. (g (omega (arith, l, below))).1) r.0 f.1,
    )
moves_case free i y ys false e r n f m = next y _ _ m

pub put_moves : (free : ℕ → Bool) (i : ℕ) (ys : List ℕ) → Rising ys
    → AllByRecursion (λ z. i ≢ z) ys → AllByRecursion (FreeAbove free i) ys
    → Rearranges free (ys ++ i ∷ []) (put i ys)
put_moves free i [] r n f = same (i ∷ [])
put_moves free i (y ∷ ys) r n f =
    moves_case free i y ys (ltb i y) refl r n f (put_moves free i ys r.1 n.1 f.1)

-- n rising numbers of n numbers are all of them
head_is : (k m x : ℕ) (rest : List ℕ) → k ≤ x → x < k + suc m → AllByRecursion (λ y. x < y) rest
    → rest ≡ numbers_from (k + 1) m → x ≡ k
head_is k zero x rest a b h e = omega (arith, a, b)
head_is k (suc m) x rest a b h e =
    let first = (subst (AllByRecursion (λ y. x < y)) e h).0 in omega (arith, a, first)

pub rising_numbers : (k n : ℕ) (xs : List ℕ) → Rising xs → AllByRecursion (λ y. k ≤ y) xs
    → AllByRecursion (λ y. y < k + n) xs → length xs ≡ n → xs ≡ numbers_from k n
rising_numbers k zero [] r a b e = refl
rising_numbers k (suc n) [] r a b e = absurd (omega (arith, e))
rising_numbers k zero (x ∷ xs) r a b e = absurd (omega (arith, e))
rising_numbers k (suc n) (x ∷ xs) r a b e =
    let rest : xs ≡ numbers_from (k + 1) n = rising_numbers (k + 1) n xs r.1
    (all_both _ _ _ xs (λ y l m. omega (arith, l, a.0)) r.0 a.1)
    (all_map _ _ xs (λ y l. omega (arith, l)) b.1) (omega (arith, e)) in
    let first : x ≡ k = head_is k n x xs a.0 b.0 r.0 rest in
    ap (λ z. z ∷ xs) first ∙ ap (λ zs. k ∷ zs) rest
