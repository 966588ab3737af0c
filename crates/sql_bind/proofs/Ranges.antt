-- Lists made over the numbers below a bound, with a number more.
use Rattle.std.proofs.Common.{◌≡◌, ℕ, zero, suc, ◌+◌, Bool, true, false, cond, List, [], ◌∷◌, ◌++◌}
use Rattle.std.proofs.Common.{map, flat_map}
use Rattle.std.proofs.Common.{filter, refl, ap, sym, ◌∙◌, arith}
use Rattle.std.specs.List.{range_with_len}
use Rattle.std.proofs.lemmas.List.{append_assoc, append-nil}
use Rattle.std.proofs.lemmas.List.FromFn.{map-range_with_len_more}
use Rattle.std.proofs.lemmas.List.Elements.{filter-append}
use Rattle.std.proofs.lemmas.Grind.{flat_map-append}

range_suc : (a n : ℕ) → range_with_len a (suc n) ≡ range_with_len a n ++ (a + n) ∷ []
range_suc a zero =
    let e : a ≡ a + 0 = omega arith in
    ap (λ k. k ∷ []) e
range_suc a (suc n) =
    let e : (a + 1) + n ≡ a + suc n = omega arith in
    ap (λ ks. a ∷ ks) (range_suc (a + 1) n ∙ ap (λ k. range_with_len (a + 1) n ++ k ∷ []) e)

pub range_more : (n : ℕ) → range_with_len 0 (n + 1) ≡ range_with_len 0 n ++ n ∷ []
range_more n =
    let e : n + 1 ≡ suc n = omega arith in
    let z : 0 + n ≡ n = omega arith in
    ap (range_with_len 0) e ∙ range_suc 0 n ∙ ap (λ k. range_with_len 0 n ++ k ∷ []) z

pub mapped_more : {R : Type 0} (f : ℕ → R) (n : ℕ) (start old new : List R) (r : R)
    → old ≡ start ++ map f (range_with_len 0 n) → new ≡ old ++ r ∷ [] → r ≡ f n
    → new ≡ start ++ map f (range_with_len 0 (n + 1))
mapped_more f n start old new r before pushed is =
    rw (pushed, before, is)
    (append_assoc start (map f (range_with_len 0 n)) (f n ∷ [])
    ∙ ap (λ rs. start ++ rs) (sym (map-range_with_len_more f 0 n n (omega arith))))

pub joined_more : {R : Type 0} (f : ℕ → List R) (n : ℕ) (start old new : List R)
    → old ≡ start ++ flat_map f (range_with_len 0 n) → new ≡ old ++ f n
    → new ≡ start ++ flat_map f (range_with_len 0 (n + 1))
joined_more f n start old new before pushed =
    let last : flat_map f (range_with_len 0 n ++ n ∷ []) ≡ flat_map f (range_with_len 0 n) ++ f n =
    flat_map-append f (range_with_len 0 n) (n ∷ [])
    ∙ ap (λ rs. flat_map f (range_with_len 0 n) ++ rs) (append-nil (f n)) in
    rw (pushed, before)
    (append_assoc start (flat_map f (range_with_len 0 n)) (f n)
    ∙ ap (λ rs. start ++ rs) (sym (ap (flat_map f) (range_more n) ∙ last)))

pub kept_more : (keeps : ℕ → Bool) (n : ℕ)
    → filter keeps (range_with_len 0 (n + 1))
    ≡ filter keeps (range_with_len 0 n) ++ cond (keeps n) (n ∷ []) []
kept_more keeps n = ap (filter keeps) (range_more n)
    ∙ filter-append keeps (range_with_len 0 n) (n ∷ [])

pub kept_yes : (keeps : ℕ → Bool) (n : ℕ) (old new : List ℕ)
    → old ≡ filter keeps (range_with_len 0 n) → keeps n ≡ true → new ≡ old ++ n ∷ []
    → new ≡ filter keeps (range_with_len 0 (n + 1))
kept_yes keeps n old new before keep pushed =
    rw (pushed, before, kept_more keeps n, keep) refl

pub kept_no : (keeps : ℕ → Bool) (n : ℕ) (old : List ℕ)
    → old ≡ filter keeps (range_with_len 0 n) → keeps n ≡ false
    → old ≡ filter keeps (range_with_len 0 (n + 1))
kept_no keeps n old before none =
    rw (before, kept_more keeps n, none) (sym (append-nil (filter keeps (range_with_len 0 n))))
