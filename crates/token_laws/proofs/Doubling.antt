-- What a text between quotes means is what was written with each quote doubled.
use Rattle.std.proofs.Common.{◌≡◌, ℕ, ◌-◌, ◌==◌, Bool, true, false, cond, List, [], ◌∷◌, ◌++◌}
use Rattle.std.proofs.Common.{length, take, refl, ap, sym, ◌∙◌, arith, length-append}
use Rattle.std.proofs.Math.Seq.{take-append_seam}
use Rattle.sql_tokens.specs.TokenValues.{undoubled, front, quoted_value}
use Rattle.token_laws.specs.Forms.{doubled}
use Rattle.token_laws.proofs.Quotes.{same_byte, same_is}

pub undoubled-doubled : (q : ℕ) (value : List ℕ) → undoubled q (doubled q value) ≡ value
undoubled-doubled q [] = refl
undoubled-doubled q (b ∷ bs) = at (b == q) refl (undoubled-doubled q bs)
  where
    at :
        (v : Bool)
        → (b == q) ≡ v
        → undoubled q (doubled q bs) ≡ bs
        → undoubled q (cond v (q ∷ q ∷ doubled q bs) (b ∷ doubled q bs)) ≡ b ∷ bs
    at true is later = rw (same_byte q, later) (ap (λ c. c ∷ bs) (sym (same_is b q is)))
    at false is later = rw (is, later) refl

front-append : (xs : List ℕ) (q : ℕ) → front (xs ++ q ∷ []) ≡ xs
front-append xs q =
    let all : length (xs ++ q ∷ []) - 1 ≡ length xs = omega (arith, length-append xs (q ∷ [])) in
    ap (λ n. take n (xs ++ q ∷ [])) all ∙ take-append_seam xs (q ∷ [])

pub quoted_value-doubled :
    (q : ℕ) (value : List ℕ)
    → (q == 91) ≡ false
    → quoted_value (q ∷ (doubled q value ++ q ∷ [])) ≡ value
unfolding quoted_value
quoted_value-doubled q value h =
    rw (h, front-append (doubled q value) q) (undoubled-doubled q value)
