-- A comment ends at its first `*/`.
use Rattle.std.proofs.Common.{◌≡◌, ℕ, zero, suc, ◌+◌, ◌<◌, ◌==◌, cond, ◌⊎◌, inl, inr}
use Rattle.std.proofs.Common.{Bool, true, false, List, [], ◌∷◌, length, take, refl, ap, ◌∙◌, arith}
use Rattle.sql_tokens.specs.Runs.{comment_len, behind_star_len}
use Rattle.token_laws.specs.Kinds.{has_comment_end, IsCommentRest}
use Rattle.token_laws.proofs.Booleans.{or_second}
use Rattle.token_laws.proofs.Lengths.{comment_within}

-- No shorter front has the end; nor where a `*` stands before it.
abbrev Short : List ℕ → ℕ → Type 0
Short bs m =
    (m < comment_len bs → has_comment_end (take m bs) ≡ false)
    × (m < behind_star_len bs → has_comment_end (42 ∷ take m bs) ≡ false)

short_first :
    (b : ℕ) (bs : List ℕ) (m : ℕ) (v : Bool)
    → Short bs m
    → (b == 42) ≡ v
    → suc m < 1 + cond v (behind_star_len bs) (comment_len bs)
    → has_comment_end (b ∷ take m bs) ≡ false
short_first b bs m true rest is lt = rw is (rest.1 (omega (arith, lt)))
short_first b bs m false rest is lt = rw is (rest.0 (omega (arith, lt)))

short_starred :
    (b : ℕ) (bs : List ℕ) (m : ℕ) (v : Bool)
    → Short bs m
    → (b == 47) ≡ v
    → suc m < 1 + cond v 0 (cond (b == 42) (behind_star_len bs) (comment_len bs))
    → has_comment_end (42 ∷ b ∷ take m bs) ≡ false
short_starred b bs m true rest is lt = absurd (omega (arith, lt))
short_starred b bs m false rest is lt = rw is (short_first b bs m (b == 42) rest refl lt)

short : (bs : List ℕ) (m : ℕ) → Short bs m
short [] m = (λ lt. absurd (omega (arith, lt)), λ lt. absurd (omega (arith, lt)))
short (b ∷ bs) zero = (λ lt. refl, λ lt. refl)
short (b ∷ bs) (suc m) =
    let rest = short bs m in
    (short_first b bs m (b == 42) rest refl, short_starred b bs m (b == 47) rest refl)

-- a byte before
one_more :
    (b : ℕ) (bs : List ℕ) (n : ℕ) (v : Bool)
    → (b == 42) ≡ v
    → (cond v (has_comment_end (42 ∷ take n bs)) (has_comment_end (take n bs)) ≡ true
    ⊎ n ≡ length bs)
    → (has_comment_end (take (1 + n) (b ∷ bs)) ≡ true ⊎ 1 + n ≡ suc (length bs))
one_more b bs n true is (inl h) =
    let one : 1 + n ≡ suc n = omega arith in
    inl (ap (λ k. has_comment_end (take k (b ∷ bs))) one ∙ rw is h)
one_more b bs n false is (inl h) =
    let one : 1 + n ≡ suc n = omega arith in
    inl (ap (λ k. has_comment_end (take k (b ∷ bs))) one ∙ rw is h)
one_more b bs n v is (inr e) = inr (omega (arith, e))

-- The end stands there, or nowhere; so too where a `*` stands before it.
abbrev Ended : List ℕ → Type 0
Ended bs =
    (has_comment_end (take (comment_len bs) bs) ≡ true ⊎ comment_len bs ≡ length bs)
    × (has_comment_end (42 ∷ take (behind_star_len bs) bs) ≡ true
    ⊎ behind_star_len bs ≡ length bs)

-- from what stands at a front to what stands there with a `*` before it
starred :
    (b : ℕ) (bs : List ℕ) (n : ℕ)
    → (has_comment_end (take n (b ∷ bs)) ≡ true ⊎ n ≡ suc (length bs))
    → (has_comment_end (42 ∷ take n (b ∷ bs)) ≡ true ⊎ n ≡ suc (length bs))
starred b bs n (inl h) = inl (or_second _ (has_comment_end (take n (b ∷ bs))) h)
starred b bs n (inr e) = inr e

ended_first :
    (b : ℕ) (bs : List ℕ) (v : Bool)
    → Ended bs
    → (b == 42) ≡ v
    → (has_comment_end (take (1 + cond v (behind_star_len bs) (comment_len bs)) (b ∷ bs)) ≡ true
    ⊎ 1 + cond v (behind_star_len bs) (comment_len bs) ≡ suc (length bs))
ended_first b bs true rest is = one_more b bs (behind_star_len bs) true is rest.1
ended_first b bs false rest is = one_more b bs (comment_len bs) false is rest.0

-- how far a comment goes behind a `*`, by whether the next byte is `/`
abbrev starred_len : Bool → ℕ → List ℕ → ℕ
starred_len v b bs = 1 + cond v 0 (cond (b == 42) (behind_star_len bs) (comment_len bs))

ended_starred :
    (b : ℕ) (bs : List ℕ) (v : Bool)
    → Ended bs
    → (b == 47) ≡ v
    → (has_comment_end (42 ∷ take (starred_len v b bs) (b ∷ bs)) ≡ true
    ⊎ starred_len v b bs ≡ suc (length bs))
ended_starred b bs true rest is = inl (rw is refl)
ended_starred b bs false rest is =
    starred b bs (starred_len false b bs) (ended_first b bs (b == 42) rest refl)

ended : (bs : List ℕ) → Ended bs
ended [] = (inr refl, inr refl)
ended (b ∷ bs) =
    let rest = ended bs in
    (ended_first b bs (b == 42) rest refl, ended_starred b bs (b == 47) rest refl)

pub comment_rest : (bs : List ℕ) → IsCommentRest bs (comment_len bs)
comment_rest bs = ((comment_within bs).0, λ m. (short bs m).0, (ended bs).0)
