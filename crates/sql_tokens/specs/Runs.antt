-- How long the runs are that no single test of a byte ends.
use Rattle.std.specs.Prelude.{ℕ, ◌+◌, Bool, false, Option, None, Some, option_map}
use Rattle.std.specs.Prelude.{List, [], ◌∷◌, ◌==◌, cond}

abbrev pub begins : ℕ → List ℕ → Bool
begins b [] = false
begins b (c ∷ cs) = c == b

-- The bytes up to and with the quote that closes, where a quote is doubled inside; none where
-- nothing closes. The first is for a place inside, the second for the place behind a quote.
abbrev mutual
  pub inside_len : ℕ → List ℕ → Option ℕ
  inside_len q [] = None
  inside_len q (b ∷ bs) =
      option_map (λ n. n + 1) (cond (b == q) (behind_quote_len q bs) (inside_len q bs))

  pub behind_quote_len : ℕ → List ℕ → Option ℕ
  behind_quote_len q [] = Some 0
  behind_quote_len q (b ∷ bs) =
      cond (b == q) (option_map (λ n. n + 1) (inside_len q bs)) (Some 0)

-- The bytes up to and with the next `*/`, or all. The second is for the place behind a `*`.
abbrev mutual
  pub comment_len : List ℕ → ℕ
  comment_len [] = 0
  comment_len (b ∷ bs) = 1 + cond (b == 42) (behind_star_len bs) (comment_len bs)

  pub behind_star_len : List ℕ → ℕ
  behind_star_len [] = 0
  behind_star_len (b ∷ bs) =
      1 + cond (b == 47) 0 (cond (b == 42) (behind_star_len bs) (comment_len bs))
