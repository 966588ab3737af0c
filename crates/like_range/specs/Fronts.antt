-- What is left of a text and of its pattern, once their fronts fit. 37 is a percent sign.
use Rattle.std.specs.Prelude.{◌≡◌, ℕ, Bool, true, ◌==◌, List, [], ◌∷◌}
use Rattle.sql_meaning.specs.Likes.{like}

pub record Leaves (text pattern rest behind : List ℕ) : Type 0 where
  pub same : like text pattern ≡ like rest behind
  -- and no later place in the text leaves more of it
  pub later : like text (37 ∷ pattern) ≡ true → like rest (37 ∷ behind) ≡ true

abbrev pub is_at_percent : List ℕ → Bool
is_at_percent [] = true
is_at_percent (c ∷ cs) = c == 37
