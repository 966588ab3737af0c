-- Words that are lent, as plain data.
use Rattle.std.specs.Prelude.{ℕ, List, [], ◌∷◌, ◌++◌, map}
use denote.Ref.{Bor}

abbrev pub lent_words : List (Bor (List ℕ)) → List (List ℕ)
lent_words words = map (λ word. word.now) words

-- words whose first one goes on
abbrev pub behind_start : List ℕ → List (List ℕ) → List (List ℕ)
behind_start start [] = start ∷ []
behind_start start (word ∷ words) = (start ++ word) ∷ words
