-- Parentheses, and lists with commas.
use Rattle.std.specs.Prelude.{ℕ, ◌+◌, ◌-◌, ◌==◌, ◌&&◌, Bool, cond, List, [], ◌∷◌, take, drop}
use Rattle.std.specs.Prelude.{Option, None, Some, option_map}
use Rattle.sql_tokens.specs.declared.token.Token.{Token}
use Rattle.schema_text.specs.Words.{is_mark}
use Rattle.schema_text.specs.declared.groups.Enclosed as code

-- how many parentheses are open behind a token
abbrev pub next_level : List ℕ → ℕ → Token → ℕ
next_level text level t = cond (is_mark text 40 t) (level + 1)
    (cond (is_mark text 41 t) (level - 1) level)

-- how many tokens stand before the parenthesis that closes, where so many are open
abbrev pub close_place : List ℕ → ℕ → List Token → Option ℕ
close_place text level [] = None
close_place text level (t ∷ ts) =
    cond (level == 0 && is_mark text 41 t) (Some 0)
    (option_map (λ n. n + 1) (close_place text (next_level text level t) ts))

pub record Enclosed : Type 0 where
  pub inside : List Token
  pub rest : List Token

abbrev pub seen_enclosed : code.Enclosed → Enclosed
seen_enclosed e = record { inside = e.inside.now; rest = e.rest.now }

-- what stands in the pair of parentheses that comes first, and what stands behind it
abbrev pub first_enclosed : List ℕ → List Token → Option Enclosed
first_enclosed text [] = None
first_enclosed text (t ∷ ts) =
    cond (is_mark text 40 t) (option_map (λ n. record {
      inside = take n ts;
      rest = drop (n + 1) ts;
    }) (close_place text 0 ts)) None

abbrev pub before_first : Token → List (List Token) → List (List Token)
before_first t [] = (t ∷ []) ∷ []
before_first t (part ∷ parts) = (t ∷ part) ∷ parts

abbrev pub is_comma : List ℕ → Token → Bool
is_comma text t = is_mark text 44 t

-- the parts between the commas outside inner parentheses, of which so many are open
abbrev pub parts_from : List ℕ → ℕ → List Token → List (List Token)
parts_from text level [] = [] ∷ []
parts_from text level (t ∷ ts) =
    cond (level == 0 && is_mark text 44 t) ([] ∷ parts_from text level ts)
    (before_first t (parts_from text (next_level text level t) ts))

-- the parts of a list: none where it is empty
abbrev pub parts_of : List ℕ → List Token → List (List Token)
parts_of text ts = parts_from text 0 ts
