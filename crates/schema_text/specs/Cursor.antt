-- Reading tokens from the front.
use Rattle.std.specs.Prelude.{ℕ, ◌&&◌, cond, codes, List, [], ◌∷◌, Option, None, Some, unwrap_or}
use Rattle.std.specs.Prelude.{option_and_then}
use Rattle.sql_tokens.specs.declared.token.Token.{Token}
use Rattle.schema_text.specs.Words.{is_word, is_mark, is_name}
use Rattle.schema_text.specs.declared.cursor.NameAndRest as code

pub record NameAndRest : Type 0 where
  pub name : Token
  pub rest : List Token

abbrev pub seen_named : code.NameAndRest → NameAndRest
seen_named named = record { name = named.name; rest = named.rest.now }

abbrev pub after_word : List ℕ → List ℕ → List Token → Option (List Token)
after_word text word [] = None
after_word text word (t ∷ ts) = cond (is_word text word t) (Some ts) None

-- behind a word that may come first
abbrev pub past_word : List ℕ → List ℕ → List Token → List Token
past_word text word ts = unwrap_or (after_word text word ts) ts

abbrev pub past_temporary : List ℕ → List Token → List Token
past_temporary text ts = unwrap_or (after_word text (codes "temp") ts)
    (past_word text (codes "temporary") ts)

abbrev pub after_if_not_exists : List ℕ → List Token → Option (List Token)
after_if_not_exists text ts =
    option_and_then (λ a. option_and_then (λ b. after_word text (codes "exists") b)
    (after_word text (codes "not") a)) (after_word text (codes "if") ts)

abbrev pub past_if_not_exists : List ℕ → List Token → List Token
past_if_not_exists text ts = unwrap_or (after_if_not_exists text ts) ts

abbrev pub first_name : List Token → Option NameAndRest
first_name [] = None
first_name (t ∷ ts) = cond (is_name t) (Some (record { name = t; rest = ts })) None

-- behind a schema's name and a point
abbrev pub past_qualifier : List ℕ → List Token → List Token
past_qualifier text (a ∷ b ∷ ts) = cond (is_name a && is_mark text 46 b) ts (a ∷ b ∷ ts)
past_qualifier text ts = ts

abbrev pub qualified_name : List ℕ → List Token → Option NameAndRest
qualified_name text ts = first_name (past_qualifier text ts)
