-- The numbers of parameters (lang_expr, "parameters").
use Rattle.std.specs.Prelude.{ℕ, ◌+◌, ◌==◌, max, Bool, cond, Option, None, Some, unwrap_or, List}
use Rattle.std.specs.Prelude.{[], ◌∷◌, ◌++◌, nat_eq}
use Rattle.std.specs.Cmp.Lexicographic.{pointwise}
use Rattle.sql_meaning.specs.Numbers.{digits_up_to}
use Rattle.sql_tokens.specs.Pieces.{most_parameters}

-- The parameters met so far: the greatest number, and the names, each with its number.
pub record Met : Type 0 where
  pub greatest : ℕ
  pub named : List (List ℕ × ℕ)

abbrev pub no_parameters : Met
no_parameters = record { greatest = 0; named = [] }

abbrev pub is_name : List ℕ → List ℕ → Bool
is_name wanted name = pointwise nat_eq wanted name

-- the number that the same bytes had before
abbrev pub number_named : List ℕ → List (List ℕ × ℕ) → Option ℕ
number_named name [] = None
number_named name (p ∷ ps) = cond (is_name name p.0) (Some p.1) (number_named name ps)

-- `?` alone, `?` before digits, or a name
pub data Form : Type 0 where
  next : Form
  numbered : List ℕ → Form
  named : List ℕ → Form

unfoldable pub form_of : List ℕ → Form
form_of [] = named []
form_of (b ∷ []) = cond (b == 63) next (named (b ∷ []))
form_of (b ∷ d ∷ ds) = cond (b == 63) (numbered (d ∷ ds)) (named (b ∷ d ∷ ds))

abbrev pub number_by : Met → Form → Option ℕ
number_by met next = Some (met.greatest + 1)
number_by met (numbered digits) = digits_up_to most_parameters digits
number_by met (named name) = Some (unwrap_or (number_named name met.named) (met.greatest + 1))

-- `?n` is n; `?` is one more than the greatest number so far; a name has the number that it had
-- before, else one more than the greatest so far.
unfoldable pub parameter_number : Met → List ℕ → Option ℕ
parameter_number met bytes = number_by met (form_of bytes)

-- with a parameter of this number
abbrev pub raised : Met → Option ℕ → Met
raised met None = met
raised met (Some n) = record { greatest = max met.greatest n; named = met.named }

abbrev pub with_name : Met → List ℕ → Option ℕ → Met
with_name met name (Some n) = met
with_name met name None = record {
  greatest = met.greatest + 1;
  named = met.named ++ (name, met.greatest + 1) ∷ [];
}

abbrev pub met_by_form : Met → Form → Met
met_by_form met next = record { greatest = met.greatest + 1; named = met.named }
met_by_form met (numbered digits) = raised met (digits_up_to most_parameters digits)
met_by_form met (named name) = with_name met name (number_named name met.named)

-- the parameters met once this one is passed
unfoldable pub met_behind : Met → List ℕ → Met
met_behind met bytes = met_by_form met (form_of bytes)
