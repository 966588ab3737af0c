-- What stands first behind a place, and what is seen there.
use Rattle.std.proofs.Common.{◌≡◌, ℕ, suc, ◌+◌, ◌<◌, List, ◌∷◌, length, map, drop, drop-cons}
use Rattle.std.proofs.Common.{get_or, add-one, ap, sym, ◌∙◌, arith}
use Rattle.std.proofs.lemmas.List.{get_or-map, length-map}
use Rattle.sql_tokens.specs.declared.terminal.Terminal.{Terminal}
use Rattle.sql_tokens.specs.declared.terminal.Terminal.TheVariants as terminal
use Rattle.sql_tokens.specs.declared.token.Token.{Token}

pub first_behind : {X : Type 0} (xs : List X) (i : ℕ) (other x : X) → i < length xs
    → x ≡ get_or xs i other → drop i xs ≡ x ∷ drop (i + 1) xs
first_behind xs i other x lt is =
    drop-cons xs i other lt
    ∙ ap (λ y. y ∷ drop (suc i) xs) (sym is)
    ∙ ap (λ k. x ∷ drop k xs) (sym (add-one i))

-- what a token is to a pass over all of them
pub step_seen :
    {X : Type 0} (step_of : Terminal → X) (see : Token → Terminal) (tokens : List Token) (i : ℕ)
    (other : X) (token : Token) (t : Terminal) (step : X)
    → i < length tokens
    → t ≡ see (get_or tokens i token)
    → step ≡ step_of t
    → step ≡ get_or (map step_of (map see tokens)) i other
step_seen step_of see tokens i other token t step lt at is =
    let n = length-map tokens see in
    is
    ∙ ap step_of (at ∙ sym (get_or-map see tokens i token terminal.Bad lt))
    ∙ sym (get_or-map step_of (map see tokens) i terminal.Bad other (omega (arith, n)))
