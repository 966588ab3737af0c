-- How deep a statement nests.
use Rattle.std.specs.Prelude.{ℕ, zero, suc, ◌+◌, ◌-◌, ◌≤◌, max, Bool, true, false, ◌||◌, cond}
use Rattle.std.specs.Prelude.{Option, Some, List, [], ◌∷◌, map, slice_index_or}
use Rattle.sql_value.specs.declared.keywords.Keyword.TheVariants as keyword
use Rattle.sql_tokens.specs.Terminals.{terminal_of}
use Rattle.sql_tokens.specs.declared.symbols.Symbol.TheVariants as symbol
use Rattle.sql_tokens.specs.declared.terminal.Terminal.{Terminal}
use Rattle.sql_tokens.specs.declared.token.Token.{Token}
use Rattle.sql_lex.specs.Looks.{is_keyword, is_keyword_among, is_symbol}
use Rattle.sql_lex.specs.declared.depth.DepthStep.{DepthStep}
use Rattle.sql_lex.specs.declared.depth.DepthStep.TheVariants as step
use Rattle.sql_lex.specs.declared.depth.Level.{Level}

-- how deep a statement may nest
abbrev pub depth_limit : ℕ
depth_limit = 200

-- words behind which an expression begins anew
unfoldable pub begins_anew : Option Terminal → Bool
begins_anew there =
    is_keyword_among
    (keyword.Or ∷ keyword.Select ∷ keyword.From ∷ keyword.Where ∷ keyword.On ∷ keyword.By
    ∷ keyword.Set ∷ keyword.Limit ∷ keyword.Offset ∷ [])
    there

-- what a token is to the depth
unfoldable pub depth_step_of : Terminal → DepthStep
depth_step_of t =
    cond (is_symbol symbol.OpenParenthesis (Some t)) step.Open
    (cond (is_symbol symbol.CloseParenthesis (Some t)) step.Close
    (cond (is_symbol symbol.Plus (Some t) || is_keyword keyword.Not (Some t)) step.Deeper
    (cond (is_keyword keyword.Between (Some t)) step.Between
    (cond (is_keyword keyword.And (Some t)) step.And
    (cond (is_symbol symbol.Comma (Some t) || begins_anew (Some t)) step.Reset step.Other)))))

abbrev pub depth_steps : List ℕ → List Token → List DepthStep
depth_steps text tokens = map depth_step_of (map (terminal_of text) tokens)

abbrev pub base_level : Level
base_level = record { count = 0; waits = false }

-- the first n of these, the last first
abbrev pub stack_of : List Level → ℕ → List Level
stack_of levels zero = []
stack_of levels (suc n) = slice_index_or levels n base_level ∷ stack_of levels n

abbrev pub total : List Level → ℕ
total [] = 0
total (l ∷ ls) = l.count + total ls

abbrev pub raised : Level → Level
raised l = record { count = l.count + 1; waits = l.waits }

-- an AND: the first behind a BETWEEN changes nothing
abbrev pub answered : Level → Level
answered l = record { count = cond l.waits l.count 0; waits = false }

-- a parenthesis closes: its level goes, and that below takes back what it counted
abbrev pub closed : Level → List Level → List Level
closed l [] = l ∷ []
closed l (k ∷ ls) = record { count = k.count - 1; waits = k.waits } ∷ ls

-- the stack behind a token, the innermost level first
abbrev pub next_levels : DepthStep → List Level → List Level
next_levels m [] = []
next_levels step.Open (l ∷ ls) = base_level ∷ raised l ∷ ls
next_levels step.Close (l ∷ ls) = closed l ls
next_levels step.Deeper (l ∷ ls) = raised l ∷ ls
next_levels step.Between (l ∷ ls) = record { count = l.count; waits = true } ∷ ls
next_levels step.And (l ∷ ls) = answered l ∷ ls
next_levels step.Reset (l ∷ ls) = record { count = 0; waits = l.waits } ∷ ls
next_levels step.Other (l ∷ ls) = l ∷ ls

-- the greatest sum behind any of the tokens
unfoldable pub depth_from : List Level → List DepthStep → ℕ
depth_from ls [] = 0
depth_from ls (m ∷ ms) = let next = next_levels m ls in max (total next) (depth_from next ms)

-- the greatest sum of the levels behind any token of a statement
unfoldable pub depth_of : List ℕ → List Token → ℕ
depth_of text tokens = depth_from (base_level ∷ []) (depth_steps text tokens)

-- each level below the top has counted its parenthesis
abbrev pub AllCounted : List Level → Type 0
AllCounted [] = Unit {0}
AllCounted (l ∷ ls) = (1 ≤ l.count) × AllCounted ls

unfoldable pub IsBased : List Level → Type 0
IsBased [] = Unit {0}
IsBased (l ∷ ls) = AllCounted ls
