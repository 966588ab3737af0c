-- Commas in parentheses that aren't the list of an IN.
use Rattle.std.specs.Prelude.{◌≡◌, ℕ, ◌+◌, ◌-◌, ◌<◌, ◌≤◌, Bool, true, false, not, ◌&&◌, ◌||◌}
use Rattle.std.specs.Prelude.{nat_le, nat_lt, max, cond, Some, List, [], ◌∷◌, map, length}
use Rattle.std.specs.Prelude.{slice_index_or}
use Rattle.sql_value.specs.declared.keywords.Keyword.TheVariants as keyword
use Rattle.sql_tokens.specs.Terminals.{terminal_of}
use Rattle.sql_tokens.specs.declared.symbols.Symbol.TheVariants as symbol
use Rattle.sql_tokens.specs.declared.terminal.Terminal.{Terminal}
use Rattle.sql_tokens.specs.declared.token.Token.{Token}
use Rattle.sql_lex.specs.Looks.{is_keyword, is_symbol}
use Rattle.sql_lex.specs.declared.row_values.RowStep.{RowStep}
use Rattle.sql_lex.specs.declared.row_values.RowStep.TheVariants as step
use Rattle.sql_lex.specs.declared.row_values.Window.{Window}

-- what a token is to the parentheses
unfoldable pub step_of : Terminal → RowStep
step_of t =
    cond (is_symbol symbol.OpenParenthesis (Some t)) step.Open
    (cond (is_symbol symbol.CloseParenthesis (Some t)) step.Close
    (cond (is_symbol symbol.Comma (Some t)) step.Comma
    (cond (is_keyword keyword.In (Some t)) step.In step.Other)))

abbrev pub row_steps : List ℕ → List Token → List RowStep
row_steps text tokens = map step_of (map (terminal_of text) tokens)

-- For each open parenthesis, the innermost first, whether it stands directly behind IN; and
-- whether the last token was IN.
pub record State : Type 0 where
  pub stack : List Bool
  pub after : Bool

abbrev pub start : State
start = record { stack = []; after = false }

abbrev pub is_in : RowStep → Bool
is_in step.In = true
is_in _ = false

abbrev pub next_stack : RowStep → List Bool → Bool → List Bool
next_stack step.Open bs a = a ∷ bs
next_stack step.Close [] a = []
next_stack step.Close (b ∷ bs) a = bs
next_stack step.Comma bs a = bs
next_stack step.In bs a = bs
next_stack step.Other bs a = bs

abbrev pub next_state : RowStep → State → State
next_state m s = record { stack = next_stack m s.stack s.after; after = is_in m }

-- the innermost parenthesis is one from number `base` on, and doesn't stand behind IN
abbrev pub top_from : ℕ → List Bool → Bool
top_from base [] = false
top_from base (b ∷ bs) = nat_le base (length bs) && not b

abbrev pub counts : ℕ → State → RowStep → Bool
counts base s step.Comma = top_from base s.stack
counts base s _ = false

unfoldable pub any_from : ℕ → State → List RowStep → Bool
any_from base s [] = false
any_from base s (m ∷ ms) = counts base s m || any_from base (next_state m s) ms

-- a comma stands in parentheses of which the innermost doesn't stand directly behind IN
unfoldable pub has_row_value : List Terminal → Bool
has_row_value ts = any_from 0 start (map step_of ts)

-- how many open parentheses a window knows
abbrev pub room : ℕ
room = 16384

-- the innermost parenthesis is one of those in the window from number `base` on, and doesn't stand
-- behind IN
abbrev pub top_counts : ℕ → List Bool → Bool
top_counts base [] = false
top_counts base (b ∷ bs) = nat_le base (length bs) && nat_lt (length bs) (base + room) && not b

abbrev pub finds : ℕ → State → RowStep → Bool
finds base s step.Comma = top_counts base s.stack
finds base s _ = false

unfoldable pub row_from : ℕ → State → List RowStep → Bool
row_from base s [] = false
row_from base s (m ∷ ms) = finds base s m || row_from base (next_state m s) ms

unfoldable pub row_in : ℕ → List RowStep → Bool
row_in base ms = row_from base start ms

-- the window knows each parenthesis that it has room for
abbrev pub Kept : ℕ → List Bool → List Bool → Type 0
Kept base known [] = Unit {0}
Kept base known (b ∷ bs) =
    (base ≤ length bs → length bs < base + room
    → slice_index_or known (length bs - base) false ≡ b)
    × Kept base known bs

pub record Follows (w : Window) (s : State) : Type 0 where
  pub depth : w.depth ≡ length s.stack
  pub after : w.after_in ≡ s.after
  pub kept : Kept w.base w.behind_in s.stack

abbrev pub depth_behind : RowStep → ℕ → ℕ
depth_behind step.Open d = d + 1
depth_behind step.Close d = d - 1
depth_behind _ d = d

-- the greatest number of open parentheses behind a token, or d
unfoldable pub deepest_of : ℕ → List RowStep → ℕ
deepest_of d [] = d
deepest_of d (m ∷ ms) = max d (deepest_of (depth_behind m d) ms)
