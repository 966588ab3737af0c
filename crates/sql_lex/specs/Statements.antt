-- The statements of a text.
use Rattle.std.specs.Prelude.{ℕ, zero, suc, ◌+◌, ◌-◌, Bool, not, ◌==◌, ◌&&◌, ◌||◌, cond}
use Rattle.std.specs.Prelude.{Some, List, [], ◌∷◌, ◌++◌, map, slice_get, slice_range, length}
use Rattle.std.specs.Prelude.{nat_le}
use Rattle.std.specs.List.{prefix_len}
use Rattle.sql_value.specs.declared.keywords.Keyword.TheVariants as keyword
use Rattle.sql_tokens.specs.Terminals.{terminal_of}
use Rattle.sql_tokens.specs.declared.symbols.Symbol.TheVariants as symbol
use Rattle.sql_tokens.specs.declared.terminal.Terminal.{Terminal}
use Rattle.sql_tokens.specs.declared.token.Token.{Token}
use Rattle.sql_lex.specs.Looks.{is_keyword, is_keyword_among, is_symbol}
use Rattle.sql_lex.specs.declared.statement_runs.Span.{Span}

-- no `;`
abbrev pub is_inner : Terminal → Bool
is_inner t = not (is_symbol symbol.Semicolon (Some t))

-- CREATE, TEMP or TEMPORARY or neither, and TRIGGER
unfoldable pub begins_trigger : List Terminal → Bool
begins_trigger ts =
    let second = slice_get ts 1 in
    is_keyword keyword.Create (slice_get ts 0)
    && (is_keyword keyword.Trigger second
    || (is_keyword_among (keyword.Temp ∷ keyword.Temporary ∷ []) second
    && is_keyword keyword.Trigger (slice_get ts 2)))

-- a `;`, END and the `;` that closes
unfoldable pub ends_trigger : List Terminal → Bool
ends_trigger ts =
    is_symbol symbol.Semicolon (slice_get ts 0)
    && is_keyword keyword.End (slice_get ts 1)
    && is_symbol symbol.Semicolon (slice_get ts 2)

-- how many tokens there are up to the first END that stands between two `;`
unfoldable pub trigger_len : List Terminal → ℕ
trigger_len [] = 0
trigger_len (t ∷ ts) = cond (ends_trigger (t ∷ ts)) 2 (1 + trigger_len ts)

-- how many tokens the run has that begins here, without the `;` that closes it
unfoldable pub run_len : List Terminal → ℕ
run_len ts = cond (begins_trigger ts) (trigger_len ts) (prefix_len is_inner ts)

-- a run of so many tokens, unless it is empty
abbrev pub spans_of_run : ℕ → ℕ → List Span
spans_of_run start run = cond (run == 0) [] (record { first = start; end = start + run } ∷ [])

-- The statements from this place on, of which the first `inside` tokens belong to a run before.
unfoldable pub spans_from : ℕ → ℕ → List Terminal → List Span
spans_from inside place [] = []
spans_from zero place (t ∷ ts) =
    let run = run_len (t ∷ ts) in
    spans_of_run place run ++ spans_from (run - 1) (place + 1) ts
spans_from (suc inside) place (t ∷ ts) = spans_from inside (place + 1) ts

-- the statements of a text with these tokens
unfoldable pub statements_of : List ℕ → List Token → List Span
statements_of text tokens = spans_from 0 0 (map (terminal_of text) tokens)

-- the tokens of a run
abbrev pub run_of : List Token → Span → List Token
run_of tokens span =
    cond (nat_le span.first span.end && nat_le span.end (length tokens))
    (slice_range tokens span.first span.end) []
