use Rattle.std.proofs.Common.{◌≡◌, Bool, Some, drop, map}
use Rattle.std.specs.List.{list_any}
use Rattle.sql_value.specs.declared.keywords.Keyword.TheVariants as keyword
use Rattle.sql_tokens.specs.Terminals.{terminal_of}
use Rattle.sql_tokens.specs.declared.terminal.Terminal.{Terminal}
use Rattle.sql_lex.specs.Looks.{is_keyword}
use Rattle.sql_lex.proofs.first_construct.has_from.Given as goal

abbrev pub invariant-loop-token : goal.invariant-loop-token
invariant-loop-token l =
    let is_from : Terminal → Bool = λ t. is_keyword keyword.From (Some t) in
    list_any is_from (map (terminal_of l.text) l.tokens)
    ≡ list_any is_from (map (terminal_of l.text) (drop l.token-index l.tokens))
