use Rattle.std.proofs.Common.{◌≡◌, drop, map}
use Rattle.std.specs.Prelude.{slice_get}
use Rattle.std.specs.List.{find}
use Rattle.std.specs.Option.{option_or}
use Rattle.sql_tokens.specs.Terminals.{terminal_of}
use Rattle.sql_lex.specs.Patterns.{fits}
use Rattle.sql_lex.specs.Contexts.{context_of, somewhere}
use Rattle.sql_lex.proofs.FirstFitting.{first_in}
use Rattle.sql_lex.proofs.first_construct.first_standing.Given as goal

abbrev pub invariant-loop-number : goal.invariant-loop-number
invariant-loop-number l =
    let seen = map (terminal_of l.text) l.tokens in
    let first = slice_get seen 0 in
    record {
      context : l.context ≡ context_of first l.context.before (drop l.number seen);
      same :
          option_or (first_in first l.context.before (drop l.number seen) l.wanted) l.found
          ≡ find (λ f. somewhere (fits f) seen) l.constructs;
    }
