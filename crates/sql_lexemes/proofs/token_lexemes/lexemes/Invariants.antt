use Rattle.std.proofs.Common.{◌≡◌, ◌++◌, drop}
use Rattle.sql_read.specs.Lexemes.{seen}
use Rattle.sql_lexemes.specs.TokenLexemes.{lexemes_from, lexemes_of}
use Rattle.sql_lexemes.proofs.token_lexemes.lexemes.Given as goal

abbrev pub invariant-loop-token : goal.invariant-loop-token
invariant-loop-token l =
    seen l.list.items ++ lexemes_from l.text l.met (drop l.token-index l.tokens)
    ≡ lexemes_of l.text l.tokens
