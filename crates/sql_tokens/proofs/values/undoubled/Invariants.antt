use Rattle.std.proofs.Common.{◌≡◌, ◌++◌, cond, drop}
use Rattle.sql_tokens.specs.TokenValues.{undoubled, undoubled_behind}
use Rattle.sql_tokens.proofs.values.undoubled.Given as goal

abbrev pub invariant-loop-byte : goal.invariant-loop-byte
invariant-loop-byte l =
    let rest = drop l.byte-index l.inside in
    l.value ++ cond l.behind_quote (undoubled_behind l.quote rest) (undoubled l.quote rest)
    ≡ undoubled l.quote l.inside
