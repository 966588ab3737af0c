use Rattle.std.proofs.Common.{refl}
use Rattle.sql_read.specs.Lexemes.{seen}
use Rattle.sql_lexemes.proofs.TokenSteps.{goes_on}
use Rattle.sql_lexemes.proofs.token_lexemes.lexemes.Goals as goal

pub loop-token-init : goal.loop-token-init
unfolding seen
loop-token-init c = rw (c.in_ok-list.ensures.items, c.new-met.ensures) refl

pub loop-token-preserved : goal.loop-token-preserved
loop-token-preserved c =
    goes_on c.args.text.now c.loop-token.met _ c.loop-token.list.items _ c.in_ok-lexeme.lexeme
    c.args.tokens.now
    c.loop-token.token-index _ c.loop-token-test.true c.in_ok-lexeme.ensures c.in_ok-push.ensures.ok
    _
    c.loop-token.invariant
