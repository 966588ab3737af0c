use Rattle.sql_tokens.specs.Terminals.{terminal_of}
use Rattle.sql_lex.specs.Depth.{depth_step_of}
use Rattle.sql_lex.proofs.Fronts.{step_seen}
use Rattle.sql_lex.proofs.depth.step_at.Goals as goal

pub returns : goal.returns
returns c =
    step_seen depth_step_of (terminal_of c.args.text.now) c.args.tokens.now c.args.place _ _ _ _
    c.requires c.terminal_at.ensures c.step_of.ensures
