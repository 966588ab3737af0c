use Rattle.stat_figures.proofs.Names.{not_same}
use Rattle.stat_figures.proofs.words.is_same_name.Goals as goal

pub returns-then-left-right : goal.returns-then-left-right
returns-then-left-right c = not_same c.args.left.now c.args.right.now c.if-left-right.true
