use Rattle.std.proofs.Common.{sym, ◌∙◌}
use Rattle.sql_meaning.proofs.Scaled.{scaled_cmp}
use Rattle.sql_value.proofs.order.compare_ints.Goals as goal

pub returns : goal.returns
returns c = c.cmp.ensures ∙ sym (scaled_cmp c.args.left.now c.args.right.now)
