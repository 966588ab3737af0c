use Rattle.sql_bound.proofs.Bits.{one_moved}
use Rattle.sql_bound.proofs.placed.with_item.Goals as goal

pub returns : goal.returns
returns c = λ items p. one_moved c.args.placed c.args.item 64 items c.requires p
