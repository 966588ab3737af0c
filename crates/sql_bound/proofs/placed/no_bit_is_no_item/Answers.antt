use Rattle.sql_bound.proofs.Bits.{no_item}
use Rattle.sql_bound.proofs.placed.no_bit_is_no_item.Goals as goal

pub returns : goal.returns
returns c = no_item
