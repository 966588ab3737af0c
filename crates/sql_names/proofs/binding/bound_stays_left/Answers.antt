use Rattle.sql_names.proofs.Stays.{bound_stays}
use Rattle.sql_names.proofs.binding.bound_stays_left.Goals as goal

pub returns : goal.returns
returns c = bound_stays
