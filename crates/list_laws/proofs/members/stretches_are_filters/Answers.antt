use Rattle.list_laws.proofs.Stretches.{stretch_is}
use Rattle.list_laws.proofs.members.stretches_are_filters.Goals as goal

pub returns : goal.returns
returns g c = stretch_is
