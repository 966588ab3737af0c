use Rattle.nearest_prefixes.proofs.Keepings.{joined_all}
use Rattle.nearest_prefixes.proofs.keeping.kept_one_by_one.Goals as goal

pub returns : goal.returns
returns g c = λ rivals same nearer order n all. joined_all same order n all
