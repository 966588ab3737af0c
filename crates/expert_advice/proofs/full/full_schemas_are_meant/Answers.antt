use Rattle.expert_advice.proofs.FullSchemas.{full_are_meant}
use Rattle.expert_advice.proofs.full.full_schemas_are_meant.Goals as goal

pub returns : goal.returns
returns c = full_are_meant
