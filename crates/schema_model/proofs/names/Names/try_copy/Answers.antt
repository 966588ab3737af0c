use Rattle.std.proofs.Common.{◌∙◌}
use Rattle.schema_model.proofs.NameKeys.{clones}
use Rattle.schema_model.proofs.names.Names.try_copy.Goals as goal

pub returns : goal.returns
returns c = clones c.self.inside.keys.keys c.in_ok-clone.field-0.keys c.in_ok-clone.ensures.cases
    ∙ c.self.view_is
