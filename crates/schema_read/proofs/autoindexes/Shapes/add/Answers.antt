use Rattle.std.proofs.Common.{ap, ◌∙◌, map, refl}
use Rattle.schema_model.proofs.NameKeys.{added}
use Rattle.schema_read.proofs.autoindexes.Shapes.add.Goals as goal

pub returns : goal.returns
returns c =
    ap (map (λ v. v.items)) c.in_ok-insert.ensures.keys
    ∙ added c.self.inside.held.keys c.args.shape (rw c.self.view_is c.requires)
    ∙ rw c.self.view_is refl
