use Rattle.std.proofs.Common.{ap, ◌∙◌, map, refl}
use Rattle.schema_model.proofs.NameKeys.{added}
use Rattle.schema_model.proofs.names.Names.add.Goals as goal

pub returns-clause-ok : goal.returns-clause-ok
returns-clause-ok c =
    ap (map (λ v. v.items)) c.in_ok-insert.ensures.keys
    ∙ added c.self.inside.keys.keys c.in_ok-key.key
    (rw (c.self.view_is, c.in_ok-key.ensures) c.requires)
    ∙ rw (c.self.view_is, c.in_ok-key.ensures) refl
