use Rattle.std.proofs.Common.{ap, sym, ◌∙◌}
use Rattle.std.specs.List.{list_any}
use Rattle.schema_model.specs.Names.{is_name}
use Rattle.schema_model.proofs.NameKeys.{list_any-map}
use Rattle.schema_model.proofs.names.Names.has.Goals as goal

pub returns : goal.returns
returns c = c.contains.ensures ∙ sym (list_any-map (λ v. v.items) (is_name c.args.folded.now) _)
    ∙ ap (list_any (is_name c.args.folded.now)) c.self.view_is
