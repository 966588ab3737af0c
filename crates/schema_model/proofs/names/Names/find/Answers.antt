use Rattle.std.proofs.Common.{position, ap, sym, ◌∙◌}
use Rattle.schema_model.specs.Names.{is_name}
use Rattle.schema_model.proofs.NameKeys.{position-map}
use Rattle.schema_model.proofs.names.Names.find.Goals as goal

pub returns : goal.returns
returns c = c.get_index_of.ensures.index
    ∙ sym (position-map (λ v. v.items) (is_name c.args.folded.now) _)
    ∙ ap (position (is_name c.args.folded.now)) c.self.view_is
