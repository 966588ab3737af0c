use Rattle.std.proofs.Common.{ap, sym, ◌∙◌, nat_eq}
use Rattle.std.specs.Cmp.Lexicographic.{pointwise}
use Rattle.schema_model.proofs.NameKeys.{list_any-map}
use Rattle.schema_read.specs.Autoindexes.{has_shape}
use Rattle.schema_read.proofs.autoindexes.Shapes.has.Goals as goal

pub returns : goal.returns
returns c =
    c.contains.ensures ∙ sym
    (list_any-map (λ v. v.items) (λ other. pointwise nat_eq c.args.shape.now other) _)
    ∙ ap (has_shape c.args.shape.now) c.self.view_is
