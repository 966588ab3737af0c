use Rattle.std.proofs.Common.{◌+◌, ap, ◌∙◌, subst, sym}
use Rattle.sql_meaning.specs.Paths.{Path}
use Rattle.plan_choice.specs.Advice.{path_uses}
use Rattle.plan_choice.specs.CostLaws.{IsFlat}
use Rattle.plan_form.specs.Paths.{path_of}
use Rattle.plan_form.proofs.SeenPaths.{path_of-Union}
use Rattle.expert_advice.specs.Uses.{Marks}
use Rattle.expert_advice.proofs.marks.mark_path.Goals as goal

pub mark_branches-requires : goal.mark_branches-requires
mark_branches-requires c =
    subst IsFlat (ap path_of c.in-Union.is ∙ path_of-Union c.in-Union.union) c.requires

pub returns-in-Union : goal.returns-in-Union
returns-in-Union c =
    subst (λ (p : Path). Marks c.args.uses.now c.mark_branches.new.uses
    (λ n. path_uses (c.args.own + n) p))
    (sym (ap path_of c.in-Union.is ∙ path_of-Union c.in-Union.union)) c.mark_branches.ensures
