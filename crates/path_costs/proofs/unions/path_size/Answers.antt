use Rattle.std.proofs.Common.{◌≡◌, false, ap, sym, ◌∙◌, subst}
use Rattle.sql_meaning.specs.Paths.{Union}
use Rattle.plan_choice.specs.Costs.{size_of}
use Rattle.plan_choice.specs.CostLaws.{SizeWithin}
use Rattle.plan_form.specs.Paths.{branches_of, path_of}
use Rattle.plan_form.specs.Plans.{covers}
use Rattle.plan_form.proofs.SeenPaths.{path_of-Union}
use Rattle.path_costs.specs.Views.{told_size}
use Rattle.path_costs.proofs.Joining.{union_covers_nothing}
use Rattle.path_costs.proofs.unions.path_size.Goals as goal

-- the size of the union is that of the path
size_is : (c : goal.After-union_size)
    → size_of c.args.figures.now c.args.table false (Union (branches_of c.in-Union.union))
    ≡ size_of c.args.figures.now c.args.table (covers c.args.path.now) (path_of c.args.path.now)
size_is c =
    union_covers_nothing c.args.figures.now c.args.table (covers c.args.path.now)
    (branches_of c.in-Union.union)
    ∙ ap (size_of c.args.figures.now c.args.table (covers c.args.path.now))
    (sym (ap path_of c.in-Union.is ∙ path_of-Union c.in-Union.union))

pub returns-in-Union-clause-told : goal.returns-in-Union-clause-told
returns-in-Union-clause-told c = c.union_size.ensures.told ∙ ap told_size (size_is c)

pub returns-in-Union-clause-small : goal.returns-in-Union-clause-small
returns-in-Union-clause-small c = subst (SizeWithin 100709) (size_is c) c.union_size.ensures.small
