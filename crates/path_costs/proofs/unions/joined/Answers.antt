use Rattle.std.proofs.Common.{rules, ap, ap₂}
use Rattle.path_costs.specs.declared.cost.Size.{Size}
use Rattle.path_costs.proofs.Casts.{size, told_back}
use Rattle.path_costs.proofs.unions.joined.Goals as goal

pub returns : goal.returns
returns c = λ x y first second.
    ap₂ size
    (told_back c.log_add.result _ (search rules)
    (c.log_add.ensures.numbers x.run y.run
    (told_back c.args.a.run x.run (search rules) (ap (λ (s : Size). s.run) first))
    (told_back c.args.b.run y.run (search rules) (ap (λ (s : Size). s.run) second))))
    (told_back c.log_add-2.result _ (search rules)
    (c.log_add-2.ensures.numbers x.entries y.entries
    (told_back c.args.a.entries x.entries (search rules) (ap (λ (s : Size). s.entries) first))
    (told_back c.args.b.entries y.entries (search rules) (ap (λ (s : Size). s.entries) second))))
