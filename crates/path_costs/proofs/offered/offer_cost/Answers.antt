use Rattle.std.proofs.Common.{ap, sym, ◌∙◌, not}
use Rattle.std.specs.Prelude.{count_by}
use Rattle.sql_meaning.specs.Statements.{has_number}
use Rattle.plan_choice.specs.Costs.{thinned}
use Rattle.path_costs.specs.Views.{told_cost}
use Rattle.path_costs.proofs.DueLists.{tested_is}
use Rattle.path_costs.proofs.offered.offer_cost.Goals as goal

pub returns : goal.returns
returns c = λ z placed item conjuncts told due.
    c.thinned.ensures z told
    ∙ ap (λ n. told_cost (thinned z n))
    (c.tested_count.ensures
    ∙ ap (count_by (λ n. not (has_number n c.args.consumed.now))) due
    ∙ sym (tested_is c.args.consumed.now placed item 0 conjuncts))
