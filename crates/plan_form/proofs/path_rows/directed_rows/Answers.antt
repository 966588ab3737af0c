use Rattle.std.proofs.Common.{◌∙◌, ap, ap₂, sym, subst, List}
use Rattle.sql_meaning.specs.Paths.{Path}
use Rattle.sql_meaning.specs.Plans.{directed_walk}
use Rattle.sql_eval.specs.Environments.{assignment_of, params_of}
use Rattle.plan_form.specs.LoopRows.{branch_rows, kept_rows}
use Rattle.plan_form.specs.SortedLists.{AreListsOf}
use Rattle.plan_form.proofs.path_rows.directed_rows.Goals as goal

pub returns : goal.returns
returns c = λ schema rows along.
    let env = c.args.env.now in
    c.directed.ensures
    ∙ ap (directed_walk c.args.each.now.reverse)
    (c.in_ok-kept.ensures
    ∙ ap₂ kept_rows c.is_union.ensures
    (c.in_ok-rows.ensures schema rows
    (subst (λ (ps : List Path). AreListsOf schema rows ps c.args.lists.now)
    (sym c.walked_paths.ensures) along)
    ∙ ap (λ ps. branch_rows schema (params_of env) ps rows (assignment_of env))
    c.walked_paths.ensures))
