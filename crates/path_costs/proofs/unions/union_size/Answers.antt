use Rattle.std.proofs.Common.{rules, ◌≤◌, ◌-◌, false, ap, ap₂, sym, ◌∙◌, subst, map, length}
use Rattle.std.proofs.Common.{drop, get_or, take, min, arith, pos, w32}
use Rattle.std.proofs.lemmas.Int.{to_z_pos}
use Rattle.sql_meaning.specs.Paths.{Union}
use Rattle.plan_choice.specs.Costs as meant
use Rattle.plan_choice.specs.Figures.{table_rows}
use Rattle.plan_choice.proofs.CostBounds.{size_small}
use Rattle.plan_form.specs.Paths.{branches_of, path_of, paths}
use Rattle.plan_form.specs.declared.path.Path.{Path}
use Rattle.plan_form.specs.declared.path.Path.TheVariants.{TableScan}
use denote.Ref.{Bor}
use Rattle.path_costs.specs.declared.cost.Size.{Size}
use Rattle.path_costs.specs.Views.{told_size}
use Rattle.path_costs.proofs.Casts.{least_told, size, told_back}
use Rattle.path_costs.proofs.Joining.{first_more}
use Rattle.path_costs.proofs.unions.union_size.Goals as goal

pub returns-clause-told : goal.returns-clause-told
returns-clause-told c =
    let figures = c.args.figures.now in
    let table = c.args.table in
    let branches = c.args.union.now.branches.now in
    let none : Bor Path = record { ref_ptr = (0, 0); now = TableScan } in
    let all = meant.sizes_from figures table
    (meant.size_of figures table false (path_of (get_or branches 0 none).now))
    (paths (map (λ branch. path_of branch.now) (take (length branches - 1) (drop 1 branches)))) in
    let small = c.table_rows-rows.ensures.small in
    ap₂ size
    (told_back c.joined_all-size.result.run all.run (search rules)
    (ap (λ (s : Size). s.run) c.joined_all-size.ensures))
    (told_back c.min.result (min (table_rows figures table) all.entries) (search rules)
    (least_told c.min.result _ _ (table_rows figures table) all.entries c.min.ensures.value
    (to_z_pos w32 c.table_rows-rows.result (omega (arith, small))
    ∙ ap pos c.table_rows-rows.ensures.told)
    (told_back c.joined_all-size.result.entries all.entries (search rules)
    (ap (λ (s : Size). s.entries) c.joined_all-size.ensures))))
    ∙ ap (λ ps. told_size (meant.size_of figures table false (Union ps)))
    (sym (first_more branches none c.in-len1-up.len_at_least))

pub returns-clause-small : goal.returns-clause-small
returns-clause-small c =
    size_small c.args.figures.now c.args.table false (Union (branches_of c.args.union.now))
    (subst (λ rows. rows ≤ 1000) c.table_rows-rows.ensures.told c.table_rows-rows.ensures.small)
    c.requires
