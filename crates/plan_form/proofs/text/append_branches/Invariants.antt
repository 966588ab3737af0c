use Rattle.std.proofs.Common.{◌≡◌, ◌++◌, drop, map}
use Rattle.sql_meaning.specs.Fitting.{AreSeeksOf}
use Rattle.schema_model.specs.PlainSchemas.{plain_schema}
use Rattle.plan_form.specs.Paths.{paths, path_of, branches_of}
use Rattle.plan_form.specs.Texts.{as_text, branch_lines, shown_item}
use Rattle.plan_form.proofs.text.append_branches.Given as goal

-- what is left to be written
abbrev pub invariant-loop-branch : goal.invariant-loop-branch
invariant-loop-branch l = record {
  written : l.text ++ as_text (branch_lines l.schema (shown_item l.schema l.item)
      (paths (map (λ b. path_of b.now) (drop l.branch-index l.paths.branches.now))))
      ≡ l.initial.text
      ++ as_text (branch_lines l.schema (shown_item l.schema l.item) (branches_of l.paths));
  fit : AreSeeksOf (plain_schema l.schema) l.item.table
      (paths (map (λ b. path_of b.now) (drop l.branch-index l.paths.branches.now)));
}
