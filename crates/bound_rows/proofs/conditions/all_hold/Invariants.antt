use Rattle.std.proofs.Common.{◌≡◌, drop}
use Rattle.std.specs.List.{AllByRecursion}
use Rattle.sql_eval.specs.Environments.{GivesRows, assignment_of, params_of}
use Rattle.bound_rows.specs.Levels.{all_true}
use Rattle.bound_rows.specs.Readable.{lent_exprs}
use Rattle.bound_rows.proofs.conditions.all_hold.Given as goal

abbrev pub invariant-loop-expr : goal.invariant-loop-expr
invariant-loop-expr l = record {
  rows : AllByRecursion (GivesRows l.env) (lent_exprs (drop l.expr-index l.exprs));
  truth : all_true (params_of l.env) (lent_exprs (drop l.expr-index l.exprs))
      (assignment_of l.env)
      ≡ all_true (params_of l.env) (lent_exprs l.exprs) (assignment_of l.env);
}
