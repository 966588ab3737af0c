use Rattle.std.proofs.Common.{◌≡◌, ◌++◌, drop, map}
use Rattle.std.specs.List.{AllByRecursion}
use Rattle.sql_meaning.specs.Evaluation.{ev}
use Rattle.sql_value.specs.View.{plain_value}
use Rattle.sql_eval.specs.Environments.{GivesRows, assignment_of, params_of}
use Rattle.bound_rows.specs.Readable.{lent_exprs}
use Rattle.bound_rows.proofs.answers.values_of.Given as goal

abbrev pub invariant-loop-expr : goal.invariant-loop-expr
invariant-loop-expr l = record {
  rows : AllByRecursion (GivesRows l.env) (lent_exprs (drop l.expr-index l.exprs));
  seen : map plain_value l.values
      ++ map (ev (assignment_of l.env) (params_of l.env))
      (lent_exprs (drop l.expr-index l.exprs))
      ≡ map (ev (assignment_of l.env) (params_of l.env)) (lent_exprs l.exprs);
}
