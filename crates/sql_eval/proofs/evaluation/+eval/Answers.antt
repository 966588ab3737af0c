use Rattle.std.proofs.Common.{ap, ◌∙◌, rules, map, option_map}
use Rattle.sql_value.specs.View.{plain_affinity, plain_collation}
use Rattle.sql_meaning.specs.Conversions.{converted_by}
use Rattle.sql_meaning.specs.Evaluation.{evs, from_truth, negated_if, one_of3}
use Rattle.sql_bound.specs.Expressions.{members_of}
use Rattle.sql_eval.specs.Environments.{assignment_of, params_of}
use Rattle.sql_bound.specs.declared.expression.BExpr.{the_lemmas}
use Rattle.sql_bound.proofs.Members.{expr_of-OneOf}
use Rattle.sql_eval.proofs.Turns.{gives-All, gives-Any, gives-OneOf}
use Rattle.sql_eval.proofs.evaluation.+eval.Goals as goal

pub seen-all_of-requires : goal.seen-all_of-requires
seen-all_of-requires t c = (
  search (rules, the_lemmas),
  gives-All c.args.env.now c.args.expr.now c.in-All.members c.in-All.is c.requires,
)

pub seen-any_of-requires : goal.seen-any_of-requires
seen-any_of-requires t c = (
  search (rules, the_lemmas),
  gives-Any c.args.env.now c.args.expr.now c.in-Any.members c.in-Any.is c.requires,
)

pub seen-one_of-requires : goal.seen-one_of-requires
seen-one_of-requires t c = (
  search (rules, the_lemmas),
  (gives-OneOf c.args.env.now c.args.expr.now c.in-OneOf.not c.in-OneOf.left c.in-OneOf.entries
      c.in-OneOf.conv c.in-OneOf.coll c.in-OneOf.is c.requires).1,
)

pub seen-returns-in_ok-found-in-OneOf : goal.seen-returns-in_ok-found-in-OneOf
seen-returns-in_ok-found-in-OneOf t c =
    rw (
      c.in-OneOf.is,
      expr_of-OneOf c.in-OneOf.not c.in-OneOf.left c.in-OneOf.entries c.in-OneOf.conv
          c.in-OneOf.coll,
    )
    (c.from_truth-in-OneOf.ensures
    ∙ ap from_truth
    (c.negated_if.ensures
    ∙ ap (negated_if c.in-OneOf.not)
    (c.in_ok-found-in-OneOf.ensures
    ∙ ap
    (λ v. one_of3 (plain_collation c.in-OneOf.coll) v
    (map (converted_by (option_map plain_affinity c.in-OneOf.conv))
    (evs (assignment_of c.args.env.now) (params_of c.args.env.now)
    (members_of c.in-OneOf.entries))))
    (c.as_value-in-OneOf.ensures ∙ c.in_ok-value-in-OneOf.ensures))))
