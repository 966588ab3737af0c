use Rattle.std.proofs.Common.{◌≡◌, drop, map, option_map}
use Rattle.sql_value.specs.View.{plain_value, plain_affinity, plain_collation}
use Rattle.sql_meaning.specs.Conversions.{converted_by}
use Rattle.sql_meaning.specs.Evaluation.{evs, all3, any3, one_of3, and3, or3}
use Rattle.sql_bound.specs.Expressions.{members_of}
use Rattle.sql_bound.proofs.Members.{plain_members}
use Rattle.sql_eval.specs.Environments.{assignment_of, params_of, AllGiveRows}
use Rattle.sql_eval.proofs.Turns.{values_from}
use Rattle.sql_eval.proofs.evaluation.+eval.Given as goal

abbrev pub invariant-all_of-loop-member : goal.invariant-all_of-loop-member
invariant-all_of-loop-member l = record {
  rows : AllGiveRows l.env (plain_members (drop l.member-index l.member-items));
  truth : and3 l.all (all3 (values_from l.env l.member-items l.member-index))
      ≡ all3 (evs (assignment_of l.env) (params_of l.env) (members_of l.list));
}

abbrev pub invariant-any_of-loop-member : goal.invariant-any_of-loop-member
invariant-any_of-loop-member l = record {
  rows : AllGiveRows l.env (plain_members (drop l.member-index l.member-items));
  truth : or3 l.any (any3 (values_from l.env l.member-items l.member-index))
      ≡ any3 (evs (assignment_of l.env) (params_of l.env) (members_of l.list));
}

abbrev pub invariant-one_of-loop-member : goal.invariant-one_of-loop-member
invariant-one_of-loop-member l = record {
  rows : AllGiveRows l.env (plain_members (drop l.member-index l.member-items));
  truth : or3 l.any
      (one_of3 (plain_collation l.coll) (plain_value l.left)
      (map (converted_by (option_map plain_affinity l.conv))
      (values_from l.env l.member-items l.member-index)))
      ≡ one_of3 (plain_collation l.coll) (plain_value l.left)
      (map (converted_by (option_map plain_affinity l.conv))
      (evs (assignment_of l.env) (params_of l.env) (members_of l.list)));
}
