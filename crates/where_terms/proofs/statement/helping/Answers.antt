use Rattle.std.proofs.Common.{map, ◌<◌, length, arith}
use Rattle.std.proofs.lemmas.List.{length-map}
use Rattle.sql_bound.specs.Statements.{bound_of, conjunct_of}
use Rattle.where_terms.specs.Listed.{may_help}
use Rattle.where_terms.proofs.WholeLists.{chosen_turn}
use Rattle.where_terms.proofs.statement.helping.Goals as goal

pub loop-number-preserved : goal.loop-number-preserved
loop-number-preserved c =
    let b = c.args.bound.now in
    let below : c.loop-number.number < length (map conjunct_of b.conjuncts.now) =
    rw (length-map b.conjuncts.now conjunct_of) (omega arith) in
    chosen_turn (may_help c.args.derives (bound_of b) c.args.item) c.loop-number.number
    (map conjunct_of b.conjuncts.now) _ _ _ _ below c.helping_at.ensures c.in_ok-push_expr.ensures
    c.loop-number.invariant
