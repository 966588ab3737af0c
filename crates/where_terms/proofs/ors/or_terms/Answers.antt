use Rattle.std.proofs.Common.{map, ◌<◌, length, arith}
use Rattle.std.proofs.lemmas.List.{length-map}
use Rattle.schema_model.specs.PlainSchemas.{plain_schema}
use Rattle.sql_bound.specs.Statements.{bound_of, conjunct_of}
use Rattle.where_terms.proofs.OrTerms.{or_turn}
use Rattle.where_terms.proofs.ors.or_terms.Goals as goal

pub loop-number-preserved : goal.loop-number-preserved
loop-number-preserved c =
    let b = c.args.bound.now in
    let below : c.loop-number.number < length (map conjunct_of b.conjuncts.now) =
    rw (length-map b.conjuncts.now conjunct_of) (omega arith) in
    or_turn (plain_schema c.args.schema.now) (bound_of b) c.args.item c.loop-number.number
    (map conjunct_of b.conjuncts.now) _ _ _ _ below c.in_ok-term.ensures c.in_ok-push_or.ensures
    c.loop-number.invariant
