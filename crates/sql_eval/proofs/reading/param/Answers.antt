use Rattle.sql_eval.proofs.Parameters.{param_at}
use Rattle.sql_eval.proofs.reading.param.Goals as goal

pub returns-in-Some : goal.returns-in-Some
returns-in-Some c =
    param_at c.as_slice.result.now c.args.env.now.params.now c.args.number c.in-Some.value.now
    c.as_slice.ensures c.if-number-eq0.false c.in-Some.ensures.lookup.3.0
    c.in-Some.ensures.lookup.1
