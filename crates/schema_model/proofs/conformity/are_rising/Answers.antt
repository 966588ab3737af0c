use Rattle.std.proofs.Common.{◌≡◌, ℤ, Option, option_map, true, sym, ◌∙◌}
use Rattle.sql_meaning.specs.Schemas.{RisingRows}
use Rattle.schema_model.specs.PlainSchemas.{plain_rows}
use Rattle.schema_model.specs.RisingRowids.{follows}
use Rattle.schema_model.proofs.RisingOrder.{risen}
use Rattle.schema_model.proofs.conformity.are_rising.Goals as goal

pub loop-row-preserved : goal.loop-row-preserved
loop-row-preserved c =
    let last : Option ℤ = option_map (λ before. before.now.rowid) c.loop-row.last in
    let follow : follows last c.row-item.result.rowid ≡ true =
    sym c.follows.ensures ∙ c.if-not-follows.false in
    risen (RisingRows (plain_rows c.args.rows.now)) last c.args.rows.now c.loop-row.row-index
    c.row-item.result c.loop-row-test.true c.row-item.is follow c.loop-row.invariant
