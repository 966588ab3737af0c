use Rattle.schema_model.proofs.HeldRows.{other_count}
use Rattle.schema_model.proofs.conformity.are_held.Goals as goal

pub returns-then-columns-values : goal.returns-then-columns-values
returns-then-columns-values c = (
  λ e. absurd (cc),
  λ a. absurd
      (other_count c.args.columns.now c.args.values.now c.if-columns-values.true a),
)
