use Rattle.schema_model.proofs.HeldRows.{other_count_of_rows}
use Rattle.schema_model.proofs.conformity.are_rows.Goals as goal

pub returns-then-tables-lists : goal.returns-then-tables-lists
returns-then-tables-lists c = (
  λ e. absurd (cc),
  λ a. absurd
      (other_count_of_rows c.args.tables.now c.args.lists.now c.if-tables-lists.true a),
)
