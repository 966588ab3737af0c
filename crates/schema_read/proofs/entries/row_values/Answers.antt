use Rattle.std.proofs.Common.{sym}
use Rattle.schema_read.proofs.RowLists.{other_count}
use Rattle.schema_read.proofs.entries.row_values.Goals as goal

pub returns-then-columns-parts : goal.returns-then-columns-parts
returns-then-columns-parts c =
    sym (other_count c.args.text.now c.args.columns.now c.args.parts.now c.if-columns-parts.true)
