use Rattle.std.proofs.Common.{rules, refl}
use Rattle.std.proofs.lemmas.List.Sorted.{IsPartitionPoint-from_clause}
use Rattle.schema_model.specs.PlainSchemas.{plain_row}
use Rattle.plan_form.proofs.RowidSearch.{stands_before, partitioned, found_is}
use Rattle.plan_form.proofs.numbers.row_number.Goals as goal

pub returns : goal.returns
returns c =
    let rows = c.args.table.now in
    let rowid = c.args.row.now.rowid in
    found_is rows rowid c.partition_point.result c.requires.rising
    (IsPartitionPoint-from_clause (stands_before rowid) rows c.partition_point.result
    c.partition_point.ensures.partitioned (partitioned rows rowid c.requires.rising)
    (λ a r f k. search rules)) (plain_row c.args.row.now) c.requires.member refl
