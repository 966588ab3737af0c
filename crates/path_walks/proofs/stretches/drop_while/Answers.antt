use Rattle.std.proofs.Common.{rules, ap, ◌∙◌}
use Rattle.std.proofs.lemmas.List.{take_rest}
use Rattle.std.proofs.lemmas.List.Sorted.{IsPartitionPoint-from_clause}
use Rattle.index_lists.specs.Lent.{lent_rows}
use Rattle.schema_model.specs.PlainSchemas.{plain_row}
use Rattle.schema_model.specs.declared.rows.Row.{Row}
use Rattle.path_walks.specs.Sides.{stands_on}
use Rattle.path_walks.proofs.Halving.{first_pass, dropped_at}
use Rattle.path_walks.proofs.stretches.drop_while.Goals as goal
use denote.Ref.{Bor}

pub returns : goal.returns
returns c =
    let passes = stands_on c.args.side in
    let rows = c.args.rows.now in
    let found = c.partition_point.result in
    ap lent_rows (take_rest rows found)
    ∙ dropped_at (λ (row : Bor Row). plain_row row.now) passes rows found
    (IsPartitionPoint-from_clause (λ (row : Bor Row). passes (plain_row row.now)) rows found
    c.partition_point.ensures.partitioned
    (first_pass (λ (row : Bor Row). plain_row row.now) passes rows c.requires)
    (λ a r f k. search rules))
