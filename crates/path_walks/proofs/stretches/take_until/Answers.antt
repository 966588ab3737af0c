use Rattle.std.proofs.Common.{rules, not}
use Rattle.std.proofs.lemmas.List.Sorted.{IsPartitionPoint-from_clause}
use Rattle.index_lists.specs.Lent.{lent_rows}
use Rattle.schema_model.specs.PlainSchemas.{plain_row}
use Rattle.schema_model.specs.declared.rows.Row.{Row}
use Rattle.path_walks.specs.Sides.{stands_on}
use Rattle.path_walks.proofs.Halving.{first_pass, taken_at, Rises-denied}
use Rattle.path_walks.proofs.stretches.take_until.Goals as goal
use denote.Ref.{Bor}

pub returns : goal.returns
returns c =
    let past = stands_on c.args.side in
    let rows = c.args.rows.now in
    let found = c.partition_point.result in
    taken_at (λ (row : Bor Row). plain_row row.now) past rows found
    (IsPartitionPoint-from_clause (λ (row : Bor Row). not (past (plain_row row.now))) rows found
    c.partition_point.ensures.partitioned
    (first_pass (λ (row : Bor Row). plain_row row.now) (λ row. not (past row)) rows
    (Rises-denied past (lent_rows rows) c.requires)) (λ a r f k. search rules))
