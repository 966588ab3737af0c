use Rattle.std.proofs.Common.{ap, ◌∙◌, map, List}
use Rattle.schema_model.specs.PlainSchemas.{plain_index_column}
use Rattle.schema_model.specs.declared.indexes.IndexColumn.{IndexColumn}
use Rattle.candidate_index.specs.Scans.{join_of}
use Rattle.candidate_index.specs.Starts.{has_column}
use Rattle.statement_scans.specs.Asked.{without}
use Rattle.statement_scans.proofs.ScanParts.{scan_is}
use Rattle.statement_scans.proofs.scan.scan.Goals as goal

pub returns : goal.returns
returns c =
    let numbers = c.in_ok-numbers.numbers.keys in
    scan_is c.args.table c.args.count (map plain_index_column c.args.order) c.args.terms.now
    c.in_ok-equal.equal numbers (map plain_index_column c.in_ok-apart.field-0)
    (map join_of c.in_ok-joins.field-0) (map plain_index_column c.in_ok-columns_of.field-0)
    c.requires.marked c.in_ok-equal.ensures
    (λ number. c.in_ok-numbers.ensures number
    ∙ ap (has_column number) c.as_slice.ensures)
    (c.in_ok-apart.ensures
    ∙ ap (λ (cs : List IndexColumn). without numbers (map plain_index_column cs))
    c.as_slice-2.ensures
    ∙ ap (without numbers) c.in_ok-all.ensures)
    c.in_ok-joins.ensures c.in_ok-columns_of.ensures
