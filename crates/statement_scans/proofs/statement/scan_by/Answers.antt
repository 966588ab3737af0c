use Rattle.std.proofs.Common.{◌≡◌, ap, sym, subst, ◌∙◌, map, List, IfOk}
use Rattle.std.specs.List.{AllByRecursion}
use Rattle.plan_choice.specs.Scans as meant
use Rattle.schema_model.specs.PlainSchemas.{plain_index_column}
use Rattle.candidate_index.specs.Scans.{scan_of}
use Rattle.where_terms.specs.Marked.{IsMarked}
use Rattle.where_terms.specs.Views.{term_of}
use Rattle.where_terms.specs.declared.term.Term.{Term}
use Rattle.statement_scans.proofs.TermOrder.{appearing_seen, appearing_marked, scan_same}
use Rattle.statement_scans.proofs.statement.scan_by.Goals as goal

pub scan-requires-clause-marked : goal.scan-requires-clause-marked
scan-requires-clause-marked c =
    subst (λ (ts : List Term). AllByRecursion IsMarked ts)
    (sym (c.as_slice.ensures.value ∙ c.in_ok-terms.ensures))
    (appearing_marked c.args.direct.items c.args.columns.now c.requires.direct c.requires.columns)

pub returns : goal.returns
returns c =
    subst (λ (s : meant.Scan). IfOk c.scan.result (λ scan. scan_of scan ≡ s))
    (scan_same c.table_of-table.result _ c.item_count-count.result _
    (map plain_index_column c.args.order) (map term_of c.as_slice.result.now) _
    c.table_of-table.ensures c.item_count-count.ensures
    (ap (map term_of) (c.as_slice.ensures.value ∙ c.in_ok-terms.ensures)
    ∙ appearing_seen c.args.direct.items c.args.columns.now))
    c.scan.ensures
