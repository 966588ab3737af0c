use Rattle.std.proofs.Common.{◌≡◌, ap, sym, ◌∙◌, subst, map, option_map}
use Rattle.sql_meaning.specs.Fitting.{PathFits}
use Rattle.sql_meaning.specs.OrderState as meant
use Rattle.schema_model.specs.PlainSchemas.{plain_schema}
use Rattle.sql_bound.specs.Statements.{bound_of, sort_key_of}
use Rattle.plan_form.specs.Paths.{path_of, part_of, parts_of, edge_of}
use Rattle.plan_form.proofs.SeenPaths.{path_of-IndexScan, path_of-IndexSeek, path_of-TableScan}
use Rattle.plan_form.proofs.SeenPaths.{path_of-RowidRange, path_of-RowidEq}
use Rattle.plan_form.proofs.IndexColumns.{is_there}
use Rattle.loop_orders.specs.Walks.{passing_of, loop_by}
use Rattle.loop_orders.proofs.Steps.{scan_is, seek_is, rowids_are}
use Rattle.loop_orders.proofs.state.path_passes.Goals as goal

pub scan_passes-requires : goal.scan_passes-requires
scan_passes-requires c =
    is_there _ c.in-IndexScan.index c.args.schema.now.indexes
    (subst (PathFits (plain_schema c.args.schema.now) (bound_of c.args.bound.now) c.args.item)
    (ap path_of c.in-IndexScan.is
    ∙ path_of-IndexScan c.in-IndexScan.index c.in-IndexScan.covering) c.requires.fits)

pub scan_passes-requires-in-IndexSeek : goal.scan_passes-requires-in-IndexSeek
scan_passes-requires-in-IndexSeek c =
    is_there _ c.in-IndexSeek.index c.args.schema.now.indexes
    (subst (PathFits (plain_schema c.args.schema.now) (bound_of c.args.bound.now) c.args.item)
    (ap path_of c.in-IndexSeek.is
    ∙ path_of-IndexSeek c.in-IndexSeek.index c.in-IndexSeek.covering c.in-IndexSeek.eqs
    c.in-IndexSeek.low c.in-IndexSeek.high) c.requires.fits).0

pub returns-in-TableScan : goal.returns-in-TableScan
returns-in-TableScan c =
    subst
    (λ p. passing_of c.rowid_passes.result
    ≡ meant.loop_passes (plain_schema c.args.schema.now) (bound_of c.args.bound.now)
    (loop_by c.args.item p) (map sort_key_of c.args.keys.now))
    (sym (ap path_of c.in-TableScan.is ∙ path_of-TableScan)) c.rowid_passes.ensures

pub returns-in-RowidRange : goal.returns-in-RowidRange
returns-in-RowidRange c =
    subst
    (λ p. passing_of c.rowid_passes-in-RowidRange.result
    ≡ meant.loop_passes (plain_schema c.args.schema.now) (bound_of c.args.bound.now)
    (loop_by c.args.item p) (map sort_key_of c.args.keys.now))
    (sym
    (ap path_of c.in-RowidRange.is
    ∙ path_of-RowidRange c.in-RowidRange.field-0 c.in-RowidRange.field-1))
    c.rowid_passes-in-RowidRange.ensures

pub returns-in-RowidEq : goal.returns-in-RowidEq
returns-in-RowidEq c =
    subst
    (λ p. passing_of c.seek_passes.result
    ≡ meant.loop_passes (plain_schema c.args.schema.now) (bound_of c.args.bound.now)
    (loop_by c.args.item p) (map sort_key_of c.args.keys.now))
    (sym (ap path_of c.in-RowidEq.is ∙ path_of-RowidEq c.in-RowidEq.part))
    (c.seek_passes.ensures
    ∙ rowids_are (plain_schema c.args.schema.now) (bound_of c.args.bound.now) c.args.item
    (part_of c.in-RowidEq.part) (map sort_key_of c.args.keys.now))

pub returns-in-IndexScan : goal.returns-in-IndexScan
returns-in-IndexScan c =
    subst
    (λ p. passing_of c.scan_passes.result
    ≡ meant.loop_passes (plain_schema c.args.schema.now) (bound_of c.args.bound.now)
    (loop_by c.args.item p) (map sort_key_of c.args.keys.now))
    (sym
    (ap path_of c.in-IndexScan.is
    ∙ path_of-IndexScan c.in-IndexScan.index c.in-IndexScan.covering))
    (c.scan_passes.ensures
    ∙ scan_is (plain_schema c.args.schema.now) (bound_of c.args.bound.now) c.args.item
    c.in-IndexScan.index c.item_alias-alias.result (map sort_key_of c.args.keys.now)
    c.item_alias-alias.ensures)

pub returns-in-IndexSeek : goal.returns-in-IndexSeek
returns-in-IndexSeek c =
    subst
    (λ p. passing_of c.scan_passes-in-IndexSeek.result
    ≡ meant.loop_passes (plain_schema c.args.schema.now) (bound_of c.args.bound.now)
    (loop_by c.args.item p) (map sort_key_of c.args.keys.now))
    (sym
    (ap path_of c.in-IndexSeek.is
    ∙ path_of-IndexSeek c.in-IndexSeek.index c.in-IndexSeek.covering c.in-IndexSeek.eqs
    c.in-IndexSeek.low c.in-IndexSeek.high))
    (c.scan_passes-in-IndexSeek.ensures
    ∙ seek_is (plain_schema c.args.schema.now) (bound_of c.args.bound.now) c.args.item
    c.in-IndexSeek.index (parts_of c.in-IndexSeek.eqs) (option_map edge_of c.in-IndexSeek.low)
    (option_map edge_of c.in-IndexSeek.high) c.item_alias-alias.result
    (map sort_key_of c.args.keys.now) c.item_alias-alias.ensures)
