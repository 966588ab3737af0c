use Rattle.std.proofs.Common.{◌≡◌, ◌++◌, ◌||◌, OnOk, ap, ap₂, sym, ◌∙◌, subst, length}
use Rattle.std.proofs.Common.{option_map, slice_get}
use Rattle.std.proofs.lemmas.List.{length-map}
use Rattle.sql_meaning.specs.Fitting.{FitsTable, HasColumns}
use Rattle.schema_model.specs.PlainSchemas.{plain_schema}
use Rattle.std.specs.Borrow.{Bor}
use Rattle.sql_meaning.specs.Paths as plain
use Rattle.sql_meaning.specs.Paths.{IndexSeek}
use Rattle.plan_form.specs.declared.path.EqPart.{EqPart}
use Rattle.plan_form.specs.Paths.{path_of, edge_of, part_of, parts_of}
use Rattle.plan_form.specs.Texts.{path_line, seek_line, shown_item, told_columns}
use Rattle.plan_form.proofs.SeenPaths.{path_of-IndexScan, path_of-IndexSeek, path_of-Union}
use Rattle.plan_form.proofs.IndexColumns.{is_there, told_length, parts_fit, bounds_fit, is_some_map}
use Rattle.plan_form.proofs.text.append_path.Goals as goal

pub append_index_scan-requires-clause-index : goal.append_index_scan-requires-clause-index
append_index_scan-requires-clause-index c =
    is_there c.args.item.now.table c.in-IndexScan.index c.args.schema.now.indexes
    (subst (FitsTable (plain_schema c.args.schema.now) c.args.item.now.table)
    (ap path_of c.in-IndexScan.is
    ∙ path_of-IndexScan c.in-IndexScan.index c.in-IndexScan.covering) c.requires.fits)

-- the path is a seek in an index
seek : (c : goal.After-is_some-in-IndexSeek-2)
    → path_of c.args.path.now
    ≡ IndexSeek c.in-IndexSeek.index (parts_of c.in-IndexSeek.eqs)
    (option_map edge_of c.in-IndexSeek.low) (option_map edge_of c.in-IndexSeek.high)
seek c =
    ap path_of c.in-IndexSeek.is
    ∙ path_of-IndexSeek c.in-IndexSeek.index c.in-IndexSeek.covering c.in-IndexSeek.eqs
    c.in-IndexSeek.low c.in-IndexSeek.high

fits : (c : goal.After-is_some-in-IndexSeek-2)
    → FitsTable (plain_schema c.args.schema.now) c.args.item.now.table
    (IndexSeek c.in-IndexSeek.index (parts_of c.in-IndexSeek.eqs)
    (option_map edge_of c.in-IndexSeek.low) (option_map edge_of c.in-IndexSeek.high))
fits c =
    subst (FitsTable (plain_schema c.args.schema.now) c.args.item.now.table) (seek c)
    c.requires.fits

columns : (c : goal.After-is_some-in-IndexSeek-2)
    → HasColumns
    (length
    (told_columns c.args.schema.now
    (slice_get c.args.schema.now.indexes c.in-IndexSeek.index)))
    (length c.in-IndexSeek.eqs.parts.now) (option_map edge_of c.in-IndexSeek.low)
    (option_map edge_of c.in-IndexSeek.high)
columns c =
    subst
    (λ n. HasColumns
    (length
    (told_columns c.args.schema.now
    (slice_get c.args.schema.now.indexes c.in-IndexSeek.index))) n
    (option_map edge_of c.in-IndexSeek.low) (option_map edge_of c.in-IndexSeek.high))
    (length-map c.in-IndexSeek.eqs.parts.now _)
    (subst
    (λ n. HasColumns n (length (parts_of c.in-IndexSeek.eqs))
    (option_map edge_of c.in-IndexSeek.low) (option_map edge_of c.in-IndexSeek.high))
    (told_length c.args.schema.now c.in-IndexSeek.index c.args.schema.now.indexes) (fits c).1)

pub append_seek-requires-clause-index : goal.append_seek-requires-clause-index
append_seek-requires-clause-index c =
    is_there c.args.item.now.table c.in-IndexSeek.index c.args.schema.now.indexes (fits c).0

pub append_seek-requires-clause-equals : goal.append_seek-requires-clause-equals
append_seek-requires-clause-equals c = parts_fit _ _ _ _ (columns c)

pub append_seek-requires-clause-bounds : goal.append_seek-requires-clause-bounds
append_seek-requires-clause-bounds c =
    λ e. bounds_fit _ _ _ _ (columns c)
    (ap₂ (λ low high. low || high)
    (is_some_map edge_of c.in-IndexSeek.low ∙ sym c.is_some-in-IndexSeek.ensures)
    (is_some_map edge_of c.in-IndexSeek.high ∙ sym c.is_some-in-IndexSeek-2.ensures)
    ∙ e)

pub returns-in-IndexSeek : goal.returns-in-IndexSeek
returns-in-IndexSeek c =
    let line = seek_line c.args.schema.now (shown_item c.args.schema.now c.args.item.now)
    c.args.covering c.in-IndexSeek.index in
    subst
    (λ t. OnOk c.append_seek.result (c.append_seek.new.text ≡ c.args.text.now ++ t))
    (ap
    (λ n. line n c.is_some-in-IndexSeek.result c.is_some-in-IndexSeek-2.result)
    (sym (length-map c.in-IndexSeek.eqs.parts.now part_of_lent))
    ∙ ap₂ (line (length (parts_of c.in-IndexSeek.eqs)))
    (c.is_some-in-IndexSeek.ensures ∙ sym (is_some_map edge_of c.in-IndexSeek.low))
    (c.is_some-in-IndexSeek-2.ensures ∙ sym (is_some_map edge_of c.in-IndexSeek.high))
    ∙ ap
    (path_line c.args.schema.now (shown_item c.args.schema.now c.args.item.now) c.args.covering)
    (sym
    (ap path_of c.in-IndexSeek.is
    ∙ path_of-IndexSeek c.in-IndexSeek.index c.in-IndexSeek.covering c.in-IndexSeek.eqs
    c.in-IndexSeek.low c.in-IndexSeek.high)))
    c.append_seek.ensures
  where
    part_of_lent : Bor EqPart → plain.EqPart
    part_of_lent part = part_of part.now

pub returns-in-Union : goal.returns-in-Union
returns-in-Union c =
    subst
    (λ p. OnOk c.append.result
    (c.append.new.self
    ≡ c.args.text.now
    ++ path_line c.args.schema.now (shown_item c.args.schema.now c.args.item.now) c.args.covering p))
    (sym (ap path_of c.in-Union.is ∙ path_of-Union c.in-Union.field-0)) c.append.ensures.ok
