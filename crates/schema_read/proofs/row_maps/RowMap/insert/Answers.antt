use Rattle.std.proofs.Common.{ℤ, ap, ◌∙◌, map, w64}
use Rattle.std.proofs.lemmas.Int.{to_z-of_z}
use Rattle.sql_value.specs.View.{plain_value}
use Rattle.schema_read.specs.Rows.{row_of_entry, insert_row}
use Rattle.schema_read.proofs.RowLists.{put}
use Rattle.schema_read.proofs.row_maps.RowMap.insert.Goals as goal

pub returns-clause-ok : goal.returns-clause-ok
returns-clause-ok c =
    ap (map row_of_entry) c.in_ok-insert.ensures.entries
    ∙ put _ c.args.values c.self.inside.rows.entries
    ∙ ap (λ (r : ℤ). insert_row r (map plain_value c.args.values.items)
    (map row_of_entry c.self.inside.rows.entries)) (to_z-of_z w64 c.args.rowid c.ranges.rowid)
    ∙ ap (insert_row c.args.rowid (map plain_value c.args.values.items)) c.self.view_is
