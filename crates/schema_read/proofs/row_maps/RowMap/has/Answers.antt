use Rattle.std.proofs.Common.{ℤ, ap, ◌∙◌, map, w64}
use Rattle.std.proofs.lemmas.Int.{to_z-of_z}
use Rattle.schema_read.specs.Rows.{has_rowid, row_of_entry}
use Rattle.schema_read.proofs.RowLists.{found}
use Rattle.schema_read.proofs.row_maps.RowMap.has.Goals as goal

pub returns : goal.returns
returns c =
    c.contains_key.ensures ∙ found _ c.self.inside.rows.entries
    ∙ ap (λ (r : ℤ). has_rowid r (map row_of_entry c.self.inside.rows.entries))
    (to_z-of_z w64 c.args.rowid c.ranges.rowid)
    ∙ ap (has_rowid c.args.rowid) c.self.view_is
