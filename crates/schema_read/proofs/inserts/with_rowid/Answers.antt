use Rattle.std.proofs.Common.{ℤ, ap, ◌∙◌, map, set, w64, Option, ℕ, sym}
use Rattle.std.proofs.lemmas.Int.{to_z-of_z}
use Rattle.sql_meaning.specs.Values as plain
use Rattle.sql_value.specs.View.{plain_value}
use Rattle.schema_read.specs.Inserts.{with_rowid}
use Rattle.schema_read.proofs.RowLists.{put_seen}
use Rattle.schema_read.proofs.inserts.with_rowid.Goals as goal

pub returns-in-Some : goal.returns-in-Some
returns-in-Some c =
    ap (λ l. map plain_value l) c.put_value.ensures
    ∙ put_seen c.args.values.items c.in-Some.number _
    ∙ ap (λ (z : ℤ). set (map plain_value c.args.values.items) c.in-Some.number (plain.Int z))
    (to_z-of_z w64 c.args.rowid c.ranges.rowid)
    ∙ ap (λ (alias : Option ℕ). with_rowid alias (map plain_value c.args.values.items) c.args.rowid)
    (sym c.in-Some.is)
