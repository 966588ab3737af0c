use Rattle.sql_bind.specs.Views.{results_seen}
use Rattle.std.proofs.Common.{take}
use Rattle.sql_bind.proofs.AliasLaws.{turn_named, turn_unnamed}
use Rattle.sql_bind.proofs.keys.find_aliases.Goals as goal
use Rattle.sql_bind.proofs.keys.find_aliases.Goals.{in-Some+in_ok-note_alias, in_default}

pub loop-column-preserved : goal.loop-column-preserved
loop-column-preserved c =
    let columns = c.args.results.now in
    let i = c.loop-column.column-index in
    elim c.match-column.branch [
      | in-Some+in_ok-note_alias w ↦
          rw w.aliases-is
          (turn_named w.note_alias.new.aliases.entries columns i _ c.loop-column-test.true
          w.in-Some.alias w.in-Some.is
          (w.in_ok-note_alias.ensures (results_seen (take i columns)) c.loop-column.invariant))
      | in_default w ↦
          rw w.aliases-is
          (turn_unnamed c.loop-column.aliases.entries columns i _ c.loop-column-test.true
          w.in_default.not-Some c.loop-column.invariant)
    ]
