use Rattle.std.proofs.Common.{◌≡◌, map, ◌-◌}
use Rattle.sql_read.specs.Lexemes.{seen}
use Rattle.sql_read.specs.Lists.{Reads, Finds}
use Rattle.sql_read.specs.Reading.{list_at, more_at, with_front}
use Rattle.sql_read.proofs.lists.list_of.Given as goal

abbrev pub invariant-members : goal.invariant-members
invariant-members g l =
    (first : _) (start : _) (next : _)
    → Reads g.T.Member.tree (goal.First-post g l.fn.read_first) first →
    Finds (goal.Follows-post g l.follows) start
    → Reads g.T.Member.tree (goal.Next-post g l.read_next) next →
    with_front (map g.T.Member.tree l.list.items)
    (more_at start next (l.most - l.counter) (seen l.rest))
    ≡ list_at first start next (seen l.lexemes)
