use Rattle.std.proofs.Common.{ℕ, ◌+◌, ◌*◌}
use Rattle.sql_read.specs.declared.levels.Joint.{Joint}
use Rattle.sql_read.specs.declared.levels.Joint.TheVariants as joint
use Rattle.sql_read.proofs.descent.+descent.Given as goal

-- Each level calls the next, and only what is a depth deeper calls a level above.
abbrev pub decreases-expr : goal.decreases-expr
decreases-expr l = 18 * l.depth + 17

abbrev member_rank : Joint → ℕ
member_rank joint.Or = 14
member_rank joint.And = 10
member_rank joint.Comma = 2

abbrev pub decreases-members : goal.decreases-members
decreases-members l = 18 * l.depth + (member_rank l.joint + 2)

abbrev pub decreases-members-read : goal.decreases-members-read
decreases-members-read l = 18 * l.depth + (member_rank l.joint + 1)

abbrev pub decreases-member : goal.decreases-member
decreases-member l = 18 * l.depth + member_rank l.joint

abbrev pub decreases-and : goal.decreases-and
decreases-and l = 18 * l.depth + 13

abbrev pub decreases-not : goal.decreases-not
decreases-not l = 18 * l.depth + 9

abbrev pub decreases-test : goal.decreases-test
decreases-test l = 18 * l.depth + 8

abbrev pub decreases-tested : goal.decreases-tested
decreases-tested l = 18 * l.depth + 7

abbrev pub decreases-one_of : goal.decreases-one_of
decreases-one_of l = 18 * l.depth + 6

abbrev pub decreases-between : goal.decreases-between
decreases-between l = 18 * l.depth + 5

abbrev pub decreases-entries : goal.decreases-entries
decreases-entries l = 18 * l.depth + 5

abbrev pub decreases-operand : goal.decreases-operand
decreases-operand l = 18 * l.depth + 3

abbrev pub decreases-primary : goal.decreases-primary
decreases-primary l = 18 * l.depth + 2

abbrev pub decreases-enclosed : goal.decreases-enclosed
decreases-enclosed l = 18 * l.depth + 1

abbrev pub decreases-nested : goal.decreases-nested
decreases-nested l = 18 * l.depth
