use Rattle.std.proofs.Common.{arith}
use Rattle.sql_lex.proofs.RowWindows.{opened_in}
use Rattle.sql_lex.proofs.row_values.take_open.Goals as goal

pub returns-then-level-window-lt-ROOM-clause-follows :
    goal.returns-then-level-window-lt-ROOM-clause-follows
returns-then-level-window-lt-ROOM-clause-follows c =
    λ s f. opened_in c.args.window.now s c.if-window-level.true (omega arith) f
