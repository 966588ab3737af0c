use Rattle.sql_tree.specs.Statements.{statement_tree}
use Rattle.sql_read.specs.Lexemes.{seen}
use Rattle.sql_parse.proofs.Whole.{read_is_spelled, spelled_is_read, not_spelled}
use Rattle.sql_parse.proofs.spelled.parse_lexemes.Goals as goal

pub returns-in-Ok-clause-found : goal.returns-in-Ok-clause-found
returns-in-Ok-clause-found c =
    read_is_spelled (seen c.args.lexemes.now) (statement_tree c.in-Ok.statement) c.in-Ok.ensures

pub returns-in-Ok-clause-only : goal.returns-in-Ok-clause-only
returns-in-Ok-clause-only c = λ t s.
    let some = spelled_is_read (seen c.args.lexemes.now) t s in
    let read = c.in-Ok.ensures in
    cc

pub returns-in-Err-clause-only : goal.returns-in-Err-clause-only
returns-in-Err-clause-only c = not_spelled (seen c.args.lexemes.now) c.in-Err.fault c.in-Err.ensures
