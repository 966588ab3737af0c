use Rattle.std.proofs.Common.{rules}
use Rattle.std.proofs.lemmas.Slice.Eq.{bytes_eq-Decides}
use Rattle.sql_value.proofs.KeywordLemmas.{map-lower}
use Rattle.sql_value.proofs.keywords.is_same_word.Goals as goal

pub returns : goal.returns
returns c = rw (← map-lower c.args.left.now, ← map-lower c.args.right.now)
    (search (rules, bytes_eq-Decides))
