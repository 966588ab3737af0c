use Rattle.std.proofs.Common.{◌≡◌, drop}
use Rattle.sql_value.specs.Keywords.{find_word}
use Rattle.sql_value.proofs.keywords.find_among.Given as goal

abbrev pub invariant-loop-keyword : goal.invariant-loop-keyword
invariant-loop-keyword l =
    find_word l.word l.keywords ≡ find_word l.word (drop l.keyword-index l.keywords)
