use Rattle.std.proofs.Common.{sym, arith, ap, ◌∙◌}
use Rattle.std.specs.Prelude.{filter}
use Rattle.sql_value.specs.Keywords.{find_word, begins_with, all_keywords}
use Rattle.sql_value.proofs.KeywordLemmas.{keyword_under, keyword_of-nil}
use Rattle.sql_value.proofs.keywords.find_keyword.Goals as goal

pub returns-in-empty : goal.returns-in-empty
returns-in-empty c = sym (keyword_of-nil c.args.word.now (omega arith))

pub returns-in-len1-up : goal.returns-in-len1-up
returns-in-len1-up c =
    c.find_among.ensures
    ∙ ap (find_word c.args.word.now)
    (c.keywords_under.ensures
    ∙ ap (λ letter. filter (begins_with letter) all_keywords) c.to_ascii_lowercase.ensures.value)
    ∙ keyword_under c.args.word.now (omega arith)
