use Rattle.std.proofs.Common.{rules, sym, ap, take, ◌+◌, ◌∙◌}
use Rattle.std.proofs.lemmas.Iterator.{YieldsList-from_slice}
use Rattle.std.proofs.lemmas.Iterator.Search.{position_from_yields_List}
use Rattle.std.proofs.lemmas.List.{take_rest}
use Rattle.sql_meaning.specs.Numbers.{is_point, read_around, read_pointed}
use Rattle.sql_value.proofs.numbers.read_unsigned.Goals as goal

pub returns-in-Some : goal.returns-in-Some
returns-in-Some c =
    c.read_pointed.ensures
    ∙ ap (read_pointed c.args.negative (take c.in-Some.place c.args.text.now))
    (take_rest c.args.text.now (c.in-Some.place + 1))
    ∙ ap (read_around c.args.negative c.args.text.now) (sym c.in-Some.is
    ∙ position_from_yields_List is_point _ _ _ c.position-point.ensures.ran
    (YieldsList-from_slice c.args.text.now (cc)) (λ x b q k. search rules))

pub returns-in-None : goal.returns-in-None
returns-in-None c =
    c.read_whole.ensures ∙ ap (read_around c.args.negative c.args.text.now) (sym c.in-None.is
    ∙ position_from_yields_List is_point _ _ _ c.position-point.ensures.ran
    (YieldsList-from_slice c.args.text.now (cc)) (λ x b q k. search rules))
