use Rattle.std.proofs.Common.{rules, sym, ap, take, ◌+◌, ◌∙◌}
use Rattle.std.proofs.lemmas.Iterator.{YieldsList-from_slice}
use Rattle.std.proofs.lemmas.Iterator.Search.{position_from_yields_List}
use Rattle.std.proofs.lemmas.List.{take_rest}
use Rattle.sql_meaning.specs.Numbers.{is_point}
use Rattle.sql_meaning.specs.Values.{without_trailing}
use Rattle.sql_tokens.specs.NumberValues.{or_zero, decimal_of, number_around}
use Rattle.sql_tokens.proofs.number_values.token_number.Goals as goal

pub returns-in-Some : goal.returns-in-Some
returns-in-Some c =
    let bytes = c.args.bytes.now in
    let place = c.in-Some.place in
    c.decimal_of.ensures
    ∙ ap (λ whole. decimal_of whole c.or_zero-in-Some.result.now) c.or_zero.ensures
    ∙ ap (decimal_of (or_zero (take place bytes)))
    (c.or_zero-in-Some.ensures
    ∙ ap or_zero (c.trim_zeros.ensures
    ∙ ap (without_trailing 48) (take_rest bytes (place + 1))))
    ∙ ap (number_around bytes)
    (sym c.in-Some.is
    ∙ position_from_yields_List is_point _ _ _ c.position-point.ensures.ran
    (YieldsList-from_slice bytes (cc)) (λ x b q k. search rules))

pub returns-in-None : goal.returns-in-None
returns-in-None c =
    let bytes = c.args.bytes.now in
    c.whole_of.ensures
    ∙ ap (number_around bytes)
    (sym c.in-None.is
    ∙ position_from_yields_List is_point _ _ _ c.position-point.ensures.ran
    (YieldsList-from_slice bytes (cc)) (λ x b q k. search rules))
