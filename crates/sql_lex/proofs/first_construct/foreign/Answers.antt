use Rattle.std.proofs.Common.{refl, sym, ◌∙◌, map, Some, None, true, false}
use Rattle.sql_tokens.specs.Terminals.{terminal_of}
use Rattle.sql_lex.specs.Constructs.{first_foreign}
use Rattle.sql_lex.proofs.FirstFitting.{first_is}
use Rattle.sql_lex.proofs.first_construct.foreign.Goals as goal

pub returns-in-Some : goal.returns-in-Some
unfolding first_foreign
returns-in-Some c =
    let seen = map (terminal_of c.args.text.now) c.args.tokens.now in
    first_is seen (Some c.in-Some.early) _ _ _ c.in-Some.ensures refl refl refl

pub returns-then-has_row_value : goal.returns-then-has_row_value
unfolding first_foreign
returns-then-has_row_value c =
    let seen = map (terminal_of c.args.text.now) c.args.tokens.now in
    first_is seen None _ true _ c.in_default.ensures
    (sym c.if-has_row_value.true ∙ c.has_row_value.ensures) refl refl

pub returns-in-Some-first_standing : goal.returns-in-Some-first_standing
unfolding first_foreign
returns-in-Some-first_standing c =
    let seen = map (terminal_of c.args.text.now) c.args.tokens.now in
    first_is seen None (Some c.in-Some-first_standing.late) false _ c.in_default.ensures
    (sym c.if-has_row_value.false ∙ c.has_row_value.ensures) c.in-Some-first_standing.ensures refl

pub returns-then-lacks_from : goal.returns-then-lacks_from
unfolding first_foreign
returns-then-lacks_from c =
    let seen = map (terminal_of c.args.text.now) c.args.tokens.now in
    first_is seen None None false true c.in_default.ensures
    (sym c.if-has_row_value.false ∙ c.has_row_value.ensures) c.in_default-first_standing.ensures
    (sym c.if-lacks_from.true ∙ c.lacks_from.ensures)

pub returns-else-lacks_from : goal.returns-else-lacks_from
unfolding first_foreign
returns-else-lacks_from c =
    let seen = map (terminal_of c.args.text.now) c.args.tokens.now in
    first_is seen None None false false c.in_default.ensures
    (sym c.if-has_row_value.false ∙ c.has_row_value.ensures) c.in_default-first_standing.ensures
    (sym c.if-lacks_from.false ∙ c.lacks_from.ensures)
