use Rattle.std.proofs.Common.{◌≡◌, None, [], ◌∷◌, ◌++◌, ap, ◌∙◌}
use Rattle.sql_lexemes.specs.Parameters.{number_named}
use Rattle.sql_lexemes.proofs.NamedParameters.{seen_names, added, met_with}
use Rattle.sql_lexemes.proofs.parameters.Parameters.add.Goals as goal

pub returns : goal.returns
returns c =
    let n = c.args.number in
    let key = c.in_ok-key.key in
    let es = c.self.inside.named.entries in
    let none : number_named key.items (seen_names es) ≡ None =
    ap (λ name. number_named name (seen_names es)) c.in_ok-key.ensures
    ∙ ap (λ met. number_named c.args.name.now met.named) c.self.view_is ∙ c.requires in
    ap (λ entries. met_with (record { greatest = c.self.inside.greatest; named = seen_names es })
    (seen_names entries)) c.in_ok-insert.ensures.entries
    ∙ ap (λ named. met_with (record { greatest = c.self.inside.greatest; named = seen_names es })
    named) (added key n es none)
    ∙ ap (λ name. met_with (record { greatest = c.self.inside.greatest; named = seen_names es })
    (seen_names es ++ (name, n) ∷ [])) c.in_ok-key.ensures
    ∙ ap (λ met. met_with met (met.named ++ (c.args.name.now, n) ∷ [])) c.self.view_is
