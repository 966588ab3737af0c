use Rattle.std.proofs.Common.{ap, sym, ◌∙◌}
use Rattle.std.specs.Prelude.{option_copied}
use Rattle.sql_lexemes.specs.Parameters.{number_named}
use Rattle.sql_lexemes.proofs.NamedParameters.{numbered}
use Rattle.sql_lexemes.proofs.parameters.Parameters.find.Goals as goal

pub returns-in-Some : goal.returns-in-Some
returns-in-Some c =
    ap option_copied (sym c.in-Some.is) ∙ c.get.ensures.value
    ∙ numbered c.args.name.now c.self.inside.named.entries
    ∙ ap (λ met. number_named c.args.name.now met.named) c.self.view_is

pub returns-in-None : goal.returns-in-None
returns-in-None c =
    ap option_copied (sym c.in-None.is) ∙ c.get.ensures.value
    ∙ numbered c.args.name.now c.self.inside.named.entries
    ∙ ap (λ met. number_named c.args.name.now met.named) c.self.view_is
