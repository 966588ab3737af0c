use Rattle.std.proofs.Common.{◌≡◌, ℕ, List, ap, sym, ◌∙◌, map}
use Rattle.std.proofs.lemmas.Result.{IfOk-weaker}
use Rattle.plan_choice.specs.Advice.{full_figures}
use Rattle.plan_choice.specs.Figures as counted
use Rattle.plan_choice.specs.Figures.{Figures}
use Rattle.plan_choice.specs.GivenFigures as given
use Rattle.plan_choice.specs.Settings.{Statement}
use Rattle.schema_model.specs.PlainSchemas.{plain_database, plain_schema}
use Rattle.schema_read.specs.Dumps.{seen_dump}
use Rattle.stat_figures.specs.Requests.{names_of, plain_given, uniques}
use Rattle.stat_figures.specs.declared.sources.StatSource.{StatSource}
use Rattle.expert_advice.specs.Requests.{request_of}
use Rattle.expert_advice.proofs.FullFigures.{counted_are, given_are}
use Rattle.expert_advice.proofs.figures.full_figures.Goals as goal

pub returns-in-Sampled-clause-told : goal.returns-in-Sampled-clause-told
returns-in-Sampled-clause-told c =
    let dump = c.args.dump.now in
    let full = c.args.full.now in
    let rows = plain_database dump.rows in
    IfOk-weaker c.figures.result
    (λ figures. figures ≡ counted.figures (plain_schema full) (uniques full) rows c.args.percent)
    (λ figures. (statements : List Statement) → figures
    ≡ full_figures (request_of (seen_dump dump) c.args.source c.args.percent statements)
    (plain_schema full))
    (λ figures told statements.
    told ∙ counted_are dump.schema full c.requires.full rows c.args.percent
    ∙ sym (ap (λ (s : StatSource).
    full_figures (request_of (seen_dump dump) s c.args.percent statements) (plain_schema full))
    c.in-Sampled.is))
    c.figures.ensures.told

pub returns-in-Given-clause-told : goal.returns-in-Given-clause-told
returns-in-Given-clause-told c =
    let dump = c.args.dump.now in
    let full = c.args.full.now in
    let rows = plain_database dump.rows in
    let given_by : ℕ → Figures =
    λ own. given.given_figures (names_of full own) (map plain_given dump.given)
    (plain_schema full).indexes
    (counted.figures (plain_schema full) (uniques full) rows c.args.percent) in
    IfOk-weaker c.given_figures.result (λ figures. figures ≡ given_by c.index_count-own.result)
    (λ figures. (statements : List Statement) → figures
    ≡ full_figures (request_of (seen_dump dump) c.args.source c.args.percent statements)
    (plain_schema full))
    (λ figures told statements.
    told ∙ ap given_by c.index_count-own.ensures
    ∙ given_are dump.schema full c.requires.full (map plain_given dump.given) rows c.args.percent
    ∙ sym (ap (λ (s : StatSource).
    full_figures (request_of (seen_dump dump) s c.args.percent statements) (plain_schema full))
    c.in-Given.is))
    c.given_figures.ensures.told
