use Rattle.std.proofs.Common.{List, sym, subst}
use Rattle.std.specs.List.{AllByRecursion}
use Rattle.schema_model.specs.PlainSchemas.{plain_schema}
use Rattle.sql_meaning.specs.Terms.{Term}
use Rattle.sql_bound.specs.Statements.{bound_of, needs_of}
use Rattle.where_terms.proofs.MarkedTerms.{terms_marked}
use Rattle.where_terms.proofs.NamedItems.{SmallTerm, own_terms_small}
use Rattle.where_terms.proofs.direct.direct_terms.Goals as goal

pub returns-clause-others : goal.returns-clause-others
returns-clause-others c =
    terms_marked c.in_ok-terms.terms.items
    (subst (λ (ts : List Term). AllByRecursion SmallTerm ts) (sym c.in_ok-terms.ensures)
    (own_terms_small (plain_schema c.args.schema.now) (bound_of c.args.bound.now)
    (needs_of c.args.bound.now) c.args.item c.requires.fits))
