use Rattle.std.proofs.Common.{List, sym, subst}
use Rattle.std.specs.List.{AllByRecursion}
use Rattle.schema_model.specs.PlainSchemas.{plain_schema}
use Rattle.sql_meaning.specs.TermLists.{ItemTerms}
use Rattle.sql_bound.specs.Statements.{bound_of, needs_of}
use Rattle.where_terms.proofs.MarkedTerms.{all_marked}
use Rattle.where_terms.proofs.NamedItems.{SmallItem, terms_small}
use Rattle.where_terms.proofs.statement.terms.Goals as goal

pub returns-clause-others : goal.returns-clause-others
returns-clause-others c =
    all_marked c.in_ok-terms.terms.items.now
    (subst (λ (ts : List ItemTerms). AllByRecursion SmallItem ts) (sym c.in_ok-terms.ensures)
    (terms_small (plain_schema c.args.schema.now) (bound_of c.args.bound.now)
    (needs_of c.args.bound.now) c.requires))
