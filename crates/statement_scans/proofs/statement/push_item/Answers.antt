use Rattle.std.proofs.Common.{List, ap, sym, subst}
use Rattle.std.specs.List.{AllByRecursion}
use Rattle.schema_model.specs.PlainSchemas.{plain_schema}
use Rattle.sql_meaning.specs.TermLists.{OrTerm}
use Rattle.sql_meaning.specs.TermLaws.{IsListedOr}
use Rattle.sql_meaning.proofs.OrTerms.{or_terms_are_of_conjuncts}
use Rattle.sql_bound.specs.Statements.{bound_of}
use Rattle.where_terms.specs.Views.{or_term_of}
use Rattle.statement_scans.proofs.SeenMembers.{all_seen}
use Rattle.statement_scans.proofs.statement.push_item.Goals as goal

pub push_ors-requires-clause-listed : goal.push_ors-requires-clause-listed
push_ors-requires-clause-listed c =
    let schema = plain_schema c.args.schema.now in
    let b = bound_of c.args.bound.now in
    all_seen (λ o. IsListedOr schema b c.args.item (or_term_of o)) (IsListedOr schema b c.args.item)
    or_term_of c.args.terms.now.ors.now (λ o h. h)
    (subst (λ (os : List OrTerm). AllByRecursion (IsListedOr schema b c.args.item) os)
    (sym (ap (λ t. t.ors) c.requires.own)) (or_terms_are_of_conjuncts schema b c.args.item))
