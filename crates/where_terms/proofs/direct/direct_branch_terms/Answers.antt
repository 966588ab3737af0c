use Rattle.std.proofs.Common.{◌≡◌, List, sym, subst, ap, ◌∙◌, map, ◌++◌}
use Rattle.std.specs.Borrow.{Bor}
use Rattle.std.specs.List.{AllByRecursion}
use Rattle.schema_model.specs.PlainSchemas.{plain_schema}
use Rattle.sql_meaning.specs.Expressions as plain
use Rattle.sql_meaning.specs.Expressions.{flat}
use Rattle.sql_meaning.specs.Terms.{Term}
use Rattle.sql_meaning.specs.TermLists.{branch_own}
use Rattle.sql_bound.specs.Expressions.{expr_of}
use Rattle.sql_bound.specs.Statements.{bound_of, needs_of}
use Rattle.sql_bound.specs.declared.expression.BExpr.{BExpr}
use Rattle.where_terms.proofs.MarkedTerms.{terms_marked}
use Rattle.where_terms.proofs.NamedItems.{SmallTerm, branch_own_small}
use Rattle.where_terms.proofs.direct.direct_branch_terms.Goals as goal

pub returns-clause-others : goal.returns-clause-others
returns-clause-others c =
    let schema = plain_schema c.args.schema.now in
    let b = bound_of c.args.bound.now in
    let branch = expr_of c.args.branch.now in
    let seen = λ (es : List (Bor BExpr)). map (λ e. expr_of e.now) es in
    terms_marked c.in_ok-terms.terms.items
    (subst (λ (ts : List Term). AllByRecursion SmallTerm ts)
    (sym (c.in_ok-terms.ensures
    ∙ ap (λ (es : List plain.BExpr). branch_own schema b c.args.item c.args.number es)
    (ap seen c.as_slice.ensures.value ∙ c.in_ok-flatten.ensures
    ∙ ap (λ es. seen es ++ flat branch) c.new-list.ensures.items)))
    (branch_own_small schema b (needs_of c.args.bound.now) c.args.item c.args.number branch
    c.requires.fits c.requires.names))
