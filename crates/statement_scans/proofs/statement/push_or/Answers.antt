use Rattle.std.proofs.Common.{◌≡◌, ◌++◌, ◌≤◌, ℕ, List, OnOk, length, map, subst}
use Rattle.std.proofs.lemmas.List.{length-map}
use Rattle.plan_choice.specs.Scans.{Scan}
use Rattle.schema_model.specs.PlainSchemas.{plain_schema}
use Rattle.sql_bound.specs.Expressions.{members_of}
use Rattle.sql_bound.specs.Statements.{bound_of}
use Rattle.where_terms.specs.Views.{or_term_of, column_terms_of}
use Rattle.candidate_index.specs.Scans.{scan_of}
use Rattle.statement_scans.proofs.BranchTurns.{or_many, or_is}
use Rattle.statement_scans.proofs.statement.push_or.Goals as goal

pub push_branches-requires-clause-same : goal.push_branches-requires-clause-same
push_branches-requires-clause-same c =
    subst (λ (n : ℕ). n ≤ length c.in-Some.list.members.now)
    (length-map c.args.term.now.branches.now (λ branch. map column_terms_of branch.now))
    (or_many (plain_schema c.args.schema.now) (bound_of c.args.bound.now) c.args.item
    (or_term_of c.args.term.now) c.in-Some.list.members.now c.requires.listed c.in-Some.ensures)

pub returns-in-Some : goal.returns-in-Some
returns-in-Some c =
    subst (λ (ss : List Scan). OnOk c.push_branches.result
    (map scan_of c.push_branches.new.made ≡ map scan_of c.args.made.now ++ ss))
    (or_is (plain_schema c.args.schema.now) (bound_of c.args.bound.now) c.args.item
    (or_term_of c.args.term.now) (members_of c.in-Some.list) c.requires.listed c.in-Some.ensures)
    c.push_branches.ensures
