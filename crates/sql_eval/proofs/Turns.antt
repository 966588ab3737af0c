-- Loops over members: what is left of them, and what rows a form with members needs.
use Rattle.std.proofs.Common.{◌≡◌, ℕ, Bool, Option, List, drop}
use Rattle.std.specs.Borrow.{Bor}
use Rattle.sql_value.specs.declared.values.Affinity.{Affinity}
use Rattle.sql_value.specs.declared.values.Collation.{Collation}
use Rattle.sql_meaning.specs.Values.{Value}
use Rattle.sql_meaning.specs.Evaluation.{evs}
use Rattle.sql_bound.specs.declared.expression.BExpr.{BExpr}
use Rattle.sql_bound.specs.declared.expression.BExpr.TheVariants as variant
use Rattle.sql_bound.specs.declared.expression.BExprs.{BExprs}
use Rattle.sql_eval.specs.declared.environment.Env.{Env}
use Rattle.sql_bound.specs.Expressions.{expr_of, members_of}
use Rattle.sql_eval.specs.Environments.{assignment_of, params_of, GivesRows, AllGiveRows}
use Rattle.sql_bound.proofs.Members.{plain_members, expr_of-All, expr_of-Any, expr_of-OneOf}

-- the values of the members that a loop has yet to look at
abbrev pub values_from : Env → List (Bor BExpr) → ℕ → List Value
values_from env members index =
    evs (assignment_of env) (params_of env) (plain_members (drop index members))

pub gives-All : (env : Env) (e : BExpr) (l : BExprs) → e ≡ variant.All l
    → GivesRows env (expr_of e) → AllGiveRows env (members_of l)
gives-All env e l is h = rw (is, expr_of-All l) at h

pub gives-Any : (env : Env) (e : BExpr) (l : BExprs) → e ≡ variant.Any l
    → GivesRows env (expr_of e) → AllGiveRows env (members_of l)
gives-Any env e l is h = rw (is, expr_of-Any l) at h

pub gives-OneOf : (env : Env) (e : BExpr) (negated : Bool) (left : Bor BExpr) (l : BExprs)
    (conv : Option Affinity) (coll : Collation) → e ≡ variant.OneOf negated left l conv coll
    → GivesRows env (expr_of e) → GivesRows env (expr_of left.now) × AllGiveRows env (members_of l)
gives-OneOf env e negated left l conv coll is h =
    rw (is, expr_of-OneOf negated left l conv coll) at h
