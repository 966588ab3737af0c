use Rattle.std.proofs.Common.{◌≡◌, ◌<◌, ℕ, false, List, length, Result, Ok, Err, IfOk, subst, sym}
use Rattle.sql_meaning.specs.Statements as plain
use Rattle.sql_tree.specs.Statements.{statement_tree, StatementTree}
use Rattle.schema_model.specs.Schemas.{Schema}
use Rattle.schema_model.specs.PlainSchemas.{plain_schema}
use Rattle.sql_bound.specs.Fits.{Fits}
use Rattle.sql_bound.specs.Statements.{bound_of, needs_of}
use Rattle.sql_bound.specs.declared.statement.Bound.{Bound}
use Rattle.sql_names.specs.declared.faults.BindFault.{BindFault}
use Rattle.sql_names.specs.Faults.{Answers}
use Rattle.sql_bind.specs.Clauses.{sources_of}
use Rattle.sql_bind.specs.Sources.{begins_left}
use Rattle.sql_bind.specs.Binding.{checks}
use Rattle.sql_bind.specs.Parts.{whole, whole_statement}
use Rattle.sql_bind.proofs.FitsLaw.{statement_fits}
use Rattle.sql_bind.proofs.binding.bind.Goals as goal

fits_where_bound : (schema : Schema) (tree : StatementTree) (r : Result Bound BindFault)
    → 0 < length (sources_of tree) → begins_left (sources_of tree) ≡ false
    → Answers whole r (checks schema tree) (whole_statement schema tree)
    → IfOk r (λ b. Fits (plain_schema schema) (bound_of b) (needs_of b))
fits_where_bound schema tree (Ok b) some first h =
    subst (λ (w : plain.Bound × List (List ℕ)). Fits (plain_schema schema) w.0 w.1) (sym h.1)
    (statement_fits schema tree some first h.0)
fits_where_bound schema tree (Err fault) some first h = tt

pub returns-clause-fits : goal.returns-clause-fits
returns-clause-fits c =
    fits_where_bound c.args.schema.now (statement_tree c.args.stmt.now) c.bind_checked.result
    c.requires.source c.requires.first c.bind_checked.ensures.answer
