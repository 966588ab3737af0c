use Rattle.std.proofs.Common.{List, sym, subst}
use Rattle.std.specs.List.{AllByRecursion}
use Rattle.plan_choice.specs.Scans.{Scan}
use Rattle.schema_model.specs.PlainSchemas.{plain_schema}
use Rattle.sql_bound.specs.Statements.{bound_of, needs_of}
use Rattle.statement_scans.proofs.SoundScans.{IsOfSchema, scans_sound, scans_held}
use Rattle.statement_scans.proofs.statement.scans.Goals as goal

pub returns-clause-sound : goal.returns-clause-sound
returns-clause-sound c =
    let schema = plain_schema c.args.schema.now in
    scans_held c.args.schema.now c.in_ok-made.made
    (subst (λ (ss : List Scan). AllByRecursion (IsOfSchema schema) ss) (sym c.in_ok-made.ensures)
    (scans_sound schema (bound_of c.args.bound.now) (needs_of c.args.bound.now) c.requires.fits))
