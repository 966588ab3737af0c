use Rattle.std.proofs.Common.{◌≡◌, ◌↔◌, List, true, subst, ap, ◌∙◌}
use Rattle.schema_model.specs.HeldRows.{AreRows}
use Rattle.schema_model.specs.PlainSchemas.{plain_database}
use Rattle.schema_model.specs.Schemas.{Schema}
use Rattle.schema_model.specs.declared.rows.Row.{Row}
use Rattle.schema_model.specs.declared.tables.Table.{Table}
use Rattle.schema_model.proofs.HeldRows.{rows_are_database, database_has_rows}
use Rattle.schema_model.proofs.conformity.conforms.Goals as goal

pub returns : goal.returns
returns c =
    let schema = c.args.schema.now in
    let rows = c.args.tables.now in
    let tables = c.as_slice.ensures ∙ ap (λ (s : Schema). s.tables) c.schema.view_is in
    let found = subst (λ (ts : List Table). (c.are_rows.result ≡ true)
    ↔ AreRows ts (plain_database c.as_slice-2.result.now)) tables c.are_rows.ensures in
    let exact = subst (λ (rs : List (List Row)). (c.are_rows.result ≡ true)
    ↔ AreRows schema.tables (plain_database rs)) c.as_slice-2.ensures found in
    (λ e. rows_are_database schema rows (exact.0 e), λ d. exact.1 (database_has_rows schema rows d))
