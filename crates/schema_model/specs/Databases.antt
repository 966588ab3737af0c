-- The rows of a schema's tables.
use Rattle.std.specs.Prelude.{◌≡◌, List, length}
use Rattle.sql_meaning.specs.Schemas.{IsDatabaseOf}
use Rattle.schema_model.specs.PlainSchemas.{plain_schema, plain_database}
use Rattle.schema_model.specs.Schemas.{Schema}
use Rattle.schema_model.specs.declared.rows.Row.{Row}

-- a list of rows for each table, which together are a database of the schema
pub record IsDatabase (schema : Schema) (rows : List (List Row)) : Type 0 where
  pub counted : length rows ≡ length schema.tables
  pub sound : IsDatabaseOf (plain_schema schema) (plain_database rows)
