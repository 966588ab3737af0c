-- Rows and values that are lent, as plain data.
use Rattle.std.specs.Prelude.{List, map, Option, None, Some}
use Rattle.sql_meaning.specs.Rows as rows
use Rattle.sql_meaning.specs.Values as plain
use Rattle.sql_value.specs.View.{plain_value}
use Rattle.sql_value.specs.declared.values.Value.{Value}
use Rattle.schema_model.specs.PlainSchemas.{plain_row}
use Rattle.schema_model.specs.declared.rows.Row.{Row}
use denote.Ref.{Bor}

abbrev pub lent_rows : List (Bor Row) → List rows.Row
lent_rows rows = map (λ row. plain_row row.now) rows

-- NULL where there is none
abbrev pub value_or_null : Option (Bor Value) → plain.Value
value_or_null None = plain.Null
value_or_null (Some value) = plain_value value.now
