-- What an index of a schema is sorted by, in the words of the plain schema.
use Rattle.std.proofs.Common.{◌≡◌, ℕ, map, ap, ◌∙◌}
use Rattle.std.specs.Prelude.{Some, slice_get}
use Rattle.std.proofs.lemmas.Option.{slice_get-map}
use Rattle.std.proofs.lemmas.Simd.{map-map}
use Rattle.std.specs.Option.{option_map}
use Rattle.sql_meaning.specs.Rows.{AtColumn}
use Rattle.sql_meaning.specs.Schemas as plain
use Rattle.sql_meaning.specs.IndexLists.{SortColumn, index_sort_columns, sort_columns}
use Rattle.schema_model.specs.PlainSchemas.{plain_index, plain_index_column, plain_schema}
use Rattle.schema_model.specs.Schemas.{Schema}
use Rattle.schema_model.specs.declared.indexes.Index.{Index}
use Rattle.index_lists.specs.SortColumns.{sort_column_of}

abbrev as_sort_column : plain.IndexColumn → SortColumn
as_sort_column c = record {
  site = AtColumn c.column;
  collation = c.collation;
  falling = c.falling;
}

pub sort_columns_are : (schema : Schema) (number : ℕ) (index : Index)
    → slice_get schema.indexes number ≡ Some index
    → sort_columns (plain_schema schema) number ≡ map sort_column_of index.columns
sort_columns_are schema number index e =
    ap index_sort_columns (slice_get-map plain_index schema.indexes number)
    ∙ ap (λ i. index_sort_columns (option_map plain_index i)) e
    ∙ map-map as_sort_column plain_index_column index.columns
