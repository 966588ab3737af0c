-- The index of a key whose table is there.
use Rattle.std.proofs.Common.{◌≡◌, ℕ, false, List, slice_get, Some, refl}
use Rattle.schema_model.specs.declared.tables.Table.{Table}
use Rattle.schema_model.specs.declared.indexes.IndexColumn.{IndexColumn}
use Rattle.schema_text.specs.declared.entries.KeyColumn.{KeyColumn}
use Rattle.schema_read.specs.Autoindexes.{Autoindexes, add_shape, add_key_of, name_at, is_on_rowid}
use Rattle.schema_read.specs.Autoindexes.{index_columns, shape_of}

pub same_key : (number : ℕ) (key : List KeyColumn) (table : Table) (a : Autoindexes)
    (columns : List IndexColumn)
    → slice_get a.schema.tables number ≡ Some table → is_on_rowid table.alias key ≡ false
    → columns ≡ index_columns table.columns key
    → add_shape number (name_at a.schema number) columns (shape_of columns) a
    ≡ add_key_of number key (slice_get a.schema.tables number) a
same_key number key table a columns e f g = rw (e, f, g) refl
