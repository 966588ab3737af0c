-- A schema's names, which are kept to be found by a hash, are those of its lists.
use Rattle.std.specs.Prelude.{◌≡◌}
use Rattle.schema_model.specs.Schemas.{Schema, table_names, unread_names, index_names, IsSchema}
use Rattle.schema_model.specs.declared.schema.Schema.TheInside.{Inside}

abbrev pub held : Inside → Schema
held a = record { tables = a.tables; unread = a.unread; indexes = a.indexes }

pub record Agrees (a : Inside) : Type 0 where
  pub of_tables : a.table_names ≡ table_names a.tables
  pub of_unread : a.unread_names ≡ unread_names a.unread
  pub of_indexes : a.index_names ≡ index_names a.indexes
  pub sound : IsSchema (held a)
