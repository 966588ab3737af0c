-- A level whose tests can be evaluated.
use Rattle.std.specs.Prelude.{◌<◌, ℕ, length, slice_get}
use Rattle.sql_meaning.specs.Schemas.{Database}
use Rattle.sql_meaning.specs.Statements.{table_of}
use Rattle.sql_bound.specs.Statements.{bound_of}
use Rattle.bound_rows.specs.Readable.{AreReadable, lent_exprs}
use Rattle.bound_rows.specs.declared.levels.Level.{Level}

-- the table of its item
abbrev pub level_table : Level → ℕ
level_table level = table_of (slice_get (bound_of level.bound.now).items level.item)

pub record IsTestable (database : Database) (level : Level) : Type 0 where
  pub item : level.item < length level.bound.now.items.now
  pub owned : AreReadable database (bound_of level.bound.now).items (lent_exprs level.owned.items)
  pub common : AreReadable database (bound_of level.bound.now).items (lent_exprs level.common.items)
