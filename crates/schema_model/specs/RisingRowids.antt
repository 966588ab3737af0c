-- Rowids that rise, from one row to the next.
use Rattle.std.specs.Prelude.{ℤ, int_lt, Bool, true, Option, Some, None}

abbrev pub follows : Option ℤ → ℤ → Bool
follows None rowid = true
follows (Some last) rowid = int_lt last rowid
