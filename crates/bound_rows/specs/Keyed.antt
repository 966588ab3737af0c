-- Rows with the values of their keys.
use Rattle.std.specs.Prelude.{map}
use Rattle.sql_value.specs.View.{plain_value}
use Rattle.bound_rows.specs.Keys.{Pair}
use Rattle.bound_rows.specs.declared.sorting.Keyed.{Keyed}

abbrev pub pair_of : Keyed → Pair
pair_of keyed = (map plain_value keyed.values, keyed.places.now)
