-- The collations that are known, by their names.
use Rattle.std.specs.Prelude.{ℕ, List, Option, None, Some, cond, codes}
use Rattle.sql_value.specs.Keywords.{same_word}
use Rattle.sql_value.specs.declared.values.Collation.{Collation}
use Rattle.sql_value.specs.declared.values.Collation.TheVariants.{Binary, Nocase, Rtrim}

abbrev pub collation_named : List ℕ → Option Collation
collation_named name =
    cond (same_word name (codes "binary")) (Some Binary) (
    cond (same_word name (codes "nocase")) (Some Nocase) (
    cond (same_word name (codes "rtrim")) (Some Rtrim) None))
