-- Equality parts.
use Rattle.std.specs.Prelude.{map}
use Rattle.sql_meaning.specs.Walks as plain
use Rattle.sql_value.specs.View.{plain_value}
use Rattle.path_walks.specs.declared.parts.Part.{Part}
use Rattle.path_walks.specs.declared.parts.Part.TheVariants.{One, Many, Null}

abbrev pub plain_part : Part → plain.Part
plain_part (One key) = plain.One (plain_value key)
plain_part (Many keys) = plain.Many (map plain_value keys)
plain_part Null = plain.NullPart
