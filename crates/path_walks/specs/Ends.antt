-- Ends of ranges.
use Rattle.std.specs.Prelude.{Bool, false, Option, Some, None}
use Rattle.sql_meaning.specs.Walks as plain
use Rattle.sql_meaning.specs.Values.{is_null}
use Rattle.sql_value.specs.View.{plain_value}
use Rattle.path_walks.specs.declared.ends.End.{End}
use denote.Ref.{Bor}

abbrev pub plain_end : Option (Bor End) → Option plain.End
plain_end None = None
plain_end (Some e) = Some (record { key = plain_value e.now.key; inclusive = e.now.inclusive })

abbrev pub has_null_key : Option plain.End → Bool
has_null_key None = false
has_null_key (Some e) = is_null e.key
