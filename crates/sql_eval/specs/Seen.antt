-- The value that is seen, wherever it is held.
use Rattle.sql_value.specs.View.{plain_value}
use Rattle.sql_meaning.specs.Values.{Value}
use Rattle.sql_eval.specs.declared.reading.Seen.{Seen}
use Rattle.sql_eval.specs.declared.reading.Seen.TheVariants.{Held, Made}

abbrev pub seen_value : Seen → Value
seen_value (Held value) = plain_value value.now
seen_value (Made value) = plain_value value
