-- What a name is found to mean, as plain data.
use Rattle.sql_bound.specs.Expressions.{expr_of}
use Rattle.sql_names.specs.Names as plain
use Rattle.sql_names.specs.declared.names.Meaning.{Meaning}
use Rattle.sql_names.specs.declared.names.Meaning.TheVariants.{Denotes, Ambiguous, Unknown}

abbrev pub plain_meaning : Meaning → plain.Meaning
plain_meaning (Denotes e) = plain.Denotes (expr_of e)
plain_meaning Ambiguous = plain.Ambiguous
plain_meaning Unknown = plain.Unknown
