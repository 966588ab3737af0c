-- Values as plain data: texts and blobs are lists of bytes.
use Rattle.sql_value.specs.declared.values.Affinity.{Affinity}
use Rattle.sql_value.specs.declared.values.Affinity.TheVariants.{Integer, Real, Numeric}
use Rattle.sql_value.specs.declared.values.Affinity.TheVariants.{Text as TextAffinity}
use Rattle.sql_value.specs.declared.values.Affinity.TheVariants.{Blob as BlobAffinity}
use Rattle.sql_value.specs.declared.values.Collation.{Collation}
use Rattle.sql_value.specs.declared.values.Collation.TheVariants.{Binary, Nocase, Rtrim}
use Rattle.sql_value.specs.declared.values.Value.{Value}
use Rattle.sql_value.specs.declared.values.Value.TheVariants.{Null, Int, Dec, Text, Blob}
use Rattle.sql_meaning.specs.Values as plain

abbrev pub plain_value : Value → plain.Value
plain_value Null = plain.Null
plain_value (Int number) = plain.Int number
plain_value (Dec units) = plain.Dec units
plain_value (Text bytes) = plain.Text bytes
plain_value (Blob bytes) = plain.Blob bytes

abbrev pub plain_collation : Collation → plain.Collation
plain_collation Binary = plain.Binary
plain_collation Nocase = plain.Nocase
plain_collation Rtrim = plain.Rtrim

abbrev pub plain_affinity : Affinity → plain.Affinity
plain_affinity Integer = plain.Integer
plain_affinity Real = plain.Real
plain_affinity Numeric = plain.Numeric
plain_affinity TextAffinity = plain.TextAffinity
plain_affinity BlobAffinity = plain.BlobAffinity
