-- A range as plain data.
use Rattle.like_range.specs.declared.bounds.Range.{Range}
use Rattle.sql_meaning.specs.Likes as plain

abbrev pub range_of : Range → plain.Range
range_of range = record { low = range.low; high = range.high }
