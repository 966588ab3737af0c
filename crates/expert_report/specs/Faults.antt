-- The texts of refusals.
use Rattle.std.specs.Prelude.{ℕ, List, [], ◌++◌, codes}
use Rattle.sql_lex.specs.Constructs.{foreign_name}
use Rattle.sql_parse.specs.declared.refusals.ParseFault.{ParseFault}
use Rattle.sql_parse.specs.declared.refusals.ParseFault.TheVariants as parse
use Rattle.sql_names.specs.declared.faults.BindFault.{BindFault}
use Rattle.sql_names.specs.declared.faults.BindFault.TheVariants as bind

-- why a statement has no tree; want of memory is never told in a report
unfoldable pub parse_text : ParseFault → List ℕ
parse_text parse.Lexical = codes "unrecognized token"
parse_text (parse.Foreign f) = codes "not in this profile: " ++ foreign_name f
parse_text parse.NumberOutOfProfile = codes "number outside this profile"
parse_text parse.TooDeep = codes "expression too deep"
parse_text parse.Syntax = codes "syntax error"
parse_text parse.Memory = []

-- why its names can't be bound
unfoldable pub bind_text : BindFault → List ℕ
bind_text (bind.NoSuchTable name) = codes "no such table: " ++ name
bind_text (bind.UnreadTable name) = codes "table not read: " ++ name
bind_text (bind.NoSuchColumn name) = codes "no such column: " ++ name
bind_text (bind.AmbiguousColumn name) = codes "ambiguous column name: " ++ name
bind_text (bind.SameName name) = codes "name used twice in FROM: " ++ name
bind_text (bind.NoSuchCollation name) = codes "no such collation: " ++ name
bind_text (bind.RightName name) = codes "ON names a table to its right: " ++ name
bind_text bind.BadPosition = codes "ORDER BY position out of range"
bind_text bind.TooManyTables = codes "more than 64 tables"
bind_text bind.TooManyTerms = codes "more than 256 terms"
bind_text bind.Memory = []
