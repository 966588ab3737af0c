-- Which words are reserved.
use Rattle.std.specs.Prelude.{ℕ, Bool, true, false, Option, None, Some, List}
use Rattle.sql_value.specs.declared.keywords.Keyword.{Keyword}
use Rattle.sql_value.specs.declared.keywords.Keyword.TheVariants as keyword
use Rattle.sql_value.specs.Keywords.{keyword_of}

-- unquoted such a keyword is no name in a statement
unfoldable pub is_reserved_word : Keyword → Bool
is_reserved_word keyword.Add = true
is_reserved_word keyword.All = true
is_reserved_word keyword.Alter = true
is_reserved_word keyword.Analyze = false
is_reserved_word keyword.And = true
is_reserved_word keyword.As = true
is_reserved_word keyword.Asc = false
is_reserved_word keyword.Attach = false
is_reserved_word keyword.Autoincrement = true
is_reserved_word keyword.Begin = false
is_reserved_word keyword.Between = true
is_reserved_word keyword.By = true
is_reserved_word keyword.Case = true
is_reserved_word keyword.Cast = false
is_reserved_word keyword.Check = true
is_reserved_word keyword.Collate = true
is_reserved_word keyword.Commit = true
is_reserved_word keyword.Constraint = true
is_reserved_word keyword.Create = true
is_reserved_word keyword.Cross = true
is_reserved_word keyword.CurrentDate = true
is_reserved_word keyword.CurrentTime = true
is_reserved_word keyword.CurrentTimestamp = true
is_reserved_word keyword.Default = true
is_reserved_word keyword.Deferrable = true
is_reserved_word keyword.Delete = true
is_reserved_word keyword.Desc = false
is_reserved_word keyword.Detach = false
is_reserved_word keyword.Distinct = true
is_reserved_word keyword.Drop = true
is_reserved_word keyword.Else = true
is_reserved_word keyword.End = false
is_reserved_word keyword.Escape = true
is_reserved_word keyword.Except = true
is_reserved_word keyword.Exists = true
is_reserved_word keyword.Explain = false
is_reserved_word keyword.Filter = false
is_reserved_word keyword.Foreign = true
is_reserved_word keyword.From = true
is_reserved_word keyword.Full = true
is_reserved_word keyword.Generated = false
is_reserved_word keyword.Glob = true
is_reserved_word keyword.Group = true
is_reserved_word keyword.Having = true
is_reserved_word keyword.If = false
is_reserved_word keyword.In = true
is_reserved_word keyword.Index = true
is_reserved_word keyword.Indexed = true
is_reserved_word keyword.Inner = true
is_reserved_word keyword.Insert = true
is_reserved_word keyword.Intersect = true
is_reserved_word keyword.Into = true
is_reserved_word keyword.Is = true
is_reserved_word keyword.Isnull = true
is_reserved_word keyword.Join = true
is_reserved_word keyword.Key = false
is_reserved_word keyword.Left = true
is_reserved_word keyword.Like = true
is_reserved_word keyword.Limit = true
is_reserved_word keyword.Match = true
is_reserved_word keyword.Natural = true
is_reserved_word keyword.Not = true
is_reserved_word keyword.Nothing = true
is_reserved_word keyword.Notnull = true
is_reserved_word keyword.Null = true
is_reserved_word keyword.Nulls = true
is_reserved_word keyword.Offset = true
is_reserved_word keyword.On = true
is_reserved_word keyword.Or = true
is_reserved_word keyword.Order = true
is_reserved_word keyword.Outer = true
is_reserved_word keyword.Over = false
is_reserved_word keyword.Pragma = false
is_reserved_word keyword.Primary = true
is_reserved_word keyword.References = true
is_reserved_word keyword.Regexp = true
is_reserved_word keyword.Reindex = false
is_reserved_word keyword.Release = false
is_reserved_word keyword.Replace = false
is_reserved_word keyword.Returning = true
is_reserved_word keyword.Right = true
is_reserved_word keyword.Rollback = false
is_reserved_word keyword.Rowid = false
is_reserved_word keyword.Savepoint = false
is_reserved_word keyword.Select = true
is_reserved_word keyword.Set = true
is_reserved_word keyword.Strict = false
is_reserved_word keyword.Table = true
is_reserved_word keyword.Temp = false
is_reserved_word keyword.Temporary = false
is_reserved_word keyword.Then = true
is_reserved_word keyword.To = true
is_reserved_word keyword.Transaction = true
is_reserved_word keyword.Trigger = false
is_reserved_word keyword.Union = true
is_reserved_word keyword.Unique = true
is_reserved_word keyword.Update = true
is_reserved_word keyword.Using = true
is_reserved_word keyword.Vacuum = false
is_reserved_word keyword.Values = true
is_reserved_word keyword.View = false
is_reserved_word keyword.Virtual = false
is_reserved_word keyword.When = true
is_reserved_word keyword.Where = true
is_reserved_word keyword.Window = true
is_reserved_word keyword.With = true
is_reserved_word keyword.Without = false

abbrev pub is_reserved_if : Option Keyword → Bool
is_reserved_if None = false
is_reserved_if (Some k) = is_reserved_word k

-- a name is written as a reserved word
abbrev pub is_reserved_name : List ℕ → Bool
is_reserved_name name = is_reserved_if (keyword_of name)
