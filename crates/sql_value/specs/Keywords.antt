-- The words of the language.
use Rattle.std.specs.Prelude.{ℕ, ◌==◌, Bool, false, Option, None, Some, List, [], ◌∷◌}
use Rattle.std.specs.Prelude.{map, codes, cond}
use Rattle.std.specs.Str.{bytes_eq}
use Rattle.sql_meaning.specs.Letters.{folded}
use Rattle.sql_value.specs.declared.keywords.Keyword.{Keyword}
use Rattle.sql_value.specs.declared.keywords.Keyword.TheVariants as keyword

-- how a keyword is written, in capital letters
unfoldable pub word_of : Keyword → List ℕ
word_of keyword.Add = codes "ADD"
word_of keyword.All = codes "ALL"
word_of keyword.Alter = codes "ALTER"
word_of keyword.Analyze = codes "ANALYZE"
word_of keyword.And = codes "AND"
word_of keyword.As = codes "AS"
word_of keyword.Asc = codes "ASC"
word_of keyword.Attach = codes "ATTACH"
word_of keyword.Autoincrement = codes "AUTOINCREMENT"
word_of keyword.Begin = codes "BEGIN"
word_of keyword.Between = codes "BETWEEN"
word_of keyword.By = codes "BY"
word_of keyword.Case = codes "CASE"
word_of keyword.Cast = codes "CAST"
word_of keyword.Check = codes "CHECK"
word_of keyword.Collate = codes "COLLATE"
word_of keyword.Commit = codes "COMMIT"
word_of keyword.Constraint = codes "CONSTRAINT"
word_of keyword.Create = codes "CREATE"
word_of keyword.Cross = codes "CROSS"
word_of keyword.CurrentDate = codes "CURRENT_DATE"
word_of keyword.CurrentTime = codes "CURRENT_TIME"
word_of keyword.CurrentTimestamp = codes "CURRENT_TIMESTAMP"
word_of keyword.Default = codes "DEFAULT"
word_of keyword.Deferrable = codes "DEFERRABLE"
word_of keyword.Delete = codes "DELETE"
word_of keyword.Desc = codes "DESC"
word_of keyword.Detach = codes "DETACH"
word_of keyword.Distinct = codes "DISTINCT"
word_of keyword.Drop = codes "DROP"
word_of keyword.Else = codes "ELSE"
word_of keyword.End = codes "END"
word_of keyword.Escape = codes "ESCAPE"
word_of keyword.Except = codes "EXCEPT"
word_of keyword.Exists = codes "EXISTS"
word_of keyword.Explain = codes "EXPLAIN"
word_of keyword.Filter = codes "FILTER"
word_of keyword.Foreign = codes "FOREIGN"
word_of keyword.From = codes "FROM"
word_of keyword.Full = codes "FULL"
word_of keyword.Generated = codes "GENERATED"
word_of keyword.Glob = codes "GLOB"
word_of keyword.Group = codes "GROUP"
word_of keyword.Having = codes "HAVING"
word_of keyword.If = codes "IF"
word_of keyword.In = codes "IN"
word_of keyword.Index = codes "INDEX"
word_of keyword.Indexed = codes "INDEXED"
word_of keyword.Inner = codes "INNER"
word_of keyword.Insert = codes "INSERT"
word_of keyword.Intersect = codes "INTERSECT"
word_of keyword.Into = codes "INTO"
word_of keyword.Is = codes "IS"
word_of keyword.Isnull = codes "ISNULL"
word_of keyword.Join = codes "JOIN"
word_of keyword.Key = codes "KEY"
word_of keyword.Left = codes "LEFT"
word_of keyword.Like = codes "LIKE"
word_of keyword.Limit = codes "LIMIT"
word_of keyword.Match = codes "MATCH"
word_of keyword.Natural = codes "NATURAL"
word_of keyword.Not = codes "NOT"
word_of keyword.Nothing = codes "NOTHING"
word_of keyword.Notnull = codes "NOTNULL"
word_of keyword.Null = codes "NULL"
word_of keyword.Nulls = codes "NULLS"
word_of keyword.Offset = codes "OFFSET"
word_of keyword.On = codes "ON"
word_of keyword.Or = codes "OR"
word_of keyword.Order = codes "ORDER"
word_of keyword.Outer = codes "OUTER"
word_of keyword.Over = codes "OVER"
word_of keyword.Pragma = codes "PRAGMA"
word_of keyword.Primary = codes "PRIMARY"
word_of keyword.References = codes "REFERENCES"
word_of keyword.Regexp = codes "REGEXP"
word_of keyword.Reindex = codes "REINDEX"
word_of keyword.Release = codes "RELEASE"
word_of keyword.Replace = codes "REPLACE"
word_of keyword.Returning = codes "RETURNING"
word_of keyword.Right = codes "RIGHT"
word_of keyword.Rollback = codes "ROLLBACK"
word_of keyword.Rowid = codes "ROWID"
word_of keyword.Savepoint = codes "SAVEPOINT"
word_of keyword.Select = codes "SELECT"
word_of keyword.Set = codes "SET"
word_of keyword.Strict = codes "STRICT"
word_of keyword.Table = codes "TABLE"
word_of keyword.Temp = codes "TEMP"
word_of keyword.Temporary = codes "TEMPORARY"
word_of keyword.Then = codes "THEN"
word_of keyword.To = codes "TO"
word_of keyword.Transaction = codes "TRANSACTION"
word_of keyword.Trigger = codes "TRIGGER"
word_of keyword.Union = codes "UNION"
word_of keyword.Unique = codes "UNIQUE"
word_of keyword.Update = codes "UPDATE"
word_of keyword.Using = codes "USING"
word_of keyword.Vacuum = codes "VACUUM"
word_of keyword.Values = codes "VALUES"
word_of keyword.View = codes "VIEW"
word_of keyword.Virtual = codes "VIRTUAL"
word_of keyword.When = codes "WHEN"
word_of keyword.Where = codes "WHERE"
word_of keyword.Window = codes "WINDOW"
word_of keyword.With = codes "WITH"
word_of keyword.Without = codes "WITHOUT"

unfoldable pub all_keywords : List Keyword
all_keywords =
    keyword.Add ∷
    keyword.All ∷
    keyword.Alter ∷
    keyword.Analyze ∷
    keyword.And ∷
    keyword.As ∷
    keyword.Asc ∷
    keyword.Attach ∷
    keyword.Autoincrement ∷
    keyword.Begin ∷
    keyword.Between ∷
    keyword.By ∷
    keyword.Case ∷
    keyword.Cast ∷
    keyword.Check ∷
    keyword.Collate ∷
    keyword.Commit ∷
    keyword.Constraint ∷
    keyword.Create ∷
    keyword.Cross ∷
    keyword.CurrentDate ∷
    keyword.CurrentTime ∷
    keyword.CurrentTimestamp ∷
    keyword.Default ∷
    keyword.Deferrable ∷
    keyword.Delete ∷
    keyword.Desc ∷
    keyword.Detach ∷
    keyword.Distinct ∷
    keyword.Drop ∷
    keyword.Else ∷
    keyword.End ∷
    keyword.Escape ∷
    keyword.Except ∷
    keyword.Exists ∷
    keyword.Explain ∷
    keyword.Filter ∷
    keyword.Foreign ∷
    keyword.From ∷
    keyword.Full ∷
    keyword.Generated ∷
    keyword.Glob ∷
    keyword.Group ∷
    keyword.Having ∷
    keyword.If ∷
    keyword.In ∷
    keyword.Index ∷
    keyword.Indexed ∷
    keyword.Inner ∷
    keyword.Insert ∷
    keyword.Intersect ∷
    keyword.Into ∷
    keyword.Is ∷
    keyword.Isnull ∷
    keyword.Join ∷
    keyword.Key ∷
    keyword.Left ∷
    keyword.Like ∷
    keyword.Limit ∷
    keyword.Match ∷
    keyword.Natural ∷
    keyword.Not ∷
    keyword.Nothing ∷
    keyword.Notnull ∷
    keyword.Null ∷
    keyword.Nulls ∷
    keyword.Offset ∷
    keyword.On ∷
    keyword.Or ∷
    keyword.Order ∷
    keyword.Outer ∷
    keyword.Over ∷
    keyword.Pragma ∷
    keyword.Primary ∷
    keyword.References ∷
    keyword.Regexp ∷
    keyword.Reindex ∷
    keyword.Release ∷
    keyword.Replace ∷
    keyword.Returning ∷
    keyword.Right ∷
    keyword.Rollback ∷
    keyword.Rowid ∷
    keyword.Savepoint ∷
    keyword.Select ∷
    keyword.Set ∷
    keyword.Strict ∷
    keyword.Table ∷
    keyword.Temp ∷
    keyword.Temporary ∷
    keyword.Then ∷
    keyword.To ∷
    keyword.Transaction ∷
    keyword.Trigger ∷
    keyword.Union ∷
    keyword.Unique ∷
    keyword.Update ∷
    keyword.Using ∷
    keyword.Vacuum ∷
    keyword.Values ∷
    keyword.View ∷
    keyword.Virtual ∷
    keyword.When ∷
    keyword.Where ∷
    keyword.Window ∷
    keyword.With ∷
    keyword.Without ∷
    []

-- two words are the same but for the case of ASCII letters
abbrev pub same_word : List ℕ → List ℕ → Bool
same_word v w = bytes_eq (map folded v) (map folded w)

-- the first of these keywords that is written so
abbrev pub find_word : List ℕ → List Keyword → Option Keyword
find_word w [] = None
find_word w (k ∷ ks) = cond (same_word w (word_of k)) (Some k) (find_word w ks)

-- the keyword that a word is
unfoldable pub keyword_of : List ℕ → Option Keyword
keyword_of w = find_word w all_keywords

abbrev pub starts_with : ℕ → List ℕ → Bool
starts_with letter [] = false
starts_with letter (c ∷ cs) = letter == c

-- the keyword begins with this small letter
abbrev pub begins_with : ℕ → Keyword → Bool
begins_with letter k = starts_with letter (map folded (word_of k))
