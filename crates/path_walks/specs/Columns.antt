-- What lists are sorted by.
use Rattle.std.specs.Prelude.{ℕ, Option, Some, None, List, [], ◌∷◌}
use Rattle.sql_meaning.specs.Rows.{Site, AtRowid, AtColumn}
use Rattle.sql_meaning.specs.IndexLists as plain
use Rattle.sql_value.specs.View.{plain_collation}
use Rattle.path_walks.specs.declared.columns.SortColumn.{SortColumn}

abbrev pub site_of : Option ℕ → Site
site_of None = AtRowid
site_of (Some column) = AtColumn column

abbrev pub plain_sort_column : SortColumn → plain.SortColumn
plain_sort_column s = record {
  site = site_of s.column;
  collation = plain_collation s.coll;
  falling = s.desc;
}

abbrev pub first_of : List plain.SortColumn → Option plain.SortColumn
first_of [] = None
first_of (s ∷ ss) = Some s
