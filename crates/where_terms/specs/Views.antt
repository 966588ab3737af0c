-- What terms are seen as: plain data, with values in place of references.
use Rattle.std.specs.Prelude.{List, map}
use Rattle.std.specs.Borrow.{Bor}
use Rattle.sql_value.specs.View.{plain_collation}
use Rattle.sql_bound.specs.Columns.{site_of, column_ref_of}
use Rattle.sql_meaning.specs.Serving as plain_serving
use Rattle.sql_meaning.specs.Terms as plain
use Rattle.sql_meaning.specs.Choices as plain_choices
use Rattle.sql_meaning.specs.TermLists as plain_lists
use Rattle.where_terms.specs.Kinds.{term_kind_of}
use Rattle.where_terms.specs.declared.links.Link.{Link}
use Rattle.where_terms.specs.declared.serving.Served.{Served}
use Rattle.where_terms.specs.declared.term.Term.{Term}
use Rattle.where_terms.specs.declared.term.ColumnTerms.{ColumnTerms}
use Rattle.where_terms.specs.declared.term.OrTerm.{OrTerm}
use Rattle.where_terms.specs.declared.term.ItemTerms.{ItemTerms}
use Rattle.where_terms.specs.declared.term.Terms.{Terms}

abbrev pub link_of : Link → plain_lists.Pair
link_of l = record { first = column_ref_of l.first; second = column_ref_of l.second }

abbrev pub served_of : Served → plain_serving.Served
served_of s = record {
  site = site_of s.column;
  collation = plain_collation s.coll;
  kind = term_kind_of s.kind;
}

abbrev pub term_of : Term → plain.Term
term_of t = record {
  column = site_of t.column;
  conjunct = t.conjunct;
  collation = plain_collation t.coll;
  kind = term_kind_of t.kind;
}

abbrev pub column_terms_of : ColumnTerms → plain_choices.ColumnTerms
column_terms_of c = record {
  column = site_of c.column;
  equals = map term_of c.equals.now;
  lows = map term_of c.lows.now;
  highs = map term_of c.highs.now;
}

abbrev pub branches_of : List (Bor (List ColumnTerms)) → List (List plain_choices.ColumnTerms)
branches_of bs = map (λ branch. map column_terms_of branch.now) bs

abbrev pub or_term_of : OrTerm → plain_lists.OrTerm
or_term_of t = record {
  conjunct = t.conjunct;
  branches = branches_of t.branches.now;
}

abbrev pub item_terms_of : ItemTerms → plain_lists.ItemTerms
item_terms_of t = record {
  columns = map column_terms_of t.columns.now;
  ors = map or_term_of t.ors.now;
}

-- contracts speak of terms through this view alone
abbrev pub terms_of : Terms → List plain_lists.ItemTerms
terms_of t = map item_terms_of t.items.now
