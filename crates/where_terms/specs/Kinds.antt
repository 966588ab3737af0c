-- What kinds of terms are seen as: plain data, with values in place of references.
use Rattle.sql_meaning.specs.Terms as plain
use Rattle.sql_bound.specs.Statements.{key_expr_of, key_exprs_of}
use Rattle.where_terms.specs.declared.kind.TermKind.{TermKind}
use Rattle.where_terms.specs.declared.kind.TermKind.TheVariants as kind

abbrev pub term_kind_of : TermKind → plain.TermKind
term_kind_of (kind.Equal key) = plain.Equals (key_expr_of key)
term_kind_of (kind.OneOf keys) = plain.Within (key_exprs_of keys)
term_kind_of kind.IsNull = plain.IsNothing
term_kind_of (kind.Low key inclusive) = plain.Low (key_expr_of key) inclusive
term_kind_of (kind.High key inclusive) = plain.High (key_expr_of key) inclusive
