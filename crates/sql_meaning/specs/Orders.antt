-- The order that ORDER BY asks for.
use Rattle.std.specs.Prelude.{List, [], ◌∷◌, Bool, true, false, ◌==◌, cond, not}
use Rattle.std.specs.declared.cmp.Ordering.{Ordering}
use Rattle.std.specs.declared.cmp.Ordering.TheVariants.{Equal}
use Rattle.std.specs.Ordering.{ordering_then}
use Rattle.sql_meaning.specs.Values.{Value, value_cmp, Collation, Binary, Nocase, Rtrim}
use Rattle.sql_meaning.specs.Rows.{Assignment, Site, AtRowid, AtColumn}
use Rattle.sql_meaning.specs.Evaluation.{ev}
use Rattle.sql_meaning.specs.IndexLists.{directed}
use Rattle.sql_meaning.specs.Statements.{SortKey}

-- a key compares values by its collation, in its direction
abbrev pub key_cmp : List Value → SortKey → Assignment → Assignment → Ordering
key_cmp params k a b =
    directed k.falling (value_cmp k.collation) (ev a params k.expr) (ev b params k.expr)

-- by each member in turn
abbrev pub lex_of : {K : Type 0} → (K → Ordering) → List K → Ordering
lex_of f [] = Equal
lex_of f (k ∷ ks) = ordering_then (f k) (lex_of f ks)

-- by each key in turn
abbrev pub by_keys : List Value → List SortKey → Assignment → Assignment → Ordering
by_keys params ks a b = lex_of (λ k. key_cmp params k a b) ks

abbrev pub same_collation : Collation → Collation → Bool
same_collation Binary Binary = true
same_collation Nocase Nocase = true
same_collation Rtrim Rtrim = true
same_collation a b = false

abbrev pub same_site : Site → Site → Bool
same_site AtRowid AtRowid = true
same_site (AtColumn c) (AtColumn d) = c == d
same_site a b = false

abbrev pub same_flag : Bool → Bool → Bool
same_flag a b = cond a b (not b)
