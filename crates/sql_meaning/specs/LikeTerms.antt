-- The bounds that a LIKE gives a column (optoverview, "The LIKE optimization"). They follow from it
-- and have no conjunct: a seek by them consumes nothing, and the LIKE is tested all the same.
use Rattle.std.specs.Prelude.{ℕ, Bool, true, false, ◌&&◌, ◌==◌, cond, List, [], ◌∷◌, Option, Some}
use Rattle.std.specs.Prelude.{None}
use Rattle.sql_meaning.specs.Values.{Text, Nocase}
use Rattle.sql_meaning.specs.Conversions.{is_text}
use Rattle.sql_meaning.specs.Rows.{Site}
use Rattle.sql_meaning.specs.Likes.{Range, like_bounds}
use Rattle.sql_meaning.specs.Expressions.{BExpr, Lit, Like, ColumnRef, bare_column}
use Rattle.sql_meaning.specs.Schemas.{Schema, TableColumn}
use Rattle.sql_meaning.specs.Items.{Item, own_column}
use Rattle.sql_meaning.specs.Orders.{same_collation}
use Rattle.sql_meaning.specs.Paths.{KeyExpr}
use Rattle.sql_meaning.specs.Terms.{Term, TermKind, Low, High}

-- the bounds of a pattern that is a literal
abbrev pub literal_bounds : BExpr → Option Range
literal_bounds (Lit (Text pattern)) = like_bounds pattern
literal_bounds e = None

-- the column holds texts, blobs and NULL, and compares texts without their case, as LIKE does
abbrev pub orders_as_like : TableColumn → Bool
orders_as_like c = is_text (Some c.affinity) && same_collation c.collation Nocase

abbrev pub text_literal : List ℕ → KeyExpr
text_literal bytes = record { expr = Lit (Text bytes); conversion = None }

abbrev pub nocase_term : Site → TermKind → Term
nocase_term site kind = record { column = site; conjunct = None; collation = Nocase; kind = kind }

abbrev pub below_term : Site → Option (List ℕ) → List Term
below_term site None = []
below_term site (Some high) = nocase_term site (High (text_literal high) false) ∷ []

abbrev pub range_terms : Site → Range → List Term
range_terms site range =
    nocase_term site (Low (text_literal range.low) true) ∷ below_term site range.high

abbrev pub column_range : Schema → List Item → ℕ → Option ColumnRef → Option Range → List Term
column_range schema items item None range = []
column_range schema items item (Some c) None = []
column_range schema items item (Some c) (Some range) =
    cond ((c.item == item) && orders_as_like (own_column schema items c)) (range_terms c.site range)
    []

-- the bounds that a conjunct gives the item's column where it is a LIKE, not a NOT LIKE
abbrev pub like_terms : Schema → List Item → ℕ → BExpr → List Term
like_terms schema items item (Like false e pattern) =
    column_range schema items item (bare_column e) (literal_bounds pattern)
like_terms schema items item e = []
