-- The term that a conjunct gives, as a function: what `Serves` allows, in the order in which it is
-- tried.
use Rattle.std.specs.Prelude.{Bool, true, false, Option, Some, None, ℕ, cond, ◌&&◌, ◌==◌, not, List}
use Rattle.std.specs.Prelude.{◌∷◌, [], suc, ◌++◌}
use Rattle.std.specs.Option.{option_or}
use Rattle.sql_meaning.specs.Values.{Collation, Affinity}
use Rattle.sql_meaning.specs.Rows.{Site}
use Rattle.sql_meaning.specs.Terms.{TermKind, flipped, kind_of, Equals, Within, IsNothing}
use Rattle.sql_meaning.specs.Terms.{entry_keys, Term}
use Rattle.sql_meaning.specs.Expressions.{ColumnRef, BExpr, Cmp, names, bare_column, BExprs, Nil}
use Rattle.sql_meaning.specs.Expressions.{More, OneOf, IsNull, Any, all_names}
use Rattle.sql_meaning.specs.Statements.{has_number, Conjunct, Bound}
use Rattle.sql_meaning.specs.Paths.{KeyExpr}
use Rattle.sql_meaning.specs.Orders.{same_collation, same_site}
use Rattle.sql_meaning.specs.Conjuncts.{may_serve}

-- a conjunct's term, but for its number
pub record Served : Type 0 where
  pub site : Site
  pub collation : Collation
  pub kind : TermKind

abbrev pub no_conversion : Option Affinity → Bool
no_conversion None = true
no_conversion (Some aff) = false

-- this side is a column of the item, and the other side is fit to be its key
abbrev pub side_served : ℕ → Option ColumnRef → Bool → Option TermKind → Collation → Option Served
side_served item None ok kind collation = None
side_served item (Some c) ok None collation = None
side_served item (Some c) ok (Some kind) collation =
    cond ((c.item == item) && ok)
    (Some (record { site = c.site; collation = collation; kind = kind })) None

-- a comparison serves from its left side, else from its right side
abbrev pub comparison_served : ℕ → BExpr → Option Served
comparison_served item (Cmp op left right left_conversion right_conversion collation) =
    option_or
    (side_served item (bare_column left)
    (no_conversion left_conversion && not (has_number item (names right)))
    (kind_of op (record { expr = right; conversion = right_conversion })) collation)
    (side_served item (bare_column right)
    (no_conversion right_conversion && not (has_number item (names left)))
    (kind_of (flipped op) (record { expr = left; conversion = left_conversion })) collation)
comparison_served item e = None

abbrev pub equal_key : Bool → TermKind → Option KeyExpr
equal_key true (Equals key) = Some key
equal_key b kind = None

abbrev pub key_under : Site → Collation → Option Served → Option KeyExpr
key_under site collation None = None
key_under site collation (Some s) =
    equal_key (same_site s.site site && same_collation s.collation collation) s.kind

abbrev pub keys_or : Option KeyExpr → Option (List KeyExpr) → Option (List KeyExpr)
keys_or None o = None
keys_or (Some key) None = None
keys_or (Some key) (Some keys) = Some (key ∷ keys)

-- the keys of an OR, where each of its members is an equality of this column under this collation
abbrev pub keys_under : ℕ → Site → Collation → BExprs → Option (List KeyExpr)
keys_under item site collation Nil = Some []
keys_under item site collation (More e es) =
    keys_or (key_under site collation (comparison_served item e))
    (keys_under item site collation es)

abbrev pub within : Site → Collation → Option (List KeyExpr) → Option Served
within site collation None = None
within site collation (Some keys) =
    Some (record { site = site; collation = collation; kind = Within keys })

abbrev pub or_served : ℕ → BExprs → Option Served → Option Served
or_served item es None = None
or_served item es (Some s) = within s.site s.collation (keys_under item s.site s.collation es)

abbrev pub first_served : ℕ → BExprs → Option Served
first_served item Nil = None
first_served item (More e es) = comparison_served item e

abbrev pub null_served : (Site → Collation) → ℕ → Option ColumnRef → Option Served
null_served own item None = None
null_served own item (Some c) =
    cond (c.item == item)
    (Some (record { site = c.site; collation = own c.site; kind = IsNothing })) None

-- what a conjunct says of an item; `own` gives a column's own collation, which IS NULL takes
abbrev pub serving : (Site → Collation) → ℕ → BExpr → Option Served
serving own item (Cmp op left right left_conversion right_conversion collation) =
    comparison_served item (Cmp op left right left_conversion right_conversion collation)
serving own item (OneOf true left entries entry_conversion collation) = None
serving own item (OneOf false left entries entry_conversion collation) =
    side_served item (bare_column left) (not (has_number item (all_names entries)))
    (Some (Within (entry_keys entry_conversion entries))) collation
serving own item (IsNull true e) = None
serving own item (IsNull false e) = null_served own item (bare_column e)
serving own item (Any es) = or_served item es (first_served item es)
serving own item e = None

abbrev pub numbered_term : ℕ → Option Served → List Term
numbered_term number None = []
numbered_term number (Some s) =
    record { column = s.site; conjunct = Some number; collation = s.collation; kind = s.kind } ∷ []

abbrev pub if_allowed : Bool → Option Served → Option Served
if_allowed true o = o
if_allowed false o = None

-- the direct terms of an item, by conjunct number
abbrev pub direct_terms : (Site → Collation) → Bound → ℕ → ℕ → List Conjunct → List Term
direct_terms own bound item number [] = []
direct_terms own bound item number (c ∷ cs) =
    numbered_term number (if_allowed (may_serve bound item c) (serving own item c.expr))
    ++ (direct_terms own bound item (suc number) cs)
