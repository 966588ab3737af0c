-- The columns of an item that have a term, from lists that the code makes before them.
use Rattle.std.specs.Prelude.{ℕ, Bool, List, [], ◌∷◌, Option, Some, None, map, cond}
use Rattle.std.specs.List.{filter}
use Rattle.sql_meaning.specs.Schemas.{Schema}
use Rattle.sql_meaning.specs.Items.{Item}
use Rattle.sql_meaning.specs.Rows.{Site, AtRowid, AtColumn}
use Rattle.sql_meaning.specs.Expressions.{BExpr, BExprs, Nil, More, Any, flat}
use Rattle.sql_meaning.specs.Statements.{Bound, Conjunct, numbers_from}
use Rattle.sql_meaning.specs.Terms.{Term}
use Rattle.sql_meaning.specs.Choices.{ColumnTerms}
use Rattle.sql_meaning.specs.Conjuncts.{may_serve, may_derive}
use Rattle.sql_meaning.specs.Serving.{or_served, first_served}
use Rattle.sql_meaning.specs.TermLists.{gathered, derived_terms, has_term, branch_own, OrTerm}
use Rattle.sql_meaning.specs.TermLists.{branch_likes, if_each_has_terms, or_term, unless_served}
use Rattle.sql_bound.specs.Fits.{width}

abbrev pub sites : ℕ → List Site
sites count = AtRowid ∷ map AtColumn (numbers_from 0 count)

-- the terms of a column, from what a list of conjuncts says by itself, the bounds of its LIKEs, and
-- the conjuncts from which equalities are derived
abbrev pub column_from : Schema → List Item → ℕ → List Term → List Term → List BExpr → Site
    → ColumnTerms
column_from schema items item own likes es site =
    gathered site own (derived_terms schema items es item (record { item = item; site = site }))
    likes

abbrev pub columns_from : Schema → List Item → ℕ → List Term → List Term → List BExpr
    → List ColumnTerms
columns_from schema items item own likes es =
    filter has_term
    (map (column_from schema items item own likes es) (sites (width schema items item)))

abbrev pub branch_from : Schema → Bound → ℕ → ℕ → Bool → BExpr → List ColumnTerms
branch_from schema bound item number derives e =
    columns_from schema bound.items item (branch_own schema bound item number (flat e))
    (branch_likes schema bound item (flat e)) (cond derives (flat e) [])

abbrev pub branches_from : Schema → Bound → ℕ → ℕ → Bool → BExprs
    → Option (List (List ColumnTerms))
branches_from schema bound item number derives Nil = Some []
branches_from schema bound item number derives (More e es) =
    if_each_has_terms (branch_from schema bound item number derives e)
    (branches_from schema bound item number derives es)

-- the OR term that the conjunct is with these members
abbrev pub or_found : Schema → Bound → ℕ → ℕ → Option Conjunct → BExprs → List OrTerm
or_found schema bound item number None es = []
or_found schema bound item number (Some c) es =
    unless_served (or_served item es (first_served item es))
    (or_term number (branches_from schema bound item number (may_derive bound item c) es))

abbrev pub or_found_in : Schema → Bound → ℕ → ℕ → Option Conjunct → BExpr → List OrTerm
or_found_in schema bound item number c (Any es) = or_found schema bound item number c es
or_found_in schema bound item number c e = []

abbrev pub or_found_at : Schema → Bound → ℕ → ℕ → Option Conjunct → List OrTerm
or_found_at schema bound item number None = []
or_found_at schema bound item number (Some c) =
    cond (may_serve bound item c) (or_found_in schema bound item number (Some c) c.expr) []

-- the conjunct's expression, where the conjunct is one of those that are chosen
abbrev pub chosen_in : (Conjunct → Bool) → Option Conjunct → List BExpr
chosen_in chosen None = []
chosen_in chosen (Some c) = cond (chosen c) (c.expr ∷ []) []

-- the conjunct may serve the item; or, where it derives, equalities may be derived from it
abbrev pub may_help : Bool → Bound → ℕ → Conjunct → Bool
may_help derives = cond derives may_derive may_serve
