-- What a statement asks of the columns of each of its items: candidates are made of this.
use Rattle.std.specs.Prelude.{ℕ, Bool, false, ◌||◌, ◌==◌, not, cond, List, [], ◌∷◌, ◌++◌}
use Rattle.std.specs.Prelude.{length, Option, Some, None, slice_get, is_none}
use Rattle.std.specs.List.{filter, flat_map}
use Rattle.list_laws.specs.FirstComing.{keep_first, has}
use Rattle.sql_meaning.specs.Rows.{Site, AtRowid, AtColumn}
use Rattle.sql_meaning.specs.Expressions.{BExpr, BExprs, Nil, More, Any, ColumnRef, bare_column}
use Rattle.sql_meaning.specs.Expressions.{names, flat}
use Rattle.sql_meaning.specs.Schemas.{Schema, IndexColumn}
use Rattle.sql_meaning.specs.Statements.{Bound, Conjunct, SortKey, is_empty, numbers_from}
use Rattle.sql_meaning.specs.Statements.{table_of, all_in}
use Rattle.sql_meaning.specs.Terms.{Term, term_keys}
use Rattle.sql_meaning.specs.Choices.{ColumnTerms}
use Rattle.sql_meaning.specs.TermLists.{is_equal, is_within, is_low, is_high, own_terms, branch_own}
use Rattle.sql_meaning.specs.TermLists.{item_terms, branch_terms, or_terms}

-- the columns of an item that conjuncts restrict: `equal`, those that are equal to what names no
-- column; `joined`, the others that are equal to something; `by_item`, for each item that alone
-- gives the keys of some, those; `bounds`, those with a bound; and `order`, those of ORDER BY
pub record Scan : Type 0 where
  pub table : ℕ
  pub equal : List IndexColumn
  pub joined : List IndexColumn
  pub by_item : List (List IndexColumn)
  pub bounds : List IndexColumn
  pub order : List IndexColumn

-- the items that the keys of a term name
abbrev pub named_items : Term → List ℕ
named_items t = flat_map (λ k. names k.expr) (term_keys t.kind)

abbrev pub is_equality : Term → Bool
is_equality t = is_equal t.kind || is_within t.kind

abbrev pub is_bound : Term → Bool
is_bound t = is_low t.kind || is_high t.kind

abbrev pub is_derived : Term → Bool
is_derived t = is_none t.conjunct

-- terms as they come: direct ones in the order of their conjuncts, then the others by column
abbrev pub by_appearance : List Term → List ColumnTerms → List Term
by_appearance direct columns =
    direct ++ filter is_derived (flat_map (λ c. c.equals ++ (c.lows ++ c.highs)) columns)

abbrev pub same_column : IndexColumn → IndexColumn → Bool
same_column a b = a.column == b.column

abbrev pub column_at : Site → Term → List IndexColumn
column_at AtRowid t = []
column_at (AtColumn column) t =
    record { column = column; collation = t.collation; falling = false } ∷ []

-- the columns of terms, each once, as the first term of it compares it; the rowid isn't among them
abbrev pub columns_in : List Term → List IndexColumn
columns_in ts = keep_first same_column [] (flat_map (λ t. column_at t.column t) ts)

-- columns but for those of another list
abbrev pub apart_from : List IndexColumn → List IndexColumn → List IndexColumn
apart_from others columns = filter (λ c. not (has same_column others c)) columns

-- these items are this one, and no other one
abbrev pub names_only : ℕ → List ℕ → Bool
names_only item [] = false
names_only item (i ∷ is) = all_in (i ∷ is) (item ∷ [])

abbrev pub if_any : List IndexColumn → List (List IndexColumn)
if_any [] = []
if_any (c ∷ cs) = (c ∷ cs) ∷ []

-- the scan of terms: on a table, in a statement of so many items
abbrev pub scan_of : ℕ → ℕ → List IndexColumn → List Term → Scan
scan_of table items order ts =
    let equalities = filter is_equality ts
    in let equal = columns_in (filter (λ t. is_empty (named_items t)) equalities)
    in record {
      table = table;
      equal = equal;
      joined = apart_from equal (columns_in equalities);
      by_item =
          flat_map
          (λ u. if_any
          (apart_from equal (columns_in (filter (λ t. names_only u (named_items t)) equalities))))
          (numbers_from 0 items);
      bounds = columns_in (filter is_bound ts);
      order = order;
    }

abbrev pub key_column : SortKey → ℕ → IndexColumn
key_column k column =
    record { column = column; collation = k.collation; falling = k.falling }

abbrev pub then_columns : IndexColumn → Option (List IndexColumn) → Option (List IndexColumn)
then_columns c None = None
then_columns c (Some cs) = Some (c ∷ cs)

-- a rowid among the keys is passed over where it stands last and rises, since index entries that
-- tie rise by rowid; anywhere else no index gives the order
abbrev pub at_key : SortKey → List SortKey → Site → Option (List IndexColumn)
    → Option (List IndexColumn)
at_key k rest (AtColumn column) later = then_columns (key_column k column) later
at_key k [] AtRowid later = cond k.falling None (Some [])
at_key k (next ∷ rest) AtRowid later = None

abbrev pub if_own : ℕ → Option ColumnRef → (Site → Option (List IndexColumn))
    → Option (List IndexColumn)
if_own item None go = None
if_own item (Some c) go = cond (c.item == item) (go c.site) None

-- the columns of all keys, where each is one of the item
abbrev pub key_columns : ℕ → List SortKey → Option (List IndexColumn)
key_columns item [] = Some []
key_columns item (k ∷ ks) =
    if_own item (bare_column k.expr) (λ site. at_key k ks site (key_columns item ks))

abbrev pub or_nothing : Option (List IndexColumn) → List IndexColumn
or_nothing None = []
or_nothing (Some cs) = cs

abbrev pub order_columns : Bound → ℕ → List IndexColumn
order_columns bound item =
    keep_first same_column [] (or_nothing (key_columns item bound.keys))

abbrev pub item_scan : Schema → Bound → ℕ → Scan
item_scan schema bound item =
    scan_of (table_of (slice_get bound.items item)) (length bound.items) (order_columns bound item)
    (by_appearance (own_terms schema bound item) (item_terms schema bound item))

-- a branch of an OR is a list of conjuncts of its own, and asks for no order
abbrev pub branch_scan : Schema → Bound → Conjunct → ℕ → ℕ → BExpr → Scan
branch_scan schema bound c item number e =
    scan_of (table_of (slice_get bound.items item)) (length bound.items) []
    (by_appearance (branch_own schema bound item number (flat e))
    (branch_terms schema bound c item number e))

abbrev pub branch_scans_of : Schema → Bound → Conjunct → ℕ → ℕ → BExprs → List Scan
branch_scans_of schema bound c item number Nil = []
branch_scans_of schema bound c item number (More e es) =
    branch_scan schema bound c item number e ∷ branch_scans_of schema bound c item number es

abbrev pub scans_of_any : Schema → Bound → Conjunct → ℕ → ℕ → BExpr → List Scan
scans_of_any schema bound c item number (Any es) =
    branch_scans_of schema bound c item number es
scans_of_any schema bound c item number e = []

abbrev pub scans_of_or : Schema → Bound → ℕ → ℕ → Option Conjunct → List Scan
scans_of_or schema bound item number None = []
scans_of_or schema bound item number (Some c) =
    scans_of_any schema bound c item number c.expr

abbrev pub scans_of_item : Schema → Bound → ℕ → List Scan
scans_of_item schema bound item =
    item_scan schema bound item
    ∷ flat_map
    (λ o. scans_of_or schema bound item o.conjunct (slice_get bound.conjuncts o.conjunct))
    (or_terms schema bound item)

-- for each item its scan, then one for each branch of each of its OR terms
abbrev pub scans : Schema → Bound → List Scan
scans schema bound =
    flat_map (scans_of_item schema bound) (numbers_from 0 (length bound.items))
