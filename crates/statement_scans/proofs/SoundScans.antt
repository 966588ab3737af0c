-- The scans of a statement that fits a schema are of its tables, and of their columns.
use Rattle.std.proofs.Common.{◌≡◌, ◌<◌, ◌+◌, ◌==◌, ℕ, zero, suc, Bool, true, false, cond, List, []}
use Rattle.std.proofs.Common.{◌∷◌, Option, Some, None, refl, ap, sym, ◌∙◌, subst, map, slice_get}
use Rattle.std.proofs.Common.{length, arith}
use Rattle.std.proofs.lemmas.Bool.{eqb-true}
use Rattle.std.proofs.lemmas.List.{length-map}
use Rattle.std.specs.List.{AllByRecursion, filter, flat_map}
use Rattle.list_laws.proofs.FirstComings.{all_keep}
use Rattle.list_laws.proofs.Lists.{all_map, all_flat_map, all_filter, all_always}
use Rattle.sql_meaning.specs.Rows.{Site, AtRowid, AtColumn}
use Rattle.sql_meaning.specs.Schemas.{Schema, IndexColumn, columns_of}
use Rattle.sql_meaning.specs.Items.{Item}
use Rattle.sql_meaning.specs.Expressions.{BExpr, BExprs, Nil, More, Any, ColumnRef, bare_column}
use Rattle.sql_meaning.specs.Statements.{Bound, Conjunct, SortKey, table_of, is_empty, numbers_from}
use Rattle.sql_meaning.specs.Terms.{Term}
use Rattle.sql_meaning.specs.TermLists.{OrTerm, own_terms, item_terms, or_terms}
use Rattle.sql_meaning.specs.TermLists.{branch_terms}
use Rattle.sql_meaning.specs.TermLaws.{IsListedOr}
use Rattle.sql_meaning.proofs.Links.{all_at}
use Rattle.sql_meaning.proofs.OrTerms.{or_terms_are_of_conjuncts}
use Rattle.plan_choice.specs.Scans.{Scan, scan_of, column_at, columns_in, same_column, apart_from}
use Rattle.plan_choice.specs.Scans.{is_equality, is_bound, named_items, names_only, if_any}
use Rattle.plan_choice.specs.Scans.{key_column, then_columns, at_key, if_own, key_columns}
use Rattle.plan_choice.specs.Scans.{or_nothing, order_columns, item_scan, branch_scan}
use Rattle.plan_choice.specs.Scans.{branch_scans_of, scans_of_or, scans_of_any, scans_of_item, scans}
use Rattle.plan_choice.proofs.SoundLevels.{numbers_below}
use Rattle.schema_model.specs.CreateTexts.{AreInTable}
use Rattle.schema_model.specs.PlainSchemas.{plain_schema, plain_table, plain_column}
use Rattle.schema_model.specs.PlainSchemas.{plain_index_column}
use Rattle.schema_model.specs.Schemas.{Schema as Named, columns_at}
use Rattle.schema_model.specs.declared.indexes.IndexColumn as code
use Rattle.schema_model.specs.declared.tables.Table.{Table}
use Rattle.sql_bound.specs.Fits.{NamesExist, AllNamesExist, IsSound, Fits, width}
use Rattle.statement_scans.proofs.SeenMembers.{all_seen}
use Rattle.candidate_index.specs.Scans.{scan_of as held_scan, join_of, IsScanOf, AreScansOf}
use Rattle.candidate_index.specs.declared.asked.Scan.{Scan as Held}
use Rattle.candidate_index.proofs.StartColumns.{AreBelow, of_below}
use Rattle.statement_scans.proofs.PlacedTerms.{IsSiteIn, IsTermIn, bare_in, own_in, branch_own_in}
use Rattle.statement_scans.proofs.PlacedTerms.{item_terms_in, branch_terms_in, appearing_in}

-- of a table that is there, and of its columns
pub record IsOfSchema (schema : Schema) (s : Scan) : Type 0 where
  pub table : s.table < length schema.tables
  pub equal : AreBelow (length (columns_of (slice_get schema.tables s.table))) s.equal
  pub joined : AreBelow (length (columns_of (slice_get schema.tables s.table))) s.joined
  pub by_item : AllByRecursion
      (AreBelow (length (columns_of (slice_get schema.tables s.table)))) s.by_item
  pub bounds : AreBelow (length (columns_of (slice_get schema.tables s.table))) s.bounds
  pub order : AreBelow (length (columns_of (slice_get schema.tables s.table))) s.order

column_below : (n : ℕ) (t : Term) (site : Site) → t.column ≡ site → IsTermIn n t
    → AreBelow n (column_at site t)
column_below n t AtRowid e h = tt
column_below n t (AtColumn column) e h = (now, tt)
  where
    now : column < n
    now = rw e at h

columns_below : (n : ℕ) (ts : List Term) → AllByRecursion (IsTermIn n) ts
    → AreBelow n (columns_in ts)
columns_below n ts h =
    all_keep same_column (λ (c : IndexColumn). c.column < n)
    (flat_map (λ t. column_at t.column t) ts) []
    (all_flat_map (λ (c : IndexColumn). c.column < n) (λ t. column_at t.column t) ts
    (all_map (IsTermIn n) (λ t. AreBelow n (column_at t.column t)) ts
    (λ t k. column_below n t t.column refl k) h))

apart_below : (n : ℕ) (others columns : List IndexColumn) → AreBelow n columns
    → AreBelow n (apart_from others columns)
apart_below n others columns h = all_filter (λ (c : IndexColumn). c.column < n) _ columns h

some_below : (n : ℕ) (columns : List IndexColumn) → AreBelow n columns
    → AllByRecursion (AreBelow n) (if_any columns)
some_below n [] h = tt
some_below n (c ∷ cs) h = (h, tt)

scan_sound : (schema : Schema) (table items : ℕ) (order : List IndexColumn) (ts : List Term)
    → table < length schema.tables
    → AreBelow (length (columns_of (slice_get schema.tables table))) order
    → AllByRecursion (IsTermIn (length (columns_of (slice_get schema.tables table)))) ts
    → IsOfSchema schema (scan_of table items order ts)
scan_sound schema table items order ts there ordered h =
    let n = length (columns_of (slice_get schema.tables table)) in
    let equalities = filter is_equality ts in
    let each : AllByRecursion (IsTermIn n) equalities = all_filter (IsTermIn n) is_equality ts h in
    record {
      table = there;
      equal = columns_below n (filter (λ t. is_empty (named_items t)) equalities)
          (all_filter (IsTermIn n) (λ t. is_empty (named_items t)) equalities each);
      joined = apart_below n _ (columns_in equalities) (columns_below n equalities each);
      by_item = all_flat_map (AreBelow n) _ (numbers_from 0 items)
          (all_always _ (numbers_from 0 items)
          (λ u. some_below n _
          (apart_below n _ (columns_in (filter (λ t. names_only u (named_items t)) equalities))
          (columns_below n (filter (λ t. names_only u (named_items t)) equalities)
          (all_filter (IsTermIn n) (λ t. names_only u (named_items t)) equalities each)))));
      bounds = columns_below n (filter is_bound ts) (all_filter (IsTermIn n) is_bound ts h);
      order = ordered;
    }

-- the columns of ORDER BY
abbrev SomeBelow : ℕ → Option (List IndexColumn) → Type 0
SomeBelow n o = AreBelow n (or_nothing o)

first_below : (n : ℕ) (c : IndexColumn) (o : Option (List IndexColumn)) → c.column < n
    → SomeBelow n o → SomeBelow n (then_columns c o)
first_below n c None h k = tt
first_below n c (Some cs) h k = (h, k)

nothing_below : (n : ℕ) (falling : Bool) → SomeBelow n (cond falling None (Some []))
nothing_below n true = tt
nothing_below n false = tt

key_below : (schema : Schema) (items : List Item) (item : ℕ) (k : SortKey) (ks : List SortKey)
    (later : Option (List IndexColumn)) (c : ColumnRef) (site : Site) → c.site ≡ site
    → NamesExist schema items k.expr → bare_column k.expr ≡ Some c → c.item ≡ item
    → SomeBelow (width schema items item) later
    → SomeBelow (width schema items item) (at_key k ks site later)
key_below schema items item k ks later c (AtColumn column) at names e same h =
    first_below (width schema items item) (key_column k column) later here h
  where
    here : column < width schema items item
    here =
        subst (λ (i : ℕ). IsSiteIn (width schema items i) (AtColumn column)) same
        (subst (λ (s : Site). IsSiteIn (width schema items c.item) s) at
        (bare_in schema items k.expr c names e))
key_below schema items item k [] later c AtRowid at names e same h =
    nothing_below (width schema items item) k.falling
key_below schema items item k (next ∷ rest) later c AtRowid at names e same h = tt

own_case : (n : ℕ) (b : Bool) (o : Option (List IndexColumn)) → (b ≡ true → SomeBelow n o)
    → SomeBelow n (cond b o None)
own_case n true o f = f refl
own_case n false o f = tt

own_below : (schema : Schema) (items : List Item) (item : ℕ) (k : SortKey) (ks : List SortKey)
    (later : Option (List IndexColumn)) (o : Option ColumnRef) → bare_column k.expr ≡ o
    → NamesExist schema items k.expr → SomeBelow (width schema items item) later
    → SomeBelow (width schema items item) (if_own item o (λ site. at_key k ks site later))
own_below schema items item k ks later None e names h = tt
own_below schema items item k ks later (Some c) e names h =
    own_case (width schema items item) (c.item == item) (at_key k ks c.site later)
    (λ same. key_below schema items item k ks later c c.site refl names e
    (eqb-true c.item item same) h)

keys_below : (schema : Schema) (items : List Item) (item : ℕ) (ks : List SortKey)
    → AllByRecursion (λ k. IsSound schema items k.expr) ks
    → SomeBelow (width schema items item) (key_columns item ks)
keys_below schema items item [] h = tt
keys_below schema items item (k ∷ ks) h =
    own_below schema items item k ks (key_columns item ks) (bare_column k.expr) refl h.0.names
    (keys_below schema items item ks h.1)

order_below : (schema : Schema) (bound : Bound) (item : ℕ)
    → AllByRecursion (λ k. IsSound schema bound.items k.expr) bound.keys
    → AreBelow (width schema bound.items item) (order_columns bound item)
order_below schema bound item h =
    all_keep same_column (λ (c : IndexColumn). c.column < width schema bound.items item)
    (or_nothing (key_columns item bound.keys)) [] (keys_below schema bound.items item bound.keys h)

table_there : (schema : Schema) (items : List Item) (item : ℕ)
    → AllByRecursion (λ i. i.table < length schema.tables) items → item < length items
    → table_of (slice_get items item) < length schema.tables
table_there schema [] item h below = absurd (omega (arith, below))
table_there schema (i ∷ items) zero h below = h.0
table_there schema (i ∷ items) (suc item) h below =
    table_there schema items item h.1 (omega (arith, below))

item_sound : (schema : Schema) (bound : Bound) (needs : List (List ℕ)) (item : ℕ)
    → Fits schema bound needs → item < length bound.items
    → IsOfSchema schema (item_scan schema bound item)
item_sound schema bound needs item fits below =
    scan_sound schema (table_of (slice_get bound.items item)) (length bound.items)
    (order_columns bound item) _
    (table_there schema bound.items item fits.tables below)
    (order_below schema bound item fits.keys)
    (appearing_in (width schema bound.items item) (own_terms schema bound item)
    (item_terms schema bound item) (own_in schema bound needs item fits)
    (item_terms_in schema bound item))

branch_sound : (schema : Schema) (bound : Bound) (needs : List (List ℕ)) (c : Conjunct)
    (item number : ℕ) (e : BExpr)
    → Fits schema bound needs → item < length bound.items → NamesExist schema bound.items e
    → IsOfSchema schema (branch_scan schema bound c item number e)
branch_sound schema bound needs c item number e fits below names =
    scan_sound schema (table_of (slice_get bound.items item)) (length bound.items) [] _
    (table_there schema bound.items item fits.tables below) tt
    (appearing_in (width schema bound.items item) _ (branch_terms schema bound c item number e)
    (branch_own_in schema bound item number e names)
    (branch_terms_in schema bound c item number e))

branches_sound : (schema : Schema) (bound : Bound) (needs : List (List ℕ)) (c : Conjunct)
    (item number : ℕ) (es : BExprs)
    → Fits schema bound needs → item < length bound.items → AllNamesExist schema bound.items es
    → AllByRecursion (IsOfSchema schema) (branch_scans_of schema bound c item number es)
branches_sound schema bound needs c item number Nil fits below names = tt
branches_sound schema bound needs c item number (More e es) fits below names = (
  branch_sound schema bound needs c item number e fits below names.0,
  branches_sound schema bound needs c item number es fits below names.1,
)

or_sound : (schema : Schema) (bound : Bound) (needs : List (List ℕ)) (item : ℕ) (o : OrTerm)
    → Fits schema bound needs → item < length bound.items → IsListedOr schema bound item o
    → AllByRecursion (IsOfSchema schema)
    (scans_of_or schema bound item o.conjunct (slice_get bound.conjuncts o.conjunct))
or_sound schema bound needs item o fits below l =
    let names : NamesExist schema bound.items (Any l.branches) =
    subst (NamesExist schema bound.items) l.any
    (all_at (λ c. IsSound schema bound.items c.expr) bound.conjuncts o.conjunct l.conjunct
    fits.conjuncts l.is).names in
    subst (λ (ss : List Scan). AllByRecursion (IsOfSchema schema) ss)
    (sym (ap (scans_of_or schema bound item o.conjunct) l.is
    ∙ ap (scans_of_any schema bound l.conjunct item o.conjunct) l.any))
    (branches_sound schema bound needs l.conjunct item o.conjunct l.branches fits below names)

of_item_sound : (schema : Schema) (bound : Bound) (needs : List (List ℕ)) (item : ℕ)
    → Fits schema bound needs → item < length bound.items
    → AllByRecursion (IsOfSchema schema) (scans_of_item schema bound item)
of_item_sound schema bound needs item fits below = (
  item_sound schema bound needs item fits below,
  all_flat_map (IsOfSchema schema) _ (or_terms schema bound item)
      (all_map (IsListedOr schema bound item) _ (or_terms schema bound item)
      (λ o l. or_sound schema bound needs item o fits below l)
      (or_terms_are_of_conjuncts schema bound item)),
)

pub scans_sound : (schema : Schema) (bound : Bound) (needs : List (List ℕ))
    → Fits schema bound needs → AllByRecursion (IsOfSchema schema) (scans schema bound)
scans_sound schema bound needs fits =
    all_flat_map (IsOfSchema schema) (scans_of_item schema bound)
    (numbers_from 0 (length bound.items))
    (all_map (λ i. i < 0 + length bound.items) _ (numbers_from 0 (length bound.items))
    (λ i h. of_item_sound schema bound needs i fits (omega (arith, h)))
    (numbers_below 0 (length bound.items)))

-- as the code has them
columns_same : (tables : List Table) (n : ℕ)
    → length (columns_of (slice_get (map plain_table tables) n)) ≡ length (columns_at tables n)
columns_same [] n = refl
columns_same (t ∷ tables) zero = length-map t.columns plain_column
columns_same (t ∷ tables) (suc n) = columns_same tables n

held_below : (tables : List Table) (n : ℕ) (columns : List code.IndexColumn)
    → AreBelow (length (columns_of (slice_get (map plain_table tables) n)))
    (map plain_index_column columns)
    → AreInTable (columns_at tables n) columns
held_below tables n columns h =
    of_below (columns_at tables n) columns
    (subst (λ (k : ℕ). AreBelow k (map plain_index_column columns)) (columns_same tables n) h)

scan_held : (schema : Named) (s : Held) → IsOfSchema (plain_schema schema) (held_scan s)
    → IsScanOf schema.tables s
scan_held schema s h = record {
  table = subst (λ (k : ℕ). s.table < k) (length-map schema.tables plain_table) h.table;
  equal = held_below schema.tables s.table s.equal h.equal;
  joined = held_below schema.tables s.table s.joined h.joined;
  by_item =
      all_seen (λ j. AreInTable (columns_at schema.tables s.table) j.columns)
      (AreBelow (length (columns_of (slice_get (map plain_table schema.tables) s.table)))) join_of
      s.by_item (λ j k. held_below schema.tables s.table j.columns k) h.by_item;
  bounds = held_below schema.tables s.table s.bounds h.bounds;
  order = held_below schema.tables s.table s.order h.order;
}

pub scans_held : (schema : Named) (made : List Held)
    → AllByRecursion (IsOfSchema (plain_schema schema)) (map held_scan made)
    → AreScansOf schema.tables made
scans_held schema made h =
    all_seen (IsScanOf schema.tables) (IsOfSchema (plain_schema schema)) held_scan made
    (scan_held schema) h
