-- The keys of a statement's terms name items of the statement alone.
use Rattle.std.proofs.Common.{◌≡◌, ◌<◌, ◌≤◌, ℕ, Bool, true, false, ◌&&◌, not, List, [], ◌∷◌, ◌++◌}
use Rattle.std.proofs.Common.{Option, Some, None, refl, map, cond, subst, length, suc}
use Rattle.std.proofs.Common.{arith, ◌==◌}
use Rattle.std.specs.List.{AllByRecursion, filter, flat_map}
use Rattle.std.specs.Option.{option_or}
use Rattle.list_laws.proofs.Lists.{all_append, all_filter, all_always, all_flat_map, all_map}
use Rattle.sql_meaning.specs.Values.{Collation, Affinity}
use Rattle.sql_meaning.specs.Likes.{Range}
use Rattle.sql_meaning.specs.Rows.{Site, AtRowid, AtColumn}
use Rattle.sql_meaning.specs.Schemas.{Schema}
use Rattle.sql_meaning.specs.Items.{Item, own_column}
use Rattle.sql_meaning.specs.Expressions.{BExpr, BExprs, Lit, Param, Column, Rowid, Plus, Collate}
use Rattle.sql_meaning.specs.Expressions.{Cmp, OneOf, Like, IsNull, Not, All, Any, Nil, More, names}
use Rattle.sql_meaning.specs.Expressions.{all_names, bare_column, flat, flat_all, ColumnRef, Op}
use Rattle.sql_meaning.specs.Expressions.{IsEqual, IsUnequal, IsBelow, IsAtMost, IsAbove, IsAtLeast}
use Rattle.sql_meaning.specs.Expressions.{ref_expr, site_expr}
use Rattle.sql_meaning.specs.Paths.{KeyExpr}
use Rattle.sql_meaning.specs.Choices.{ColumnTerms}
use Rattle.sql_meaning.specs.Statements.{Bound, Conjunct, is_empty, exprs_of, has_number}
use Rattle.sql_meaning.specs.Statements.{numbers_from}
use Rattle.sql_meaning.specs.Conjuncts.{may_serve, may_derive}
use Rattle.sql_meaning.specs.Links.{Linked, link, back, chain, Links}
use Rattle.sql_meaning.specs.LikeTerms.{like_terms, column_range, range_terms, below_term}
use Rattle.sql_meaning.specs.LikeTerms.{literal_bounds, orders_as_like}
use Rattle.sql_meaning.specs.Terms.{Term, TermKind, Equals, Within, IsNothing, Low, High, kind_of}
use Rattle.sql_meaning.specs.Terms.{flipped, entry_keys}
use Rattle.sql_meaning.specs.Serving.{Served, side_served, comparison_served, no_conversion}
use Rattle.sql_meaning.specs.Serving.{equal_key}
use Rattle.sql_meaning.specs.Serving.{key_under, keys_or, keys_under, within, or_served}
use Rattle.sql_meaning.specs.Serving.{first_served}
use Rattle.sql_meaning.specs.Serving.{null_served, serving, numbered_term, if_allowed, direct_terms}
use Rattle.sql_meaning.specs.TermLists.{key_term, column_term, derived_terms}
use Rattle.sql_meaning.specs.TermLists.{linked_to}
use Rattle.sql_meaning.specs.TermLists.{derived_term, gathered, column_terms, item_terms, all_sites}
use Rattle.sql_meaning.specs.TermLists.{own_terms, own_likes, branch_own, branch_likes, derived_if}
use Rattle.sql_meaning.specs.TermLists.{branch_column, branch_terms, if_each_has_terms, OrTerm}
use Rattle.sql_meaning.specs.TermLists.{or_term}
use Rattle.sql_meaning.specs.TermLists.{terms_of_branches, unless_served, or_terms_of}
use Rattle.sql_meaning.specs.TermLists.{or_terms_from}
use Rattle.sql_meaning.specs.TermLists.{ItemTerms, terms_of_item, terms_of, has_term, of_kind}
use Rattle.sql_meaning.specs.TermLists.{is_equal, is_within, is_low, is_high}
use Rattle.sql_meaning.specs.Orders.{same_site, same_collation}
use Rattle.sql_meaning.proofs.LinkClosure.{all_front}
use Rattle.sql_meaning.proofs.Links.{all_at}
use Rattle.sql_meaning.proofs.ServedNames.{bare_names}
use Rattle.sql_meaning.proofs.TermLists.{linked_are}
use Rattle.sql_meaning.proofs.Terms.{some_is}
use Rattle.sql_bound.specs.Fits.{NamesExist, AllNamesExist, IsSound, Fits}
use Rattle.where_terms.specs.Masks.{key_names, kind_names}

-- items that have a bit
abbrev pub Small : List ℕ → Type 0
Small ns = AllByRecursion (λ n. n < 64) ns

abbrev SmallExpr : BExpr → Type 0
SmallExpr e = Small (names e)

abbrev pub SmallTerm : Term → Type 0
SmallTerm t = Small (kind_names t.kind)

all_if : {X : Type 0} (P : X → Type 0) (xs : List X) (b : Bool) → AllByRecursion P xs
    → AllByRecursion P (cond b xs [])
all_if P xs true h = h
all_if P xs false h = tt

all_unless : {X : Type 0} (P : X → Type 0) (xs : List X) (b : Bool) → AllByRecursion P xs
    → AllByRecursion P (cond b [] xs)
all_unless P xs true h = tt
all_unless P xs false h = h

all_mapped : {X Y : Type 0} (P : Y → Type 0) (f : X → Y) (xs : List X) → ((x : X) → P (f x))
    → AllByRecursion P (map f xs)
all_mapped P f [] h = tt
all_mapped P f (x ∷ xs) h = (h x, all_mapped P f xs h)

-- the names of a sound expression
mutual
  names_small : (schema : Schema) (items : List Item) → length items ≤ 64 → (e : BExpr)
      → NamesExist schema items e → Small (names e)
  names_small schema items few (Lit v) h = tt
  names_small schema items few (Param number) h = tt
  names_small schema items few (Column item column) h = (omega (arith, few, h.0), tt)
  names_small schema items few (Rowid item) h = (omega (arith, few, h), tt)
  names_small schema items few (Plus e) h = names_small schema items few e h
  names_small schema items few (Collate e collation) h = names_small schema items few e h
  names_small schema items few (Cmp op left right lc rc collation) h =
      all_append (λ n. n < 64) (names left) (names right) (names_small schema items few left h.0)
      (names_small schema items few right h.1)
  names_small schema items few (OneOf negated left entries ec collation) h =
      all_append (λ n. n < 64) (names left) (all_names entries)
      (names_small schema items few left h.0) (all_small schema items few entries h.1)
  names_small schema items few (Like negated e pattern) h =
      all_append (λ n. n < 64) (names e) (names pattern) (names_small schema items few e h.0)
      (names_small schema items few pattern h.1)
  names_small schema items few (IsNull negated e) h = names_small schema items few e h
  names_small schema items few (Not e) h = names_small schema items few e h
  names_small schema items few (All es) h = all_small schema items few es h
  names_small schema items few (Any es) h = all_small schema items few es h

  all_small : (schema : Schema) (items : List Item) → length items ≤ 64 → (es : BExprs)
      → AllNamesExist schema items es → Small (all_names es)
  all_small schema items few Nil h = tt
  all_small schema items few (More e es) h =
      all_append (λ n. n < 64) (names e) (all_names es) (names_small schema items few e h.0)
      (all_small schema items few es h.1)

-- the members of an AND name what it names
mutual
  small_flat : (e : BExpr) → SmallExpr e → AllByRecursion SmallExpr (flat e)
  small_flat (All es) h = small_flat_all es h
  small_flat (Lit v) h = (h, tt)
  small_flat (Param n) h = (h, tt)
  small_flat (Column i n) h = (h, tt)
  small_flat (Rowid i) h = (h, tt)
  small_flat (Plus e) h = (h, tt)
  small_flat (Collate e collation) h = (h, tt)
  small_flat (Cmp op l r lc rc collation) h = (h, tt)
  small_flat (OneOf n l es ec collation) h = (h, tt)
  small_flat (Like n e pattern) h = (h, tt)
  small_flat (IsNull n e) h = (h, tt)
  small_flat (Not e) h = (h, tt)
  small_flat (Any es) h = (h, tt)

  small_flat_all : (es : BExprs) → Small (all_names es) → AllByRecursion SmallExpr (flat_all es)
  small_flat_all Nil h = tt
  small_flat_all (More e es) h =
      let both = all_front (λ n. n < 64) (names e) (all_names es) h in
      all_append SmallExpr (flat e) (flat_all es) (small_flat e both.0)
      (small_flat_all es both.1)

-- what a conjunct says names what it names
abbrev SmallServed : Option Served → Type 0
SmallServed None = Unit {0}
SmallServed (Some s) = Small (kind_names s.kind)

small_op : (op : Op) (key : KeyExpr) (kind : TermKind) → kind_of op key ≡ Some kind
    → Small (names key.expr) → Small (kind_names kind)
small_op IsEqual key kind e h = subst (λ (k : TermKind). Small (kind_names k)) (some_is _ kind e) h
small_op IsUnequal key kind e h = absurd (cc)
small_op IsBelow key kind e h = subst (λ (k : TermKind). Small (kind_names k)) (some_is _ kind e) h
small_op IsAtMost key kind e h = subst (λ (k : TermKind). Small (kind_names k)) (some_is _ kind e) h
small_op IsAbove key kind e h = subst (λ (k : TermKind). Small (kind_names k)) (some_is _ kind e) h
small_op IsAtLeast key kind e h =
    subst (λ (k : TermKind). Small (kind_names k)) (some_is _ kind e) h

small_if : (b : Bool) (site : Site) (collation : Collation) (kind : TermKind)
    → Small (kind_names kind)
    → SmallServed (cond b (Some (record { site = site; collation = collation; kind = kind })) None)
small_if true site collation kind h = h
small_if false site collation kind h = tt

small_found : (item : ℕ) (d : Option ColumnRef) (ok : Bool) (kind : TermKind)
    (collation : Collation) → Small (kind_names kind)
    → SmallServed (side_served item d ok (Some kind) collation)
small_found item None ok kind collation h = tt
small_found item (Some d) ok kind collation h =
    small_if ((d.item == item) && ok) d.site collation kind h

small_side : (item : ℕ) (d : Option ColumnRef) (ok : Bool) (op : Op) (key : KeyExpr)
    (o : Option TermKind) (collation : Collation) → kind_of op key ≡ o → Small (names key.expr)
    → SmallServed (side_served item d ok o collation)
small_side item None ok op key o collation e h = tt
small_side item (Some d) ok op key None collation e h = tt
small_side item (Some d) ok op key (Some kind) collation e h =
    small_found item (Some d) ok kind collation (small_op op key kind e h)

small_either : (a b : Option Served) → SmallServed a → SmallServed b
    → SmallServed (option_or a b)
small_either None b h k = k
small_either (Some s) b h k = h

small_comparison : (item : ℕ) (e : BExpr) → SmallExpr e → SmallServed (comparison_served item e)
small_comparison item (Cmp op left right lc rc collation) h =
    let both = all_front (λ n. n < 64) (names left) (names right) h in
    small_either
    (side_served item (bare_column left) (no_conversion lc && not (has_number item (names right)))
    (kind_of op (record { expr = right; conversion = rc })) collation)
    (side_served item (bare_column right) (no_conversion rc && not (has_number item (names left)))
    (kind_of (flipped op) (record { expr = left; conversion = lc })) collation)
    (small_side item (bare_column left)
    (no_conversion lc && not (has_number item (names right))) op
    (record { expr = right; conversion = rc })
    (kind_of op (record { expr = right; conversion = rc })) collation refl both.1)
    (small_side item (bare_column right)
    (no_conversion rc && not (has_number item (names left))) (flipped op)
    (record { expr = left; conversion = lc })
    (kind_of (flipped op) (record { expr = left; conversion = lc })) collation refl both.0)
small_comparison item e h = tt

small_entries : (conversion : Option Affinity) (es : BExprs) → Small (all_names es)
    → Small (key_names (entry_keys conversion es))
small_entries conversion Nil h = tt
small_entries conversion (More e es) h =
    let both = all_front (λ n. n < 64) (names e) (all_names es) h in
    all_append (λ n. n < 64) (names e) (key_names (entry_keys conversion es)) both.0
    (small_entries conversion es both.1)

abbrev SmallKey : Option KeyExpr → Type 0
SmallKey None = Unit {0}
SmallKey (Some key) = Small (names key.expr)

abbrev SmallKeys : Option (List KeyExpr) → Type 0
SmallKeys None = Unit {0}
SmallKeys (Some keys) = Small (key_names keys)

small_equal : (b : Bool) (kind : TermKind) → Small (kind_names kind) → SmallKey (equal_key b kind)
small_equal true (Equals key) h = h
small_equal true (Within keys) h = tt
small_equal true IsNothing h = tt
small_equal true (Low key inclusive) h = tt
small_equal true (High key inclusive) h = tt
small_equal false kind h = tt

small_under : (site : Site) (collation : Collation) (s : Option Served) → SmallServed s
    → SmallKey (key_under site collation s)
small_under site collation None h = tt
small_under site collation (Some s) h =
    small_equal (same_site s.site site && same_collation s.collation collation) s.kind h

small_keys_or : (k : Option KeyExpr) (o : Option (List KeyExpr)) → SmallKey k → SmallKeys o
    → SmallKeys (keys_or k o)
small_keys_or None o h r = tt
small_keys_or (Some key) None h r = tt
small_keys_or (Some key) (Some keys) h r =
    all_append (λ n. n < 64) (names key.expr) (key_names keys) h r

small_keys : (item : ℕ) (site : Site) (collation : Collation) (es : BExprs)
    → Small (all_names es) → SmallKeys (keys_under item site collation es)
small_keys item site collation Nil h = tt
small_keys item site collation (More e es) h =
    let both = all_front (λ n. n < 64) (names e) (all_names es) h in
    small_keys_or (key_under site collation (comparison_served item e))
    (keys_under item site collation es)
    (small_under site collation (comparison_served item e) (small_comparison item e both.0))
    (small_keys item site collation es both.1)

small_within : (site : Site) (collation : Collation) (o : Option (List KeyExpr)) → SmallKeys o
    → SmallServed (within site collation o)
small_within site collation None h = tt
small_within site collation (Some keys) h = h

small_or : (item : ℕ) (es : BExprs) (s : Option Served) → Small (all_names es)
    → SmallServed (or_served item es s)
small_or item es None h = tt
small_or item es (Some s) h =
    small_within s.site s.collation (keys_under item s.site s.collation es)
    (small_keys item s.site s.collation es h)

small_null : (own : Site → Collation) (item : ℕ) (d : Option ColumnRef)
    → SmallServed (null_served own item d)
small_null own item None = tt
small_null own item (Some d) = small_if (d.item == item) d.site (own d.site) IsNothing tt

small_serving : (own : Site → Collation) (item : ℕ) (e : BExpr) → SmallExpr e
    → SmallServed (serving own item e)
small_serving own item (Cmp op left right lc rc collation) h =
    small_comparison item (Cmp op left right lc rc collation) h
small_serving own item (OneOf true left entries ec collation) h = tt
small_serving own item (OneOf false left entries ec collation) h =
    small_found item (bare_column left) (not (has_number item (all_names entries)))
    (Within (entry_keys ec entries)) collation
    (small_entries ec entries
    (all_front (λ n. n < 64) (names left) (all_names entries) h).1)
small_serving own item (IsNull true e) h = tt
small_serving own item (IsNull false e) h = small_null own item (bare_column e)
small_serving own item (Any es) h = small_or item es (first_served item es) h
small_serving own item e h = tt

small_numbered : (number : ℕ) (s : Option Served) → SmallServed s
    → AllByRecursion SmallTerm (numbered_term number s)
small_numbered number None h = tt
small_numbered number (Some s) h = (h, tt)

small_allowed : (b : Bool) (s : Option Served) → SmallServed s → SmallServed (if_allowed b s)
small_allowed true s h = h
small_allowed false s h = tt

small_direct : (own : Site → Collation) (bound : Bound) (item number : ℕ) (cs : List Conjunct)
    → AllByRecursion (λ c. SmallExpr c.expr) cs
    → AllByRecursion SmallTerm (direct_terms own bound item number cs)
small_direct own bound item number [] h = tt
small_direct own bound item number (c ∷ cs) h =
    all_append SmallTerm
    (numbered_term number (if_allowed (may_serve bound item c) (serving own item c.expr)))
    (direct_terms own bound item (suc number) cs)
    (small_numbered number (if_allowed (may_serve bound item c) (serving own item c.expr))
    (small_allowed (may_serve bound item c) (serving own item c.expr)
    (small_serving own item c.expr h.0)))
    (small_direct own bound item (suc number) cs h.1)

small_own : (schema : Schema) (bound : Bound) (item : ℕ)
    → AllByRecursion (λ c. SmallExpr c.expr) bound.conjuncts
    → AllByRecursion SmallTerm (own_terms schema bound item)
small_own schema bound item h =
    small_direct
    (λ at. (own_column schema bound.items (record { item = item; site = at })).collation) bound
    item 0 bound.conjuncts h

small_branch_own : (schema : Schema) (bound : Bound) (item number : ℕ) (e : BExpr) → SmallExpr e
    → AllByRecursion SmallTerm (branch_own schema bound item number (flat e))
small_branch_own schema bound item number e h =
    let own : Site → Collation =
    λ at. (own_column schema bound.items (record { item = item; site = at })).collation in
    all_flat_map SmallTerm (λ x. numbered_term number (serving own item x)) (flat e)
    (all_map SmallExpr (λ x. AllByRecursion SmallTerm (numbered_term number (serving own item x)))
    (flat e) (λ x k. small_numbered number (serving own item x) (small_serving own item x k))
    (small_flat e h))

-- the keys of a LIKE's bounds are texts
small_below : (site : Site) (high : Option (List ℕ))
    → AllByRecursion SmallTerm (below_term site high)
small_below site None = tt
small_below site (Some high) = (tt, tt)

small_range : (schema : Schema) (items : List Item) (item : ℕ) (d : Option ColumnRef)
    (range : Option Range) → AllByRecursion SmallTerm (column_range schema items item d range)
small_range schema items item None range = tt
small_range schema items item (Some d) None = tt
small_range schema items item (Some d) (Some range) =
    all_if SmallTerm (range_terms d.site range)
    ((d.item == item) && orders_as_like (own_column schema items d))
    (tt, small_below d.site range.high)

small_likes : (schema : Schema) (items : List Item) (item : ℕ) (e : BExpr)
    → AllByRecursion SmallTerm (like_terms schema items item e)
small_likes schema items item (Like false e pattern) =
    small_range schema items item (bare_column e) (literal_bounds pattern)
small_likes schema items item e = tt

-- a derived equality names nothing, or the item of a linked column
none_small : (ns : List ℕ) → is_empty ns ≡ true → Small ns
none_small [] h = tt
none_small (n ∷ ns) h = absurd (cc)

key_case : (schema : Schema) (items : List Item) (c : ColumnRef) (key : KeyExpr) (b : Bool)
    → is_empty (names key.expr) ≡ b
    → AllByRecursion SmallTerm (cond b (derived_term schema items c key ∷ []) [])
key_case schema items c key true h = (none_small (names key.expr) h, tt)
key_case schema items c key false h = tt

small_key_term : (schema : Schema) (items : List Item) (c : ColumnRef) (o : Option KeyExpr)
    → AllByRecursion SmallTerm (key_term schema items c o)
small_key_term schema items c None = tt
small_key_term schema items c (Some key) =
    key_case schema items c key (is_empty (names key.expr)) refl

small_site : (item : ℕ) (site : Site) → item < 64 → Small (names (site_expr item site))
small_site item AtRowid h = (h, tt)
small_site item (AtColumn column) h = (h, tt)

small_column_term : (schema : Schema) (items : List Item) (item : ℕ) (c d : ColumnRef)
    → d.item < 64 → AllByRecursion SmallTerm (column_term schema items item c d)
small_column_term schema items item c d h =
    all_unless SmallTerm
    (derived_term schema items c (record { expr = ref_expr d; conversion = None }) ∷ [])
    (d.item == item) (small_site d.item d.site h, tt)

bare_small : (e : BExpr) (c : ColumnRef) → bare_column e ≡ Some c → SmallExpr e → c.item < 64
bare_small e c is h = (subst Small (bare_names e c is) h).0

link_small : (schema : Schema) (items : List Item) (c d : ColumnRef) (e : BExpr) → SmallExpr e
    → Links schema items c d e → (c.item < 64) × (d.item < 64)
link_small schema items c d (Cmp IsEqual left right lc rc collation) h l =
    let both = all_front (λ n. n < 64) (names left) (names right) h in
    (bare_small left c l.is_c both.0, bare_small right d l.is_d both.1)
link_small schema items c d e h l = absurd l

linked_small : (schema : Schema) (items : List Item) (es : List BExpr) (c d : ColumnRef)
    → AllByRecursion SmallExpr es → Linked schema items es c d → (c.item < 64) × (d.item < 64)
linked_small schema items es _ _ h (link c d number e at l) =
    link_small schema items c d e (all_at SmallExpr es number e h at) l
linked_small schema items es _ _ h (back c d l) =
    let both = linked_small schema items es c d h l in (both.1, both.0)
linked_small schema items es _ _ h (chain c d e l m) =
    ((linked_small schema items es c d h l).0, (linked_small schema items es d e h m).1)

small_derived : (schema : Schema) (items : List Item) (es : List BExpr) (item : ℕ) (c : ColumnRef)
    → AllByRecursion SmallExpr es
    → AllByRecursion SmallTerm (derived_terms schema items es item c)
small_derived schema items es item c h =
    let ds = linked_to schema items es c in
    let own = (own_column schema items c).collation in
    all_append SmallTerm
    (flat_map
    (λ e. flat_map
    (λ d. key_term schema items c (key_under d.site own (comparison_served d.item e))) ds) es)
    (flat_map (column_term schema items item c) ds)
    (all_flat_map SmallTerm
    (λ e. flat_map
    (λ d. key_term schema items c (key_under d.site own (comparison_served d.item e))) ds) es
    (all_always _ es
    (λ e. all_flat_map SmallTerm
    (λ d. key_term schema items c (key_under d.site own (comparison_served d.item e))) ds
    (all_always _ ds
    (λ d. small_key_term schema items c
    (key_under d.site own (comparison_served d.item e)))))))
    (all_flat_map SmallTerm (column_term schema items item c) ds
    (all_map (Linked schema items es c)
    (λ d. AllByRecursion SmallTerm (column_term schema items item c d)) ds
    (λ d l. small_column_term schema items item c d (linked_small schema items es c d h l).1)
    (linked_are schema items es c)))

-- of a column, a branch, an OR and an item
pub record SmallColumn (c : ColumnTerms) : Type 0 where
  pub equals : AllByRecursion SmallTerm c.equals
  pub lows : AllByRecursion SmallTerm c.lows
  pub highs : AllByRecursion SmallTerm c.highs

small_kind : (test : TermKind → Bool) (site : Site) (ts : List Term) → AllByRecursion SmallTerm ts
    → AllByRecursion SmallTerm (of_kind test site ts)
small_kind test site ts h =
    all_filter SmallTerm (λ t. same_site t.column site && test t.kind) ts h

small_gathered : (site : Site) (own derived likes : List Term) → AllByRecursion SmallTerm own
    → AllByRecursion SmallTerm derived → AllByRecursion SmallTerm likes
    → SmallColumn (gathered site own derived likes)
small_gathered site own derived likes o d l = record {
  equals =
      all_append SmallTerm (of_kind is_equal site own) (derived ++ of_kind is_within site own)
      (small_kind is_equal site own o)
      (all_append SmallTerm derived (of_kind is_within site own) d
      (small_kind is_within site own o));
  lows =
      all_append SmallTerm (of_kind is_low site own) (of_kind is_low site likes)
      (small_kind is_low site own o) (small_kind is_low site likes l);
  highs =
      all_append SmallTerm (of_kind is_high site own) (of_kind is_high site likes)
      (small_kind is_high site own o) (small_kind is_high site likes l);
}

small_exprs : (cs : List Conjunct) → AllByRecursion (λ c. SmallExpr c.expr) cs
    → AllByRecursion SmallExpr (exprs_of cs)
small_exprs [] h = tt
small_exprs (c ∷ cs) h = (h.0, small_exprs cs h.1)

small_item : (schema : Schema) (bound : Bound) (item : ℕ)
    → AllByRecursion (λ c. SmallExpr c.expr) bound.conjuncts
    → AllByRecursion SmallColumn (item_terms schema bound item)
small_item schema bound item h =
    all_filter SmallColumn has_term
    (map (column_terms schema bound item) (all_sites schema bound item))
    (all_mapped SmallColumn (column_terms schema bound item) (all_sites schema bound item)
    (λ site. small_gathered site (own_terms schema bound item)
    (derived_terms schema bound.items
    (exprs_of (filter (may_derive bound item) bound.conjuncts)) item
    (record { item = item; site = site })) (own_likes schema bound item)
    (small_own schema bound item h)
    (small_derived schema bound.items
    (exprs_of (filter (may_derive bound item) bound.conjuncts)) item
    (record { item = item; site = site })
    (small_exprs (filter (may_derive bound item) bound.conjuncts)
    (all_filter (λ c. SmallExpr c.expr) (may_derive bound item) bound.conjuncts h)))
    (all_flat_map SmallTerm (λ c. like_terms schema bound.items item c.expr)
    (filter (may_serve bound item) bound.conjuncts)
    (all_always _ (filter (may_serve bound item) bound.conjuncts)
    (λ c. small_likes schema bound.items item c.expr)))))

small_derived_if : (b : Bool) (ts : List Term) → AllByRecursion SmallTerm ts
    → AllByRecursion SmallTerm (derived_if b ts)
small_derived_if true ts h = h
small_derived_if false ts h = tt

small_branch : (schema : Schema) (bound : Bound) (c : Conjunct) (item number : ℕ) (e : BExpr)
    → SmallExpr e → AllByRecursion SmallColumn (branch_terms schema bound c item number e)
small_branch schema bound c item number e h =
    let es = flat e in
    all_filter SmallColumn has_term
    (map (branch_column schema bound c item number es) (all_sites schema bound item))
    (all_mapped SmallColumn (branch_column schema bound c item number es)
    (all_sites schema bound item)
    (λ site. small_gathered site (branch_own schema bound item number es)
    (derived_if (may_derive bound item c)
    (derived_terms schema bound.items es item (record { item = item; site = site })))
    (branch_likes schema bound item es)
    (small_branch_own schema bound item number e h)
    (small_derived_if (may_derive bound item c)
    (derived_terms schema bound.items es item (record { item = item; site = site }))
    (small_derived schema bound.items es item (record { item = item; site = site })
    (small_flat e h)))
    (all_flat_map SmallTerm (like_terms schema bound.items item) es
    (all_always _ es (λ x. small_likes schema bound.items item x)))))

abbrev SmallBranches : Option (List (List ColumnTerms)) → Type 0
SmallBranches None = Unit {0}
SmallBranches (Some branches) = AllByRecursion (AllByRecursion SmallColumn) branches

small_each_if : (terms : List ColumnTerms) (others : List (List ColumnTerms)) (b : Bool)
    → AllByRecursion SmallColumn terms → AllByRecursion (AllByRecursion SmallColumn) others
    → SmallBranches (cond b (Some (terms ∷ others)) None)
small_each_if terms others true h k = (h, k)
small_each_if terms others false h k = tt

small_each : (terms : List ColumnTerms) (others : Option (List (List ColumnTerms)))
    → AllByRecursion SmallColumn terms → SmallBranches others
    → SmallBranches (if_each_has_terms terms others)
small_each terms None h k = tt
small_each terms (Some others) h k = small_each_if terms others (not (length terms == 0)) h k

small_branches : (schema : Schema) (bound : Bound) (c : Conjunct) (item number : ℕ) (es : BExprs)
    → Small (all_names es) → SmallBranches (terms_of_branches schema bound c item number es)
small_branches schema bound c item number Nil h = tt
small_branches schema bound c item number (More e es) h =
    let both = all_front (λ n. n < 64) (names e) (all_names es) h in
    small_each (branch_terms schema bound c item number e)
    (terms_of_branches schema bound c item number es)
    (small_branch schema bound c item number e both.0)
    (small_branches schema bound c item number es both.1)

abbrev pub SmallOr : OrTerm → Type 0
SmallOr o = AllByRecursion (AllByRecursion SmallColumn) o.branches

small_or_term : (number : ℕ) (o : Option (List (List ColumnTerms))) → SmallBranches o
    → AllByRecursion SmallOr (or_term number o)
small_or_term number None h = tt
small_or_term number (Some branches) h = (h, tt)

small_unless : (s : Option Served) (ts : List OrTerm) → AllByRecursion SmallOr ts
    → AllByRecursion SmallOr (unless_served s ts)
small_unless None ts h = h
small_unless (Some s) ts h = tt

small_or_terms_of : (schema : Schema) (bound : Bound) (c : Conjunct) (item number : ℕ) (e : BExpr)
    → SmallExpr e → AllByRecursion SmallOr (or_terms_of schema bound c item number e)
small_or_terms_of schema bound c item number (Any es) h =
    small_unless (or_served item es (first_served item es))
    (or_term number (terms_of_branches schema bound c item number es))
    (small_or_term number (terms_of_branches schema bound c item number es)
    (small_branches schema bound c item number es h))
small_or_terms_of schema bound c item number e h = tt

small_ors : (schema : Schema) (bound : Bound) (item number : ℕ) (cs : List Conjunct)
    → AllByRecursion (λ c. SmallExpr c.expr) cs
    → AllByRecursion SmallOr (or_terms_from schema bound item number cs)
small_ors schema bound item number [] h = tt
small_ors schema bound item number (c ∷ cs) h =
    all_append SmallOr
    (cond (may_serve bound item c) (or_terms_of schema bound c item number c.expr) [])
    (or_terms_from schema bound item (suc number) cs)
    (all_if SmallOr (or_terms_of schema bound c item number c.expr) (may_serve bound item c)
    (small_or_terms_of schema bound c item number c.expr h.0))
    (small_ors schema bound item (suc number) cs h.1)

pub record SmallItem (t : ItemTerms) : Type 0 where
  pub columns : AllByRecursion SmallColumn t.columns
  pub ors : AllByRecursion SmallOr t.ors

conjuncts_small : (schema : Schema) (bound : Bound) (needs : List (List ℕ))
    → Fits schema bound needs → AllByRecursion (λ c. SmallExpr c.expr) bound.conjuncts
conjuncts_small schema bound needs fits =
    all_map (λ c. IsSound schema bound.items c.expr) (λ c. SmallExpr c.expr) bound.conjuncts
    (λ c sound. names_small schema bound.items fits.few_items c.expr sound.names)
    fits.conjuncts

pub own_terms_small : (schema : Schema) (bound : Bound) (needs : List (List ℕ)) (item : ℕ)
    → Fits schema bound needs → AllByRecursion SmallTerm (own_terms schema bound item)
own_terms_small schema bound needs item fits =
    small_own schema bound item (conjuncts_small schema bound needs fits)

pub branch_own_small : (schema : Schema) (bound : Bound) (needs : List (List ℕ)) (item number : ℕ)
    (e : BExpr) → Fits schema bound needs → NamesExist schema bound.items e
    → AllByRecursion SmallTerm (branch_own schema bound item number (flat e))
branch_own_small schema bound needs item number e fits names =
    small_branch_own schema bound item number e
    (names_small schema bound.items fits.few_items e names)

pub terms_small : (schema : Schema) (bound : Bound) (needs : List (List ℕ))
    → Fits schema bound needs → AllByRecursion SmallItem (terms_of schema bound)
terms_small schema bound needs fits =
    let small = conjuncts_small schema bound needs fits in
    all_mapped SmallItem (terms_of_item schema bound) (numbers_from 0 (length bound.items))
    (λ item. record {
      columns = small_item schema bound item small;
      ors = small_ors schema bound item 0 bound.conjuncts small;
    })
