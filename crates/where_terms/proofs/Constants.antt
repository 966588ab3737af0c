-- Only conjuncts that compare with a constant give a linked column its key.
use Rattle.std.proofs.Common.{◌≡◌, ℕ, Bool, true, false, ◌&&◌, ◌==◌, List, [], ◌∷◌, ◌++◌}
use Rattle.std.proofs.Common.{cond}
use Rattle.std.proofs.Common.{Option, Some, None, refl, ap, sym, ◌∙◌, not}
use Rattle.std.specs.List.{flat_map, filter}
use Rattle.std.specs.Option.{option_or}
use Rattle.list_laws.proofs.Bools.{or_false_left, or_false_right}
use Rattle.sql_meaning.specs.Values.{Collation}
use Rattle.sql_meaning.specs.Rows.{Site}
use Rattle.sql_meaning.specs.Paths.{KeyExpr}
use Rattle.sql_meaning.specs.Schemas.{Schema}
use Rattle.sql_meaning.specs.Items.{Item, own_column}
use Rattle.sql_meaning.specs.Expressions.{ColumnRef, BExpr, Cmp, Op, names, bare_column}
use Rattle.sql_meaning.specs.Expressions.{IsEqual, IsUnequal, IsBelow, IsAtMost, IsAbove, IsAtLeast}
use Rattle.sql_meaning.specs.Orders.{same_site, same_collation}
use Rattle.sql_meaning.specs.Statements.{is_empty, has_number}
use Rattle.sql_meaning.proofs.Terms.{some_is}
use Rattle.sql_meaning.specs.Terms.{TermKind, Equals, Low, High, kind_of, flipped}
use Rattle.sql_meaning.specs.Serving.{Served, side_served, key_under, equal_key, comparison_served}
use Rattle.sql_meaning.specs.Serving.{no_conversion}
use Rattle.sql_meaning.specs.TermLists.{key_term, derived_along, column_term}
use Rattle.where_terms.specs.Derived.{has_constant, keys_along, linked_keys}

-- what is said by a key that names an item is no derived term
of_key : (schema : Schema) (items : List Item) (c : ColumnRef) (key : KeyExpr) (b : Bool)
    → is_empty (names key.expr) ≡ false
    → key_term schema items c (equal_key b (Equals key)) ≡ []
of_key schema items c key true h = rw h refl
of_key schema items c key false h = refl

abbrev none_of : Schema → List Item → ColumnRef → Site → Collation → Option Served → Type 0
none_of schema items c site collation s =
    key_term schema items c (key_under site collation s) ≡ []

other_kind : (schema : Schema) (items : List Item) (c : ColumnRef) (b : Bool) (kind : TermKind)
    → equal_key true kind ≡ None → key_term schema items c (equal_key b kind) ≡ []
other_kind schema items c true kind h = ap (key_term schema items c) h
other_kind schema items c false kind h = refl

of_op : (schema : Schema) (items : List Item) (c : ColumnRef) (key : KeyExpr) (b : Bool) (op : Op)
    (kind : TermKind) → is_empty (names key.expr) ≡ false → kind_of op key ≡ Some kind
    → key_term schema items c (equal_key b kind) ≡ []
of_op schema items c key b IsEqual kind h e =
    ap (λ k. key_term schema items c (equal_key b k)) (sym (some_is _ kind e))
    ∙ of_key schema items c key b h
of_op schema items c key b IsUnequal kind h e = absurd (cc)
of_op schema items c key b IsBelow kind h e =
    ap (λ k. key_term schema items c (equal_key b k)) (sym (some_is _ kind e))
    ∙ other_kind schema items c b (High key false) refl
of_op schema items c key b IsAtMost kind h e =
    ap (λ k. key_term schema items c (equal_key b k)) (sym (some_is _ kind e))
    ∙ other_kind schema items c b (High key true) refl
of_op schema items c key b IsAbove kind h e =
    ap (λ k. key_term schema items c (equal_key b k)) (sym (some_is _ kind e))
    ∙ other_kind schema items c b (Low key false) refl
of_op schema items c key b IsAtLeast kind h e =
    ap (λ k. key_term schema items c (equal_key b k)) (sym (some_is _ kind e))
    ∙ other_kind schema items c b (Low key true) refl

of_found : (schema : Schema) (items : List Item) (c : ColumnRef) (site : Site)
    (collation own : Collation) (at : Site) (b : Bool) (kind : TermKind)
    → ((v : Bool) → key_term schema items c (equal_key v kind) ≡ [])
    → none_of schema items c site own
    (cond b (Some (record { site = at; collation = collation; kind = kind })) None)
of_found schema items c site collation own at true kind f =
    f (same_site at site && same_collation collation own)
of_found schema items c site collation own at false kind f = refl

of_side : (schema : Schema) (items : List Item) (c : ColumnRef) (site : Site) (own : Collation)
    (item : ℕ) (d : Option ColumnRef) (ok : Bool) (op : Op) (key : KeyExpr) (o : Option TermKind)
    (collation : Collation) → is_empty (names key.expr) ≡ false → kind_of op key ≡ o
    → none_of schema items c site own (side_served item d ok o collation)
of_side schema items c site own item None ok op key o collation h e = refl
of_side schema items c site own item (Some d) ok op key None collation h e = refl
of_side schema items c site own item (Some d) ok op key (Some kind) collation h e =
    of_found schema items c site collation own d.site ((d.item == item) && ok) kind
    (λ v. of_op schema items c key v op kind h e)

of_either : (schema : Schema) (items : List Item) (c : ColumnRef) (site : Site) (own : Collation)
    (a b : Option Served) → none_of schema items c site own a → none_of schema items c site own b
    → none_of schema items c site own (option_or a b)
of_either schema items c site own None b h k = k
of_either schema items c site own (Some s) b h k = h

no_key : (schema : Schema) (items : List Item) (c d : ColumnRef) (e : BExpr)
    → has_constant e ≡ false
    → key_term schema items c
    (key_under d.site (own_column schema items c).collation (comparison_served d.item e)) ≡ []
no_key schema items c d (Cmp op left right lc rc collation) h =
    of_either schema items c d.site (own_column schema items c).collation
    (side_served d.item (bare_column left)
    (no_conversion lc && not (has_number d.item (names right)))
    (kind_of op (record { expr = right; conversion = rc })) collation)
    (side_served d.item (bare_column right)
    (no_conversion rc && not (has_number d.item (names left)))
    (kind_of (flipped op) (record { expr = left; conversion = lc })) collation)
    (of_side schema items c d.site (own_column schema items c).collation d.item (bare_column left)
    (no_conversion lc && not (has_number d.item (names right))) op
    (record { expr = right; conversion = rc })
    (kind_of op (record { expr = right; conversion = rc })) collation
    (or_false_right (is_empty (names left)) (is_empty (names right)) h) refl)
    (of_side schema items c d.site (own_column schema items c).collation d.item (bare_column right)
    (no_conversion rc && not (has_number d.item (names left))) (flipped op)
    (record { expr = left; conversion = lc })
    (kind_of (flipped op) (record { expr = left; conversion = lc })) collation
    (or_false_left (is_empty (names left)) (is_empty (names right)) h) refl)
no_key schema items c d e h = refl

none_along : (schema : Schema) (items : List Item) (c : ColumnRef) (ds : List ColumnRef) (e : BExpr)
    → has_constant e ≡ false → keys_along schema items c ds e ≡ []
none_along schema items c [] e h = refl
none_along schema items c (d ∷ ds) e h =
    rw (no_key schema items c d e h) (none_along schema items c ds e h)

kept_case : (schema : Schema) (items : List Item) (c : ColumnRef) (ds : List ColumnRef) (e : BExpr)
    (es kept : List BExpr) → linked_keys schema items c ds kept ≡ linked_keys schema items c ds es
    → (b : Bool) → has_constant e ≡ b
    → linked_keys schema items c ds (cond b (e ∷ kept) kept)
    ≡ linked_keys schema items c ds (e ∷ es)
kept_case schema items c ds e es kept same true h =
    ap (λ ts. keys_along schema items c ds e ++ ts) same
kept_case schema items c ds e es kept same false h =
    rw (none_along schema items c ds e h) same

keys_kept : (schema : Schema) (items : List Item) (c : ColumnRef) (ds : List ColumnRef)
    (es : List BExpr)
    → linked_keys schema items c ds (filter has_constant es) ≡ linked_keys schema items c ds es
keys_kept schema items c ds [] = refl
keys_kept schema items c ds (e ∷ es) =
    kept_case schema items c ds e es (filter has_constant es) (keys_kept schema items c ds es)
    (has_constant e) refl

pub constants_suffice : (schema : Schema) (items : List Item) (c : ColumnRef) (ds : List ColumnRef)
    (es : List BExpr)
    → derived_along schema items (filter has_constant es) c.item c ds
    ≡ derived_along schema items es c.item c ds
constants_suffice schema items c ds es =
    ap (λ ts. ts ++ flat_map (column_term schema items c.item c) ds)
    (keys_kept schema items c ds es)
