-- A seek is the filter of its list by its parts and bounds.
use Rattle.std.specs.declared.cmp.Ordering.{Ordering}
use Rattle.std.specs.Cmp.{IsTotalOrder}
use Rattle.std.specs.declared.cmp.Ordering.TheVariants.{Less, Equal as Ties, Greater}
use Rattle.std.specs.Ordering.{is_eq, is_le, ordering_reverse, is_gt, is_lt, is_ge, on, flip_args}
use Rattle.std.specs.List.{filter, flat_map}
use Rattle.std.proofs.Common.{Bool, true, false, ◌≡◌, refl, cond, Some, None, ap, ◌||◌, List, []}
use Rattle.std.proofs.Common.{◌∷◌, ◌∙◌, ◌&&◌, not, arith, sym, Option}
use Rattle.std.proofs.lemmas.Cmp.{back_total}
use Rattle.std.proofs.lemmas.List.Elements.{filter_agree}
use Rattle.list_laws.specs.Order.{Ascends, sort_by}
use Rattle.list_laws.specs.Stretch.{Rises}
use Rattle.list_laws.proofs.Bools.{or_false_right, or_false_left}
use Rattle.list_laws.proofs.Orders.{not_below_up, above_up, Rises-from_order, stretch_at}
use Rattle.list_laws.proofs.Orders.{Ascends-at, Ascends-first, Ascends-sort_by}
use Rattle.list_laws.proofs.Stretches.{stretch_is}
use Rattle.list_laws.proofs.Lists.{filter-filter, filter-flat_map, flat_map_same}
use Rattle.list_laws.proofs.KeyStretches.{many_is}
use Rattle.list_laws.proofs.FirstComings.{RisesStrictly-keep_first, ties_walked}
use Rattle.sql_meaning.specs.Values.{Value, Null, Int, Dec, Text, Blob, Collation, value_cmp}
use Rattle.sql_meaning.specs.Values.{is_null}
use Rattle.sql_meaning.specs.IndexLists.{directed, SortColumn, column_cmp, entry_cmp}
use Rattle.sql_meaning.specs.Evaluation.{is_true, compares, op_holds, equals_any}
use Rattle.sql_meaning.specs.Expressions.{IsEqual, Op, IsAbove, IsAtLeast, IsBelow, IsAtMost}
use Rattle.sql_meaning.specs.Rows.{Row, Site, site_value}
use Rattle.sql_meaning.specs.Walks.{End, is_below, is_above, range_walk, bounds_walk, low_holds}
use Rattle.sql_meaning.specs.Walks.{high_holds, key_stretch, walked_keys, Part, One, Many, NullPart}
use Rattle.sql_meaning.specs.Walks.{seek, parts_hold}
use Rattle.sql_meaning.proofs.Order.{value_cmp_total}
use Rattle.list_laws.proofs.FirstComings.{ties_any}

pub directed_total : (falling : Bool) {cmp : Value → Value → Ordering} → IsTotalOrder cmp
    → IsTotalOrder (directed falling cmp)
directed_total true o = back_total o
directed_total false o = o

pub column_cmp_total : (s : SortColumn) → IsTotalOrder (column_cmp s)
column_cmp_total s = directed_total s.falling (value_cmp_total s.collation)

null_less : (collation : Collation) (v k : Value) → is_null v ≡ true → is_null k ≡ false
    → value_cmp collation v k ≡ Less
null_less collation Null Null h e = absurd (cc)
null_less collation Null (Int n) h e = refl
null_less collation Null (Dec u) h e = refl
null_less collation Null (Text t) h e = refl
null_less collation Null (Blob b) h e = refl
null_less collation (Int n) k h e = absurd (cc)
null_less collation (Dec u) k h e = absurd (cc)
null_less collation (Text t) k h e = absurd (cc)
null_less collation (Blob b) k h e = absurd (cc)

eq_case : (nv nk : Bool) (o : Ordering) → nk ≡ false → (nv ≡ true → o ≡ Less)
    → is_eq o ≡ is_true (cond (nv || nk) None (Some (is_eq o)))
eq_case true nk o e f = ap is_eq (f refl)
eq_case false nk o e f = rw e refl

eq_plain : (collation : Collation) (v k : Value) → is_null k ≡ false
    → is_eq (value_cmp collation v k) ≡ compares IsEqual collation v k
eq_plain collation v k e =
    eq_case (is_null v) (is_null k) (value_cmp collation v k) e (λ h. null_less collation v k h e)

pub null_false : (op : Op) (collation : Collation) (v k : Value) → is_null k ≡ true
    → compares op collation v k ≡ false
null_false op collation v k h =
    null_case (is_null v) (is_null k) (op_holds op (value_cmp collation v k)) h
  where
    null_case : (nv nk b : Bool) → nk ≡ true → is_true (cond (nv || nk) None (Some b)) ≡ false
    null_case true nk b h = refl
    null_case false nk b h = rw h refl

null_down : (collation : Collation) (v w : Value) → is_le (value_cmp collation v w) ≡ true
    → is_null w ≡ true → is_null v ≡ true
null_down collation v (Int n) le h = absurd (cc)
null_down collation v (Dec u) le h = absurd (cc)
null_down collation v (Text t) le h = absurd (cc)
null_down collation v (Blob b) le h = absurd (cc)
null_down collation Null Null le h = refl
null_down collation (Int m) Null le h = le
null_down collation (Dec m) Null le h = le
null_down collation (Text m) Null le h = le
null_down collation (Blob m) Null le h = le

pub filter_false : (p : Row → Bool) (rows : List Row) → ((row : Row) → p row ≡ false)
    → [] ≡ filter p rows
filter_false p [] h = refl
filter_false p (row ∷ rows) h = rw (h row) (filter_false p rows h)

pub is_eq_reverse : (o : Ordering) → is_eq (ordering_reverse o) ≡ is_eq o
is_eq_reverse Less = refl
is_eq_reverse Ties = refl
is_eq_reverse Greater = refl

-- an element ties with a key that is not NULL exactly where the comparison is true
pub eq_true : (falling : Bool) (collation : Collation) (v k : Value) → is_null k ≡ false
    → is_eq (directed falling (value_cmp collation) v k) ≡ compares IsEqual collation v k
eq_true true collation v k h =
    ap is_eq ((value_cmp_total collation).antisymm k v) ∙ is_eq_reverse (value_cmp collation v k)
    ∙ eq_plain collation v k h
eq_true false collation v k h = eq_plain collation v k h

pub and_false : (a b : Bool) → a ≡ false → (a && b) ≡ false
and_false a b h = rw h refl

pub filter_true : (rows : List Row) → rows ≡ filter (λ row. true) rows
filter_true [] = refl
filter_true (row ∷ rows) = ap (λ rs. row ∷ rs) (filter_true rows)

contra : (a b : Bool) → (a ≡ true → b ≡ true) → not b ≡ true → not a ≡ true
contra true b h k = absurd (let t : b ≡ true = h refl in cc)
contra false b h k = refl

or_up : (nv nw cv cw : Bool) → (nw ≡ true → nv ≡ true) → (not cv ≡ true → not cw ≡ true)
    → not (nv || cv) ≡ true → not (nw || cw) ≡ true
or_up nv nw cv cw f g h = grind arith

not_le : (o : Ordering) → not (is_le o) ≡ is_gt o
not_le Less = refl
not_le Ties = refl
not_le Greater = refl

ge_not_lt : (o : Ordering) → is_ge o ≡ not (is_lt o)
ge_not_lt Less = refl
ge_not_lt Ties = refl
ge_not_lt Greater = refl

low_up : (collation : Collation) (incl : Bool) (k v w : Value)
    → is_le (value_cmp collation v w) ≡ true
    → not (cond incl (is_lt (value_cmp collation v k)) (is_le (value_cmp collation v k))) ≡ true
    → not (cond incl (is_lt (value_cmp collation w k)) (is_le (value_cmp collation w k))) ≡ true
low_up collation true k v w le h = not_below_up (value_cmp_total collation) v w k le h
low_up collation false k v w le h =
    not_le (value_cmp collation w k)
    ∙ above_up (value_cmp_total collation) v w k le (sym (not_le (value_cmp collation v k)) ∙ h)

high_up : (collation : Collation) (incl : Bool) (k v w : Value)
    → is_le (value_cmp collation v w) ≡ true
    → cond incl (is_gt (value_cmp collation v k)) (is_ge (value_cmp collation v k)) ≡ true
    → cond incl (is_gt (value_cmp collation w k)) (is_ge (value_cmp collation w k)) ≡ true
high_up collation true k v w le h = above_up (value_cmp_total collation) v w k le h
high_up collation false k v w le h =
    ge_not_lt (value_cmp collation w k)
    ∙ not_below_up (value_cmp_total collation) v w k le
    (sym (ge_not_lt (value_cmp collation v k)) ∙ h)

-- what is not below a range stays so upwards, and so does what is above
below_up : (collation : Collation) (low : Option End) (v w : Value)
    → is_le (value_cmp collation v w) ≡ true → not (is_below collation low v) ≡ true
    → not (is_below collation low w) ≡ true
below_up collation None v w le h = contra (is_null w) (is_null v) (null_down collation v w le) h
below_up collation (Some e) v w le h =
    or_up (is_null v) (is_null w) _ _ (null_down collation v w le)
    (low_up collation e.inclusive e.key v w le) h

above_up_end : (collation : Collation) (high : Option End) (v w : Value)
    → is_le (value_cmp collation v w) ≡ true → is_above collation high v ≡ true
    → is_above collation high w ≡ true
above_up_end collation None v w le h = h
above_up_end collation (Some e) v w le h = high_up collation e.inclusive e.key v w le h

not_not : (b : Bool) → not (not b) ≡ true → b ≡ true
not_not true h = refl
not_not false h = h

to_not_not : (b : Bool) → b ≡ true → not (not b) ≡ true
to_not_not true h = refl
to_not_not false h = h

and_turn : (a b : Bool) → (not a && not b) ≡ (not b && not a)
and_turn true true = refl
and_turn true false = refl
and_turn false true = refl
and_turn false false = refl

-- along a list in order, what is not below a range stays so, and what is above it too
pub Rises-not_below_range : (collation : Collation) (site : Site) (low : Option End)
    (rows : List Row)
    → Ascends (on (site_value site) (value_cmp collation)) rows
    → Rises (λ row. not (is_below collation low (site_value site row))) rows
Rises-not_below_range collation site low =
    Rises-from_order _ _
    (λ x y le p. below_up collation low (site_value site x) (site_value site y) le p)

pub Rises-above_range : (collation : Collation) (site : Site) (high : Option End) (rows : List Row)
    → Ascends (on (site_value site) (value_cmp collation)) rows
    → Rises (λ row. is_above collation high (site_value site row)) rows
Rises-above_range collation site high =
    Rises-from_order _ _
    (λ x y le p. above_up_end collation high (site_value site x) (site_value site y) le p)

-- along a list that falls, the other way round
pub Rises-not_above_range : (collation : Collation) (site : Site) (high : Option End)
    (rows : List Row)
    → Ascends (on (site_value site) (flip_args (value_cmp collation))) rows
    → Rises (λ row. not (is_above collation high (site_value site row))) rows
Rises-not_above_range collation site high =
    Rises-from_order _ _
    (λ x y le p. contra _ _
    (above_up_end collation high (site_value site y) (site_value site x) le) p)

pub Rises-below_range : (collation : Collation) (site : Site) (low : Option End) (rows : List Row)
    → Ascends (on (site_value site) (flip_args (value_cmp collation))) rows
    → Rises (λ row. is_below collation low (site_value site row)) rows
Rises-below_range collation site low =
    Rises-from_order _ _
    (λ x y le p. not_not _
    (contra _ _ (below_up collation low (site_value site y) (site_value site x) le)
    (to_not_not _ p)))

range_is : (falling : Bool) (collation : Collation) (site : Site) (low high : Option End)
    (rows : List Row)
    → Ascends (on (site_value site) (directed falling (value_cmp collation))) rows
    → range_walk falling collation site low high rows
    ≡ filter
    (λ row. not (is_below collation low (site_value site row))
    && not (is_above collation high (site_value site row))) rows
range_is true collation site low high rows h =
    stretch_is (λ row. is_above collation high (site_value site row))
    (λ row. is_below collation low (site_value site row)) rows
    (Rises-not_above_range collation site high rows h)
    (Rises-below_range collation site low rows h)
    ∙ filter_agree _ _
    (λ row. and_turn (is_above collation high (site_value site row))
    (is_below collation low (site_value site row))) rows
range_is false collation site low high rows h =
    stretch_is (λ row. is_below collation low (site_value site row))
    (λ row. is_above collation high (site_value site row)) rows
    (Rises-not_below_range collation site low rows h)
    (Rises-above_range collation site high rows h)

-- a value within a range is one of which the bounds are true
low_case : (nv nk incl : Bool) (o : Ordering) → nk ≡ false
    → not (nv || cond incl (is_lt o) (is_le o))
    ≡ is_true (cond (nv || nk) None (Some (op_holds (cond incl IsAtLeast IsAbove) o)))
low_case true nk incl o h = refl
low_case false true incl o h = absurd (cc)
low_case false false true Less h = refl
low_case false false true Ties h = refl
low_case false false true Greater h = refl
low_case false false false Less h = refl
low_case false false false Ties h = refl
low_case false false false Greater h = refl

high_case : (nv nk incl : Bool) (o : Ordering) → nk ≡ false
    → (not nv && not (cond incl (is_gt o) (is_ge o)))
    ≡ is_true (cond (nv || nk) None (Some (op_holds (cond incl IsAtMost IsBelow) o)))
high_case true nk incl o h = refl
high_case false true incl o h = absurd (cc)
high_case false false true Less h = refl
high_case false false true Ties h = refl
high_case false false true Greater h = refl
high_case false false false Less h = refl
high_case false false false Ties h = refl
high_case false false false Greater h = refl

-- a lower end keeps the NULLs out, so the upper one need not
both_case : (nv lo hi l h : Bool) → not (nv || lo) ≡ l → (not nv && not hi) ≡ h
    → (not (nv || lo) && not hi) ≡ (l && h)
both_case true lo hi l h p q = rw (← p) refl
both_case false lo hi l h p q = rw (← p, ← q) refl

cond_walk : (b : Bool) (p : Row → Bool) (rows ws : List Row)
    → (b ≡ true → (row : Row) → p row ≡ false) → (b ≡ false → ws ≡ filter p rows)
    → cond b [] ws ≡ filter p rows
cond_walk true p rows ws f g = filter_false p rows (f refl)
cond_walk false p rows ws f g = g refl

or_null : (a b x y : Bool) → (a ≡ true → x ≡ false) → (b ≡ true → y ≡ false) → (a || b) ≡ true
    → (x && y) ≡ false
or_null true b x y f g h = rw (f refl) refl
or_null false b true y f g h = g h
or_null false b false y f g h = refl

pub seek_is_bounds : (s : SortColumn) (low high : Option End) (rows : List Row)
    → Ascends (on (site_value s.site) (column_cmp s)) rows
    → bounds_walk s low high rows
    ≡ filter
    (λ row. low_holds s.collation low (site_value s.site row)
    && high_holds s.collation high (site_value s.site row)) rows
seek_is_bounds s None None rows h = filter_true rows
seek_is_bounds s None (Some e) rows h =
    cond_walk (is_null e.key) _ rows _
    (λ n row. null_false _ s.collation (site_value s.site row) e.key n)
    (λ n. range_is s.falling s.collation s.site None (Some e) rows h
    ∙ filter_agree _ _
    (λ row. high_case (is_null (site_value s.site row)) (is_null e.key) e.inclusive
    (value_cmp s.collation (site_value s.site row) e.key) n) rows)
seek_is_bounds s (Some l) None rows h =
    cond_walk (is_null l.key) _ rows _
    (λ n row. and_false _ _ (null_false _ s.collation (site_value s.site row) l.key n))
    (λ n. range_is s.falling s.collation s.site (Some l) None rows h
    ∙ filter_agree _ _
    (λ row. ap (λ b. b && true)
    (low_case (is_null (site_value s.site row)) (is_null l.key) l.inclusive
    (value_cmp s.collation (site_value s.site row) l.key) n)) rows)
seek_is_bounds s (Some l) (Some e) rows h =
    cond_walk (is_null l.key || is_null e.key) _ rows _
    (λ n row. or_null (is_null l.key) (is_null e.key) _ _
    (null_false _ s.collation (site_value s.site row) l.key)
    (null_false _ s.collation (site_value s.site row) e.key) n)
    (λ n. range_is s.falling s.collation s.site (Some l) (Some e) rows h
    ∙ filter_agree _ _ (λ row. both_case (is_null (site_value s.site row)) _ _ _ _
    (low_case (is_null (site_value s.site row)) (is_null l.key) l.inclusive
    (value_cmp s.collation (site_value s.site row) l.key)
    (or_false_left (is_null l.key) (is_null e.key) n))
    (high_case (is_null (site_value s.site row)) (is_null e.key) e.inclusive
    (value_cmp s.collation (site_value s.site row) e.key)
    (or_false_right (is_null l.key) (is_null e.key) n))) rows)

-- an index site's value at a key
abbrev pub at_key : SortColumn → Value → Row → Bool
at_key s key row = is_eq (column_cmp s (site_value s.site row) key)

-- the stretch of a key, and what a walk that is a filter takes of it
stretch_walk : (s : SortColumn) (ss : List SortColumn) (walk : List Row → List Row)
    (used : Row → Bool) (key : Value) (rows : List Row)
    → Ascends (entry_cmp (s ∷ ss)) rows
    → ((rows : List Row) → Ascends (entry_cmp ss) rows → walk rows ≡ filter used rows)
    → walk (key_stretch s key rows) ≡ filter used (filter (at_key s key) rows)
stretch_walk s ss walk used key rows h ih =
    ap walk
    (stretch_at (column_cmp_total s) (site_value s.site) key rows
    (Ascends-first (on (site_value s.site) (column_cmp s)) (entry_cmp ss) rows h))
    ∙ ih (filter (at_key s key) rows)
    (Ascends-at (column_cmp_total s) (site_value s.site) key (entry_cmp ss) rows h)

one_case : (s : SortColumn) (ss : List SortColumn) (walk : List Row → List Row) (used : Row → Bool)
    (key : Value) (rows : List Row)
    → Ascends (entry_cmp (s ∷ ss)) rows
    → ((rows : List Row) → Ascends (entry_cmp ss) rows → walk rows ≡ filter used rows) → (b : Bool)
    → is_null key ≡ b
    → cond b [] (walk (key_stretch s key rows))
    ≡ filter (λ row. compares IsEqual s.collation (site_value s.site row) key && used row) rows
one_case s ss walk used key rows h ih true e =
    filter_false _ rows
    (λ row. and_false _ _ (null_false IsEqual s.collation (site_value s.site row) key e))
one_case s ss walk used key rows h ih false e =
    stretch_walk s ss walk used key rows h ih
    ∙ filter-filter (at_key s key) used rows
    ∙ filter_agree _ _
    (λ row. ap (λ b. b && used row) (eq_true s.falling s.collation (site_value s.site row) key e))
    rows

any_case : (s : SortColumn) (v key : Value) (rest : List Value) (equals : Bool)
    → ties_any (column_cmp s) rest v ≡ equals → (b : Bool) → is_null key ≡ b
    → ties_any (column_cmp s) (cond (not b) (key ∷ rest) rest) v
    ≡ (compares IsEqual s.collation v key || equals)
any_case s v key rest equals h true e = rw (null_false IsEqual s.collation v key e) h
any_case s v key rest equals h false e = rw (← eq_true s.falling s.collation v key e, h) refl

-- the keys that are not NULL tie with a value exactly where it equals one of the keys
any_is : (s : SortColumn) (keys : List Value) (v : Value)
    → ties_any (column_cmp s) (filter (λ key. not (is_null key)) keys) v
    ≡ equals_any s.collation keys v
any_is s [] v = refl
any_is s (key ∷ keys) v =
    any_case s v key (filter (λ key. not (is_null key)) keys) (equals_any s.collation keys v)
    (any_is s keys v) (is_null key) refl

many_case : (s : SortColumn) (ss : List SortColumn) (walk : List Row → List Row) (used : Row → Bool)
    (keys : List Value) (rows : List Row)
    → Ascends (entry_cmp (s ∷ ss)) rows
    → ((rows : List Row) → Ascends (entry_cmp ss) rows → walk rows ≡ filter used rows)
    → flat_map (λ key. walk (key_stretch s key rows)) (walked_keys s keys)
    ≡ filter (λ row. equals_any s.collation keys (site_value s.site row) && used row) rows
many_case s ss walk used keys rows h ih =
    flat_map_same _ _ (walked_keys s keys) (λ key. stretch_walk s ss walk used key rows h ih)
    ∙ sym (filter-flat_map used (λ key. filter (at_key s key) rows) (walked_keys s keys))
    ∙ ap (filter used)
    (many_is (column_cmp_total s) (site_value s.site) (walked_keys s keys)
    (RisesStrictly-keep_first (column_cmp s)
    (sort_by (column_cmp s) (filter (λ key. not (is_null key)) keys)) []
    (Ascends-sort_by (column_cmp_total s) (filter (λ key. not (is_null key)) keys))) rows
    (Ascends-first (on (site_value s.site) (column_cmp s)) (entry_cmp ss) rows h))
    ∙ filter-filter _ used rows
    ∙ filter_agree _ _
    (λ row. ap (λ b. b && used row)
    (ties_walked (column_cmp_total s) (filter (λ key. not (is_null key)) keys)
    (site_value s.site row)
    ∙ any_is s keys (site_value s.site row))) rows

pub null_here : (falling : Bool) (collation : Collation) (v : Value)
    → is_eq (directed falling (value_cmp collation) v Null) ≡ is_null v
null_here true collation Null = refl
null_here true collation (Int n) = refl
null_here true collation (Dec u) = refl
null_here true collation (Text t) = refl
null_here true collation (Blob b) = refl
null_here false collation Null = refl
null_here false collation (Int n) = refl
null_here false collation (Dec u) = refl
null_here false collation (Text t) = refl
null_here false collation (Blob b) = refl

-- the path lemma: a seek is the filter of its list by what it carries, in the list's order
pub seek_is : (ss : List SortColumn) (parts : List Part) (low high : Option End) (rows : List Row)
    → Ascends (entry_cmp ss) rows
    → seek ss parts low high rows ≡ filter (parts_hold ss parts low high) rows
seek_is [] parts low high rows h = filter_true rows
seek_is (s ∷ ss) [] low high rows h =
    seek_is_bounds s low high rows
    (Ascends-first (on (site_value s.site) (column_cmp s)) (entry_cmp ss) rows h)
seek_is (s ∷ ss) (One key ∷ parts) low high rows h =
    one_case s ss (seek ss parts low high) (parts_hold ss parts low high) key rows h
    (seek_is ss parts low high) (is_null key) refl
seek_is (s ∷ ss) (Many keys ∷ parts) low high rows h =
    many_case s ss (seek ss parts low high) (parts_hold ss parts low high) keys rows h
    (seek_is ss parts low high)
seek_is (s ∷ ss) (NullPart ∷ parts) low high rows h =
    stretch_walk s ss (seek ss parts low high) (parts_hold ss parts low high) Null rows h
    (seek_is ss parts low high)
    ∙ filter-filter (at_key s Null) (parts_hold ss parts low high) rows
    ∙ filter_agree _ _
    (λ row. ap (λ b. b && parts_hold ss parts low high row)
    (null_here s.falling s.collation (site_value s.site row))) rows
