-- Along a walk its positions rise.
use Rattle.std.specs.declared.cmp.Ordering.{Ordering}
use Rattle.std.specs.Ordering.{ordering_then, int_cmp, is_eq, is_le}
use Rattle.std.specs.declared.cmp.Ordering.TheVariants.{Less, Equal as Ties, Greater}
use Rattle.std.specs.List.{AllByRecursion, filter, slice_get}
use Rattle.std.specs.Cmp.{IsEquivalence}
use Rattle.std.proofs.Common.{Bool, cond, not, List, ◌≡◌, refl, ℤ, pos, ◌*ℤ◌, ◌∙◌, true, false, ap}
use Rattle.std.proofs.Common.{ℕ, Option, Some, None, sym, [], ◌∷◌, ap₂, map, subst, ◌++◌, reverse}
use Rattle.std.proofs.lemmas.Cmp.{int_cmp_total}
use Rattle.std.proofs.lemmas.Bool.{eqb-true}
use Rattle.std.proofs.lemmas.Grind.{reverse_onto}
use Rattle.list_laws.specs.Order.{insert_by, sort_by, Ascends}
use Rattle.list_laws.proofs.Orders.{all_insert, Ascends-sort_by}
use Rattle.list_laws.proofs.Unions.{AreApart}
use Rattle.list_laws.proofs.Lists.{all_both, all_map, all_filter, all_append, filter_all}
use Rattle.sql_meaning.specs.Values.{value_cmp, Int, Collation, Binary, Value}
use Rattle.sql_meaning.specs.Rows.{Row, site_value, AtColumn, AtRowid, Assignment}
use Rattle.sql_meaning.specs.IndexLists.{directed, SortColumn, entry_cmp, index_sort_columns}
use Rattle.sql_meaning.specs.IndexLists.{index_entries, sort_columns}
use Rattle.sql_meaning.specs.OrderState.{Position, is_alias, first_held, rest_parts}
use Rattle.sql_meaning.specs.OrderState.{index_positions, columns_at, is_one_key, positions}
use Rattle.sql_meaning.specs.Orders.{lex_of}
use Rattle.sql_meaning.specs.Schemas.{IndexColumn, AliasHolds, RisingRows, Index, Schema}
use Rattle.sql_meaning.specs.Paths.{EqPart, same_rowid, IndexScan, Path, TableScan, RowidEq}
use Rattle.sql_meaning.specs.Paths.{RowidRange, IndexSeek, Union, path_list, is_union, walk}
use Rattle.sql_meaning.specs.Paths.{carried}
use Rattle.sql_meaning.specs.Plans.{directed_walk}
use Rattle.sql_meaning.proofs.Paths.{same_rowid_equiv, rising_apart, rowid_less}
use Rattle.list_laws.proofs.SortedViews.{all_sort}
use Rattle.sql_meaning.proofs.Paths.{entry_cmp_total, all_list, walk_is}
use Rattle.sql_meaning.proofs.Seeks.{is_eq_reverse}
use Rattle.sql_meaning.proofs.Scaled.{scaled_cmp}
use Rattle.list_laws.specs.Order.{RisesStrictly}

-- two rows by a position, in the walk's direction
abbrev pub pos_cmp : Bool → Position → Row → Row → Ordering
pos_cmp d p x y =
    directed (cond d (not p.falling) p.falling) (value_cmp p.collation) (site_value p.site x)
    (site_value p.site y)

abbrev pub by_positions : Bool → List Position → Row → Row → Ordering
by_positions d ps x y = lex_of (λ p. pos_cmp d p x y) ps

then_none : (o : Ordering) → ordering_then o Ties ≡ o
then_none Less = refl
then_none Ties = refl
then_none Greater = refl

-- Ints compare as their numbers
int_order : (collation : Collation) (m n : ℤ) → value_cmp collation (Int m) (Int n) ≡ int_cmp m n
int_order collation m n = then_none (int_cmp (m *ℤ pos 10000) (n *ℤ pos 10000)) ∙ scaled_cmp m n

ints_apart : (b : Bool) (collation : Collation) (m n : ℤ) → is_eq (int_cmp m n) ≡ false
    → is_eq (directed b (value_cmp collation) (Int m) (Int n)) ≡ false
ints_apart true collation m n h =
    ap is_eq (int_order collation n m ∙ int_cmp_total.antisymm n m) ∙ is_eq_reverse (int_cmp m n)
    ∙ h
ints_apart false collation m n h = ap is_eq (int_order collation m n) ∙ h

le_apart : (o rest : Ordering) → is_eq o ≡ false → is_le (ordering_then o rest) ≡ true
    → ordering_then o Ties ≡ Less
le_apart Less rest h e = refl
le_apart Ties rest h e = absurd (cc)
le_apart Greater rest h e = absurd (cc)

le_then : (o a b : Ordering) → is_le (ordering_then o a) ≡ true → (is_le a ≡ true → b ≡ Less)
    → ordering_then o b ≡ Less
le_then Less a b h f = refl
le_then Ties a b h f = f h
le_then Greater a b h f = absurd (cc)

abbrev pub spot_of : IndexColumn → SortColumn
spot_of c = record { site = AtColumn c.column; collation = c.collation; falling = c.falling }

pub alias_is : (alias : Option ℕ) (column : ℕ) → is_alias alias column ≡ true → alias ≡ Some column
alias_is None column h = absurd (cc)
alias_is (Some a) column h = ap Some (eqb-true a column h)

-- an index column that is the alias is worth the rowid
pub column_site_is : (alias : Option ℕ) (column : ℕ) (row : Row) → AliasHolds alias row → (b : Bool)
    → is_alias alias column ≡ b
    → site_value (cond b AtRowid (AtColumn column)) row ≡ site_value (AtColumn column) row
column_site_is alias column row h true e = sym (h column (alias_is alias column e))
column_site_is alias column row h false e = refl

entry_case : (alias : Option ℕ) (c : IndexColumn) (cs : List IndexColumn) (eqs : List EqPart)
    (x y : Row)
    → AliasHolds alias x → AliasHolds alias y → is_eq (int_cmp x.rowid y.rowid) ≡ false
    → is_le (entry_cmp (map spot_of (c ∷ cs)) x y) ≡ true
    → (is_le (entry_cmp (map spot_of cs) x y) ≡ true
    → by_positions false (index_positions alias cs (rest_parts eqs)) x y ≡ Less)
    → (b : Bool) → is_alias alias c.column ≡ b
    → by_positions false
    (record {
      site = cond b AtRowid (AtColumn c.column);
      collation = c.collation;
      falling = c.falling;
      held = first_held eqs;
    } ∷ cond b [] (index_positions alias cs (rest_parts eqs))) x y
    ≡ Less
entry_case alias c cs eqs x y hx hy apart le ih true e =
    let same : directed c.falling (value_cmp c.collation) (site_value (AtColumn c.column) x)
    (site_value (AtColumn c.column) y)
    ≡ directed c.falling (value_cmp c.collation) (Int x.rowid) (Int y.rowid) =
    ap₂ (directed c.falling (value_cmp c.collation)) (hx c.column (alias_is alias c.column e))
    (hy c.column (alias_is alias c.column e)) in
    le_apart _ (entry_cmp (map spot_of cs) x y)
    (ints_apart c.falling c.collation x.rowid y.rowid apart) (rw same at le)
entry_case alias c cs eqs x y hx hy apart le ih false e =
    le_then _ (entry_cmp (map spot_of cs) x y) _ le ih

-- of two different rows in the index's order the first is before the second by the index's
-- positions
entry_strictly : (alias : Option ℕ) (cs : List IndexColumn) (eqs : List EqPart) (x y : Row)
    → AliasHolds alias x → AliasHolds alias y → is_eq (int_cmp x.rowid y.rowid) ≡ false
    → is_le (entry_cmp (map spot_of cs) x y) ≡ true
    → by_positions false (index_positions alias cs eqs) x y ≡ Less
entry_strictly alias [] eqs x y hx hy apart le =
    rowid_less x.rowid y.rowid Ties (less_from (int_cmp x.rowid y.rowid) apart le)
  where
    less_from : (o : Ordering) → is_eq o ≡ false → is_le o ≡ true → o ≡ Less
    less_from Less h k = refl
    less_from Ties h k = absurd (cc)
    less_from Greater h k = absurd (cc)
entry_strictly alias (c ∷ cs) eqs x y hx hy apart le =
    entry_case alias c cs eqs x y hx hy apart le
    (entry_strictly alias cs (rest_parts eqs) x y hx hy apart) (is_alias alias c.column) refl

-- lists of different rows
apart_insert : {X : Type 0} {E : X → X → Bool} → IsEquivalence E
    → (cmp : X → X → Ordering) (x : X) (xs : List X) → AllByRecursion (λ y. E x y ≡ false) xs
    → AreApart E xs → AreApart E (insert_by cmp x xs)
apart_insert o cmp x [] h k = (tt, tt)
apart_insert {X} {E} o cmp x (y ∷ ys) h k =
    elim (is_le (cmp x y)) as (λ b. AreApart E (cond b (x ∷ y ∷ ys) (y ∷ insert_by cmp x ys))) [
      | true ↦ (h, k)
      | false
          ↦ (
            all_insert (λ z. E y z ≡ false) cmp x ys (o.symm y x ∙ h.0) k.0,
            apart_insert o cmp x ys h.1 k.1,
          )
    ]

apart_sort : {X : Type 0} {E : X → X → Bool} → IsEquivalence E
    → (cmp : X → X → Ordering) (xs : List X) → AreApart E xs → AreApart E (sort_by cmp xs)
apart_sort o cmp [] h = tt
apart_sort {X} {E} o cmp (x ∷ xs) h =
    apart_insert o cmp x (sort_by cmp xs) (all_sort (λ y. E x y ≡ false) cmp xs h.0)
    (apart_sort o cmp xs h.1)

all_pairs : {X : Type 0} (P Q : X → Type 0) (xs : List X) → AllByRecursion P xs
    → AllByRecursion Q xs → AllByRecursion (λ x. P x × Q x) xs
all_pairs P Q xs p q = all_both P Q (λ x. P x × Q x) xs (λ x a b. (a, b)) p q

rises_from : (alias : Option ℕ) (cs : List IndexColumn) (eqs : List EqPart) (rows : List Row)
    → Ascends (entry_cmp (map spot_of cs)) rows → AreApart same_rowid rows
    → AllByRecursion (AliasHolds alias) rows
    → RisesStrictly (by_positions false (index_positions alias cs eqs)) rows
rises_from alias cs eqs [] a d h = tt
rises_from alias cs eqs (x ∷ xs) a d h = (
  all_both _ _ _ xs (λ y le p. entry_strictly alias cs eqs x y h.0 p.1 p.0 le) a.0
      (all_pairs _ _ xs d.0 h.1),
  rises_from alias cs eqs xs a.1 d.1 h.1,
)

rises_rowid : (held : Bool) (rows : List Row) → RisingRows rows
    → RisesStrictly
    (by_positions false
    (record { site = AtRowid; collation = Binary; falling = false; held = held } ∷ [])) rows
rises_rowid held [] h = tt
rises_rowid held (row ∷ rows) h = (
  all_map _ _ rows (λ later e. rowid_less row.rowid later.rowid Ties e) h.0,
  rises_rowid held rows h.1,
)

rises_cond : {X : Type 0} (R : X → X → Ordering) (b : Bool) (x : X) (xs : List X)
    → AllByRecursion (λ y. R x y ≡ Less) xs → RisesStrictly R xs
    → RisesStrictly R (cond b (x ∷ xs) xs)
rises_cond R true x xs p h = (p, h)
rises_cond R false x xs p h = h

pub rises_filter : {X : Type 0} (R : X → X → Ordering) (p : X → Bool) (xs : List X)
    → RisesStrictly R xs → RisesStrictly R (filter p xs)
rises_filter R p [] h = tt
rises_filter R p (x ∷ xs) h =
    rises_cond R (p x) x (filter p xs) (all_filter _ p xs h.0) (rises_filter R p xs h.1)

pub spots_are : (o : Option Index) → index_sort_columns o ≡ map spot_of (columns_at o)
spots_are None = refl
spots_are (Some index) = refl

index_rises : (schema : Schema) (alias : Option ℕ) (index : ℕ) (eqs : List EqPart) (rows : List Row)
    → RisingRows rows → AllByRecursion (AliasHolds alias) rows
    → RisesStrictly
    (by_positions false (index_positions alias (columns_at (slice_get schema.indexes index)) eqs))
    (index_entries (sort_columns schema index) rows)
index_rises schema alias index eqs rows rising aliased =
    rises_from alias (columns_at (slice_get schema.indexes index)) eqs
    (index_entries (sort_columns schema index) rows)
    (subst
    (λ (ss : List SortColumn). Ascends (entry_cmp ss)
    (index_entries (sort_columns schema index) rows))
    (spots_are (slice_get schema.indexes index))
    (Ascends-sort_by (entry_cmp_total (sort_columns schema index)) rows))
    (apart_sort same_rowid_equiv (entry_cmp (sort_columns schema index)) rows
    (rising_apart rows rising))
    (all_list (AliasHolds alias) schema (IndexScan index) rows aliased)

-- the list of a path rises strictly by the path's positions
list_rises : (schema : Schema) (alias : Option ℕ) (path : Path) (rows : List Row)
    → is_union path ≡ false → RisingRows rows → AllByRecursion (AliasHolds alias) rows
    → RisesStrictly (by_positions false (positions schema alias path)) (path_list schema path rows)
list_rises schema alias TableScan rows u rising aliased = rises_rowid false rows rising
list_rises schema alias (RowidEq part) rows u rising aliased =
    rises_rowid (is_one_key part) rows rising
list_rises schema alias (RowidRange low high) rows u rising aliased = rises_rowid false rows rising
list_rises schema alias (IndexScan index) rows u rising aliased =
    index_rises schema alias index [] rows rising aliased
list_rises schema alias (IndexSeek index eqs low high) rows u rising aliased =
    index_rises schema alias index eqs rows rising aliased
list_rises schema alias (Union branches) rows u rising aliased = absurd (cc)

-- a reversed list rises the other way
rises_append : {X : Type 0} (R : X → X → Ordering) (xs : List X) (y : X) → RisesStrictly R xs
    → AllByRecursion (λ x. R x y ≡ Less) xs → RisesStrictly R (xs ++ y ∷ [])
rises_append R [] y h k = (tt, tt)
rises_append R (x ∷ xs) y h k =
    (all_append (λ z. R x z ≡ Less) xs (y ∷ []) h.0 (k.0, tt), rises_append R xs y h.1 k.1)

pub all_reverse : {X : Type 0} (P : X → Type 0) (xs : List X) → AllByRecursion P xs
    → AllByRecursion P (reverse xs)
all_reverse P [] h = tt
all_reverse P (x ∷ xs) h =
    subst (AllByRecursion P) (sym (reverse_onto xs x []))
    (all_append P (reverse xs) (x ∷ []) (all_reverse P xs h.1) (h.0, tt))

rises_reverse : {X : Type 0} (R S : X → X → Ordering) → ((x y : X) → S y x ≡ R x y) → (xs : List X)
    → RisesStrictly R xs → RisesStrictly S (reverse xs)
rises_reverse R S turn [] h = tt
rises_reverse R S turn (x ∷ xs) h =
    subst (RisesStrictly S) (sym (reverse_onto xs x []))
    (rises_append S (reverse xs) x (rises_reverse R S turn xs h.1)
    (all_reverse (λ y. S y x ≡ Less) xs (all_map _ _ xs (λ y e. turn x y ∙ e) h.0)))

directed_turn : (b : Bool) (cmp : Value → Value → Ordering) (v w : Value)
    → directed (not b) cmp w v ≡ directed b cmp v w
directed_turn true cmp v w = refl
directed_turn false cmp v w = refl

positions_turn : (ps : List Position) (x y : Row)
    → by_positions true ps y x ≡ by_positions false ps x y
positions_turn [] x y = refl
positions_turn (p ∷ ps) x y =
    ap₂ ordering_then
    (directed_turn p.falling (value_cmp p.collation) (site_value p.site x) (site_value p.site y))
    (positions_turn ps x y)

-- a walk, forward or backward, rises strictly by its path's positions in its direction
pub walk_rises : (schema : Schema) (params : List Value) (alias : Option ℕ) (path : Path) (d : Bool)
    (rows : List Row) (env : Assignment)
    → is_union path ≡ false → RisingRows rows → AllByRecursion (AliasHolds alias) rows
    → RisesStrictly (by_positions d (positions schema alias path))
    (directed_walk d (walk schema params path rows env))
walk_rises schema params alias path d rows env u rising aliased = turned d
  where
    plain : RisesStrictly (by_positions false (positions schema alias path))
        (walk schema params path rows env)
    plain =
        subst (RisesStrictly (by_positions false (positions schema alias path)))
        (sym (walk_is schema params path rows env rising u))
        (rises_filter (by_positions false (positions schema alias path))
        (carried schema params path env) (path_list schema path rows)
        (list_rises schema alias path rows u rising aliased))

    turned : (d : Bool)
        → RisesStrictly (by_positions d (positions schema alias path))
        (directed_walk d (walk schema params path rows env))
    turned true =
        rises_reverse (by_positions false (positions schema alias path))
        (by_positions true (positions schema alias path))
        (λ x y. positions_turn (positions schema alias path) x y)
        (walk schema params path rows env) plain
    turned false = plain

-- what the path carries is true of each row of the walk
pub walk_carried : (schema : Schema) (params : List Value) (path : Path) (d : Bool)
    (rows : List Row) (env : Assignment)
    → is_union path ≡ false → RisingRows rows
    → AllByRecursion (λ row. carried schema params path env row ≡ true)
    (directed_walk d (walk schema params path rows env))
walk_carried schema params path d rows env u rising = turned d
  where
    plain : AllByRecursion (λ row. carried schema params path env row ≡ true)
        (walk schema params path rows env)
    plain =
        subst (AllByRecursion (λ row. carried schema params path env row ≡ true))
        (sym (walk_is schema params path rows env rising u))
        (filter_all _ (carried schema params path env) (path_list schema path rows) (λ row e. e))

    turned : (d : Bool)
        → AllByRecursion (λ row. carried schema params path env row ≡ true)
        (directed_walk d (walk schema params path rows env))
    turned true = all_reverse _ (walk schema params path rows env) plain
    turned false = plain
