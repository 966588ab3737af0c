-- A loop that passes keys gives its rows in their order.
use Rattle.std.specs.List.{AllByRecursion}
use Rattle.std.specs.Ordering.{ordering_then, is_le}
use Rattle.std.specs.declared.cmp.Ordering.TheVariants.{Equal as Ties, Less}
use Rattle.std.specs.declared.cmp.Ordering.{Ordering}
use Rattle.std.proofs.Common.{◌≡◌, ℕ, Some, List, None, ap, sym, ◌∙◌, [], refl, ap₂, Bool, true}
use Rattle.std.proofs.Common.{false, cond, Option, ◌≢◌, map, ◌==◌, ◌<◌, length, not, ◌&&◌, ◌++◌}
use Rattle.std.proofs.Common.{subst, fold}
use Rattle.std.proofs.lemmas.Bool.{eqb-true}
use Rattle.list_laws.specs.Nest.{place}
use Rattle.list_laws.specs.Order.{Ascends}
use Rattle.list_laws.proofs.Lists.{all_map, all_both}
use Rattle.list_laws.proofs.Orders.{Ascends-filter}
use Rattle.list_laws.proofs.Bools.{and_left, and_right}
use Rattle.sql_meaning.specs.Rows.{Site, Assignment, Row, site_value}
use Rattle.sql_meaning.specs.Expressions.{bare_column, ColumnRef}
use Rattle.sql_meaning.specs.Statements.{SortKey, Bound, item_rows, is_left, owned_by, item_alias}
use Rattle.sql_meaning.specs.Values.{Value, value_cmp}
use Rattle.sql_meaning.specs.IndexLists.{directed}
use Rattle.sql_meaning.specs.Orders.{key_cmp, same_flag, same_collation, same_site}
use Rattle.sql_meaning.specs.Paths.{walk, Path, carried, is_union, TableScan, RowidEq, RowidRange}
use Rattle.sql_meaning.specs.Paths.{IndexScan, IndexSeek, Union}
use Rattle.sql_meaning.specs.Plans.{directed_walk, Loop, loop_walk}
use Rattle.sql_meaning.specs.OrderState.{test_column, on_item, Position, key_matches}
use Rattle.sql_meaning.specs.OrderState.{needs_backward, positions, path_held, key_held, is_single}
use Rattle.sql_meaning.specs.OrderState.{drop_held, lost_by, is_backward, Loses, Leaves}
use Rattle.sql_meaning.specs.OrderState.{loop_passes, pass_position}
use Rattle.sql_meaning.specs.Schemas.{Schema, AliasHolds, RisingRows, Database}
use Rattle.sql_meaning.specs.Conjuncts.{level_test}
use Rattle.sql_meaning.proofs.Databases.{IsDatabase}
use Rattle.sql_meaning.proofs.Terms.{bare_is}
use Rattle.sql_meaning.proofs.TiedPositions.{directed_tie, collation_is, site_is, path_tied}
use Rattle.sql_meaning.proofs.TiedPositions.{path_positions_tied}
use Rattle.sql_meaning.proofs.Rises.{pos_cmp, walk_carried, all_reverse, by_positions, walk_rises}
use Rattle.sql_meaning.proofs.Rises.{rises_filter}
use Rattle.sql_meaning.proofs.Offers.{cell_placed}
use Rattle.sql_meaning.proofs.Passes.{AreTied, IsPassed, IsFront, held_front, IsDirection}
use Rattle.sql_meaning.proofs.Passes.{leaves_keys, pass_is}
use Rattle.sql_meaning.proofs.Paths.{all_walk}
use Rattle.sql_meaning.proofs.Ordered.{IsOwn, by_own, rises_map, ascends_map, rises_some}
use Rattle.sql_meaning.proofs.Ordered.{ascends_some, rises_missing, ascends_missing}
use Rattle.list_laws.specs.Order.{RisesStrictly}

-- a test of a key's column
pub record IsTested (item : ℕ) (test : Site → Bool) (k : SortKey) : Type 0 where
  pub own : IsOwn item k
  pub passes : test own.site ≡ true

tested_case : (item : ℕ) (test : Site → Bool) (k : SortKey) (o : Option ColumnRef)
    → bare_column k.expr ≡ o → test_column item test o ≡ true → IsTested item test k
tested_case item test k None e h = absurd (cc)
tested_case item test k (Some c) e h =
    let same : c.item ≡ item = eqb-true c.item item (and_left _ (test c.site) h) in
    record {
      own =
          record {
            site = c.site;
            is = e
                ∙ ap (λ i. Some (record { item = i; site = c.site })) same;
          };
      passes = and_right (c.item == item) _ h;
    }

tested : (item : ℕ) (test : Site → Bool) (k : SortKey)
    → test_column item test (bare_column k.expr) ≡ true → IsTested item test k
tested item test k h = tested_case item test k (bare_column k.expr) refl h

on_own : (item : ℕ) (k : SortKey) (o : Option ColumnRef) → bare_column k.expr ≡ o
    → on_item item o ≡ true → IsOwn item k
on_own item k None e h = absurd (cc)
on_own item k (Some c) e h =
    record {
      site = c.site;
      is = e
          ∙ ap (λ i. Some (record { item = i; site = c.site })) (eqb-true c.item item h);
    }

-- an own key's order of two rows
own_order : (params : List Value) (env : Assignment) (item : ℕ) (x y : Row) (k : SortKey)
    (o : IsOwn item k)
    → item < length env
    → key_cmp params k (place env item (Some x)) (place env item (Some y))
    ≡ directed k.falling (value_cmp k.collation) (site_value o.site x) (site_value o.site y)
own_order params env item x y k o lt =
    ap₂ (directed k.falling (value_cmp k.collation))
    (bare_is (place env item (Some x)) params k.expr _ o.is ∙ cell_placed env item x o.site lt)
    (bare_is (place env item (Some y)) params k.expr _ o.is ∙ cell_placed env item y o.site lt)

desc_is : (k p d : Bool) → not (same_flag k p) ≡ d → k ≡ cond d (not p) p
desc_is true true true h = absurd (cc)
desc_is true true false h = refl
desc_is true false true h = refl
desc_is true false false h = absurd (cc)
desc_is false true true h = refl
desc_is false true false h = absurd (cc)
desc_is false false true h = absurd (cc)
desc_is false false false h = refl

matched : (params : List Value) (env : Assignment) (item : ℕ) (d : Bool) (x y : Row) (p : Position)
    (k : SortKey)
    → item < length env → key_matches item p k ≡ true → needs_backward p k ≡ d
    → key_cmp params k (place env item (Some x)) (place env item (Some y)) ≡ pos_cmp d p x y
matched params env item d x y p k lt m n =
    let t =
    tested item (λ site. same_site p.site site && same_collation p.collation k.collation) k m in
    let same_s : p.site ≡ t.own.site =
    site_is p.site t.own.site (and_left _ (same_collation p.collation k.collation) t.passes) in
    let same_c : p.collation ≡ k.collation =
    collation_is p.collation k.collation (and_right (same_site p.site t.own.site) _ t.passes) in
    own_order params env item x y k t.own lt
    ∙ ap
    (λ b. directed b (value_cmp k.collation) (site_value t.own.site x) (site_value t.own.site y))
    (desc_is k.falling p.falling d n)
    ∙ sym
    (ap₂
    (λ c s. directed (cond d (not p.falling) p.falling) (value_cmp c) (site_value s x)
    (site_value s y)) same_c same_s)

-- what is known of a row of a walk
abbrev pub Known : Schema → List Value → Option ℕ → Path → Assignment → Row → Type 0
Known schema params alias path env row =
    (carried schema params path env row ≡ true) × AliasHolds alias row

are_tied : (schema : Schema) (params : List Value) (alias : Option ℕ) (item : ℕ) (path : Path)
    (env : Assignment) (d : Bool) (x y : Row)
    → item < length env → Known schema params alias path env x
    → Known schema params alias path env y
    → AreTied item (key_held schema alias item path) d
    (λ k. key_cmp params k (place env item (Some x)) (place env item (Some y)))
    (λ p. pos_cmp d p x y) (positions schema alias path)
are_tied schema params alias item path env d x y lt kx ky = record {
  keys = λ k h.
      let t = tested item (λ site. path_held schema alias path site k.collation) k h in
      own_order params env item x y k t.own lt
      ∙ directed_tie k.falling k.collation _ _
      (path_tied schema params env alias path x y t.own.site k.collation kx.1 ky.1 kx.0 ky.0
      t.passes);
  positions = path_positions_tied schema params env alias path d x y kx.1 ky.1 kx.0 ky.0;
  says = λ p k m n. matched params env item d x y p k lt m n;
}

-- what a loop that leaves keys does: it passes the keys before them, in order, and strictly where
-- some are left
pub record IsLoopPassed (params : List Value) (env : Assignment) (item : ℕ)
    (rows : List (Option Row)) (keys left : List SortKey) : Type 0
  where
    pub passed : List SortKey
    pub is : keys ≡ passed ++ left
    pub own : AllByRecursion (IsOwn item) passed
    pub rises : Ascends (by_own params env item passed) rows
    pub strictly : left ≢ [] → RisesStrictly (by_own params env item passed) rows

known_walk : (schema : Schema) (params : List Value) (alias : Option ℕ) (path : Path) (d : Bool)
    (rows : List Row) (env : Assignment)
    → is_union path ≡ false → RisingRows rows → AllByRecursion (AliasHolds alias) rows
    → AllByRecursion (Known schema params alias path env)
    (directed_walk d (walk schema params path rows env))
known_walk schema params alias path d rows env u rising aliased =
    all_both _ _ _ _ (λ row c a. (c, a)) (walk_carried schema params path d rows env u rising)
    (turned d)
  where
    turned : (d : Bool)
        → AllByRecursion (AliasHolds alias) (directed_walk d (walk schema params path rows env))
    turned true =
        all_reverse _ _ (all_walk (AliasHolds alias) schema params path rows env rising aliased)
    turned false = all_walk (AliasHolds alias) schema params path rows env rising aliased

less_le : (o : Ordering) → o ≡ Less → is_le o ≡ true
less_le o e = ap is_le e

passes_rows : (schema : Schema) (params : List Value) (alias : Option ℕ) (item : ℕ) (path : Path)
    (d : Bool) (rows : List Row) (env : Assignment) (keys left : List SortKey)
    → is_union path ≡ false → RisingRows rows → AllByRecursion (AliasHolds alias) rows
    → item < length env
    → IsPassed item (key_held schema alias item path) (IsOwn item) d
    (positions schema alias path) keys left
    → IsLoopPassed params env item
    (map Some (directed_walk d (walk schema params path rows env))) keys left
passes_rows schema params alias item path d rows env keys left u rising aliased lt i = record {
  passed = i.passed;
  is = i.is;
  own = i.own;
  rises =
      ascends_some Some (by_own params env item i.passed) _
      (ascends_map (by_positions d (positions schema alias path)) _
      (Known schema params alias path env)
      (λ x y kx ky e. i.rises _ _ (are_tied schema params alias item path env d x y lt kx ky)
      (less_le _ e)) _ (known_walk schema params alias path d rows env u rising aliased)
      (walk_rises schema params alias path d rows env u rising aliased));
  strictly =
      λ n. rises_some Some (by_own params env item i.passed) _
      (rises_map (by_positions d (positions schema alias path)) _
      (Known schema params alias path env)
      (λ x y kx ky e. i.strictly n _ _
      (are_tied schema params alias item path env d x y lt kx ky) e) _
      (known_walk schema params alias path d rows env u rising aliased)
      (walk_rises schema params alias path d rows env u rising aliased));
}

-- two rows of a RowidEq that is One or Null would tie
single_none : (schema : Schema) (params : List Value) (alias : Option ℕ) (path : Path)
    (env : Assignment) (d : Bool) (x y : Row)
    → is_single path ≡ true → Known schema params alias path env x
    → Known schema params alias path env y → by_positions d (positions schema alias path) x y ≡ Less
    → ⊥
single_none schema params alias (RowidEq part) env d x y s kx ky e =
    let tie =
    path_positions_tied schema params env alias (RowidEq part) d x y kx.1 ky.1 kx.0 ky.0 in
    let equal : by_positions d (positions schema alias (RowidEq part)) x y ≡ Ties =
    ap (λ o. ordering_then o Ties) (tie.0 s) in
    cc
single_none schema params alias TableScan env d x y s kx ky e = absurd (cc)
single_none schema params alias (RowidRange low high) env d x y s kx ky e = absurd (cc)
single_none schema params alias (IndexScan index) env d x y s kx ky e = absurd (cc)
single_none schema params alias (IndexSeek index eqs low high) env d x y s kx ky e = absurd (cc)
single_none schema params alias (Union branches) env d x y s kx ky e = absurd (cc)

single_rows : (schema : Schema) (params : List Value) (alias : Option ℕ) (item : ℕ) (path : Path)
    (d : Bool) (rows : List Row) (env : Assignment) (keys : List SortKey)
    → is_union path ≡ false → is_single path ≡ true → RisingRows rows
    → AllByRecursion (AliasHolds alias) rows
    → IsLoopPassed params env item
    (map Some (directed_walk d (walk schema params path rows env))) keys
    (drop_held (λ k. on_item item (bare_column k.expr)) keys)
single_rows schema params alias item path d rows env keys u s rising aliased =
    let f : IsFront (λ k. on_item item (bare_column k.expr)) keys =
    held_front (λ k. on_item item (bare_column k.expr)) keys in
    record {
      passed = f.front;
      is = f.is;
      own = all_map _ _ f.front (λ k h. on_own item k (bare_column k.expr) refl h) f.all;
      rises =
          ascends_some Some (by_own params env item f.front) _
          (ascends_map (by_positions d (positions schema alias path)) _
          (Known schema params alias path env)
          (λ x y kx ky e. absurd (single_none schema params alias path env d x y s kx ky e)) _
          (known_walk schema params alias path d rows env u rising aliased)
          (walk_rises schema params alias path d rows env u rising aliased));
      strictly =
          λ n. rises_some Some (by_own params env item f.front) _
          (rises_map (by_positions d (positions schema alias path)) _
          (Known schema params alias path env)
          (λ x y kx ky e. absurd (single_none schema params alias path env d x y s kx ky e)) _
          (known_walk schema params alias path d rows env u rising aliased)
          (walk_rises schema params alias path d rows env u rising aliased));
    }

lost_union : (path : Path) → lost_by path ≡ false → is_union path ≡ false
lost_union TableScan h = refl
lost_union (RowidEq part) h = refl
lost_union (RowidRange low high) h = refl
lost_union (IndexScan index) h = refl
lost_union (IndexSeek index eqs low high) h = refl
lost_union (Union branches) h = h

own_direction : (left : List SortKey) (out : Option Bool)
    → IsDirection out (is_backward (Leaves left out))
own_direction left None = tt
own_direction left (Some d) = refl

rows_case : (schema : Schema) (params : List Value) (alias : Option ℕ) (item : ℕ) (path : Path)
    (back : Bool) (rows : List Row) (env : Assignment) (keys left : List SortKey)
    (out : Option Bool)
    → RisingRows rows → AllByRecursion (AliasHolds alias) rows → item < length env
    → back ≡ is_backward (Leaves left out) → (b c : Bool) → lost_by path ≡ b → is_single path ≡ c
    → cond b Loses
    (cond c (Leaves (drop_held (λ k. on_item item (bare_column k.expr)) keys) None)
    (fold (pass_position item (key_held schema alias item path)) (Leaves keys None)
    (positions schema alias path)))
    ≡ Leaves left out
    → IsLoopPassed params env item
    (map Some (directed_walk back (walk schema params path rows env))) keys left
rows_case schema params alias item path back rows env keys left out rising aliased lt same true c e
    f h = absurd (cc)
rows_case schema params alias item path back rows env keys left out rising aliased lt same false
    true e f h =
    subst
    (λ (ks : List SortKey). IsLoopPassed params env item
    (map Some (directed_walk back (walk schema params path rows env))) keys ks)
    (leaves_keys (drop_held (λ k. on_item item (bare_column k.expr)) keys) left None out h).0
    (single_rows schema params alias item path back rows env keys
    (lost_union path e) f rising aliased)
rows_case schema params alias item path back rows env keys left out rising aliased lt same false
    false e f h =
    passes_rows schema params alias item path back rows env keys left
    (lost_union path e) rising aliased lt
    (pass_is item (key_held schema alias item path) (IsOwn item)
    (λ k t. (tested item (λ site. path_held schema alias path site k.collation) k t).own)
    (λ p k m.
    (tested item (λ site. same_site p.site site && same_collation p.collation k.collation) k m).own)
    back (positions schema alias path) None keys left out h
    (subst (IsDirection out) (sym same) (own_direction left out)))

-- a filter, and the missing row of a LEFT loop, keep the order
pub loop_passed : (schema : Schema) (database : Database) (bound : Bound)
    (params : List Value) (consumed placed : List ℕ) (l : Loop) (env : Assignment)
    (keys left : List SortKey) (out : Option Bool)
    → IsDatabase schema bound database → l.item < length env
    → l.reverse ≡ is_backward (Leaves left out)
    → loop_passes schema bound l keys ≡ Leaves left out
    → IsLoopPassed params env l.item
    (loop_walk schema database bound params consumed placed l env) keys left
loop_passed schema database bound params consumed placed l env keys left out valid lt same h =
    let i =
    rows_case schema params (item_alias schema bound l.item) l.item l.path l.reverse
    (item_rows database bound l.item) env keys left out (valid.rising l.item)
    (valid.aliased l.item) lt same (lost_by l.path) (is_single l.path) refl refl h in
    record {
      passed = i.passed;
      is = i.is;
      own = i.own;
      rises =
          ascends_missing _ (is_left bound l.item) _
          (Ascends-filter _
          (λ x. level_test
          (λ c. owned_by l.item c.owner) params consumed placed l.item 0 bound.conjuncts
          (place env l.item x)) _ i.rises);
      strictly =
          λ n. rises_missing _ (is_left bound l.item) _
          (rises_filter _
          (λ x. level_test
          (λ c. owned_by l.item c.owner) params consumed placed l.item 0 bound.conjuncts
          (place env l.item x)) _ (i.strictly n));
    }
