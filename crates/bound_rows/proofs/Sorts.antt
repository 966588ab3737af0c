-- A sort by values of keys that were evaluated beforehand is the sort by the keys.
use Rattle.std.specs.Ordering.{ordering_then}
use Rattle.std.specs.Cmp.{IsTotalOrder}
use Rattle.std.proofs.Common.{◌≡◌, ℕ, suc, ◌+◌, List, [], ◌∷◌, refl, ap, ap₂, sym, ◌∙◌, map}
use Rattle.std.proofs.Common.{get_or, arith, subst}
use Rattle.std.proofs.lemmas.Cmp.{on_total, then_total}
use Rattle.std.specs.Cmp.Derive.{point_total}
use Rattle.std.proofs.Common.{map-id}
use Rattle.std.proofs.lemmas.Simd.{map-map}
use Rattle.list_laws.specs.Order.{sort_by}
use Rattle.list_laws.proofs.SortedViews.{sort_by-map, sort_same, all_sort}
use Rattle.sql_meaning.specs.Values.{Value, Null}
use Rattle.sql_meaning.specs.Rows.{Assignment, AtRowid}
use Rattle.sql_meaning.specs.Items.{Item}
use Rattle.sql_meaning.specs.Schemas.{Database}
use Rattle.sql_meaning.specs.Evaluation.{ev}
use Rattle.sql_meaning.specs.Orders.{by_keys}
use Rattle.sql_meaning.specs.Statements.{SortKey}
use Rattle.sql_meaning.proofs.Seeks.{column_cmp_total}
use Rattle.sql_eval.specs.Environments.{placed}
use Rattle.sql_eval.specs.declared.environment.Place.{Place}
use Rattle.bound_rows.specs.Keys.{key_values, values_cmp_from, Pair}
use Rattle.bound_rows.specs.Keys.{keyed_by, pairs_cmp}
use Rattle.bound_rows.specs.Places.{FitPlaces, AllFit, assignments}

values_from_total : (n : ℕ) (ks : List SortKey) → IsTotalOrder (values_cmp_from n ks)
values_from_total n [] = point_total
values_from_total n (k ∷ ks) =
    then_total
    (on_total (λ vs. get_or vs n Null)
    (column_cmp_total (record { site = AtRowid; collation = k.collation; falling = k.falling })))
    (values_from_total (n + 1) ks)

pub pairs_total : (ks : List SortKey) → IsTotalOrder (pairs_cmp ks)
pairs_total ks = on_total (λ p. p.0) (values_from_total 0 ks)

values_are : (params : List Value) (a b : Assignment) (n : ℕ) (ks : List SortKey)
    (vs ws : List Value)
    → ((j : ℕ) → get_or vs (n + j) Null ≡ get_or (key_values ks params a) j Null)
    → ((j : ℕ) → get_or ws (n + j) Null ≡ get_or (key_values ks params b) j Null)
    → values_cmp_from n ks vs ws ≡ by_keys params ks a b
values_are params a b n [] vs ws e f = refl
values_are params a b n (k ∷ ks) vs ws e f =
    let here : n + 0 ≡ n = omega arith in
    let left : get_or vs n Null ≡ ev a params k.expr = ap (λ m. get_or vs m Null) (sym here) ∙ e 0 in
    let right : get_or ws n Null ≡ ev b params k.expr = ap (λ m. get_or ws m Null) (sym here) ∙ f 0 in
    ap₂ ordering_then (rw (left, right) refl)
    (values_are params a b (n + 1) ks vs ws
    (λ j. let next : (n + 1) + j ≡ n + suc j = omega arith in
    ap (λ m. get_or vs m Null) next ∙ e (suc j))
    (λ j. let next : (n + 1) + j ≡ n + suc j = omega arith in
    ap (λ m. get_or ws m Null) next ∙ f (suc j)))

pub pairs_are : (database : Database) (ks : List SortKey) (params : List Value) (a b : List Place)
    → pairs_cmp ks (keyed_by database ks params a) (keyed_by database ks params b)
    ≡ by_keys params ks (placed database a) (placed database b)
pairs_are database ks params a b =
    values_are params (placed database a) (placed database b) 0 ks _ _
    (λ j. let e : 0 + j ≡ j = omega arith in
    ap (λ m. get_or (key_values ks params (placed database a)) m Null) e)
    (λ j. let e : 0 + j ≡ j = omega arith in
    ap (λ m. get_or (key_values ks params (placed database b)) m Null) e)

-- the places of the sorted pairs are the sorted places
places_sorted : (database : Database) (ks : List SortKey) (params : List Value)
    (rows : List (List Place))
    → map (λ p. p.1) (sort_by (pairs_cmp ks) (map (keyed_by database ks params) rows))
    ≡ sort_by (λ a b. by_keys params ks (placed database a) (placed database b)) rows
places_sorted database ks params rows =
    let key = keyed_by database ks params in
    ap (map (λ p. p.1)) (sort_by-map (pairs_cmp ks) key rows)
    ∙ map-map (λ p. p.1) key _
    ∙ map-id _
    ∙ sort_same _ _ (pairs_are database ks params) rows

pub sorted_is : (database : Database) (ks : List SortKey) (params : List Value)
    (rows out : List (List Place)) (pairs : List Pair)
    → out ≡ map (λ p. p.1) pairs
    → pairs ≡ sort_by (pairs_cmp ks) (map (keyed_by database ks params) rows)
    → assignments database out ≡ sort_by (by_keys params ks) (assignments database rows)
sorted_is database ks params rows out pairs e f =
    ap (assignments database) (e ∙ ap (map (λ p. p.1)) f ∙ places_sorted database ks params rows)
    ∙ sym (sort_by-map (by_keys params ks) (placed database) rows)

pub sorted_fit : (database : Database) (items : List Item) (ks : List SortKey) (params : List Value)
    (rows out : List (List Place)) (pairs : List Pair)
    → out ≡ map (λ p. p.1) pairs
    → pairs ≡ sort_by (pairs_cmp ks) (map (keyed_by database ks params) rows)
    → AllFit database items rows → AllFit database items out
sorted_fit database items ks params rows out pairs e f h =
    subst (λ (l : List (List Place)). AllFit database items l)
    (sym (e ∙ ap (map (λ p. p.1)) f ∙ places_sorted database ks params rows))
    (all_sort (FitPlaces database items) _ rows h)
