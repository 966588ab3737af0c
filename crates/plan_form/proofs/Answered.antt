-- What a plan answers, from rows in which each item that isn't placed has the missing row.
use Rattle.std.specs.Ordering.{ordering_then}
use Rattle.std.proofs.Common.{◌≡◌, ℤ, pos, negsuc, Bool, true, false, cond, Option, None, Some, List, [], ◌∷◌}
use Rattle.std.proofs.Common.{refl, ap, ap₂, ◌∙◌, map, length}
use Rattle.std.specs.Prelude.{replicate}
use Rattle.std.specs.List.{AllByRecursion, take-map, drop-map}
use Rattle.list_laws.specs.Nest.{nested}
use Rattle.list_laws.specs.Order.{sort_by}
use Rattle.list_laws.proofs.Lists.{all_always, all_take, all_drop}
use Rattle.list_laws.proofs.SortedViews.{sort_by-map, sort_same}
use Rattle.sql_meaning.specs.Values.{Value, value_cmp}
use Rattle.sql_meaning.specs.Rows.{Assignment}
use Rattle.sql_meaning.specs.Schemas.{Schema, Database}
use Rattle.sql_meaning.specs.Expressions.{BExpr, names}
use Rattle.sql_meaning.specs.Evaluation.{ev}
use Rattle.sql_meaning.specs.IndexLists.{directed}
use Rattle.sql_meaning.specs.Statements.{Bound, SortKey, cut, cut_value, take_cut, drop_cut, image}
use Rattle.sql_meaning.specs.Orders.{by_keys}
use Rattle.sql_meaning.specs.Plans.{Plan, steps_of, consumed_by, plan_walks}
use Rattle.sql_meaning.specs.Asked.{uncut, answer}
use Rattle.sql_meaning.proofs.Cells.{ev_cells}
use Rattle.bound_rows.proofs.Filled.{filled, filled_cell, images_filled}
use Rattle.plan_form.proofs.PlanSteps.{walks_filled}

take_cut_map : {X Y : Type 0} (f : X → Y) (count : Option ℤ) (xs : List X)
    → take_cut count (map f xs) ≡ map f (take_cut count xs)
take_cut_map f None xs = refl
take_cut_map f (Some (pos n)) xs = take-map f n xs
take_cut_map f (Some (negsuc n)) xs = refl

drop_cut_map : {X Y : Type 0} (f : X → Y) (count : Option ℤ) (xs : List X)
    → drop_cut count (map f xs) ≡ map f (drop_cut count xs)
drop_cut_map f None xs = refl
drop_cut_map f (Some (pos n)) xs = drop-map f n xs
drop_cut_map f (Some (negsuc n)) xs = refl

pub cut_map : {X Y : Type 0} (bound : Bound) (params : List Value) (f : X → Y) (xs : List X)
    → cut bound params (map f xs) ≡ map f (cut bound params xs)
cut_map bound params f xs =
    ap (take_cut (cut_value params bound.limit)) (drop_cut_map f (cut_value params bound.offset) xs)
    ∙ take_cut_map f (cut_value params bound.limit) (drop_cut (cut_value params bound.offset) xs)

ev_filled : (params : List Value) (e : BExpr) (env : Assignment)
    → ev (filled env) params e ≡ ev env params e
ev_filled params e env =
    ev_cells params e env (filled env) (all_always _ (names e) (λ item site. filled_cell env item site))

keys_filled : (params : List Value) (ks : List SortKey) (a b : Assignment)
    → by_keys params ks (filled a) (filled b) ≡ by_keys params ks a b
keys_filled params [] a b = refl
keys_filled params (k ∷ ks) a b =
    ap₂ ordering_then
    (ap₂ (directed k.falling (value_cmp k.collation)) (ev_filled params k.expr a)
    (ev_filled params k.expr b)) (keys_filled params ks a b)

sorted_filled : (params : List Value) (ks : List SortKey) (xs : List Assignment)
    → sort_by (by_keys params ks) (map filled xs) ≡ map filled (sort_by (by_keys params ks) xs)
sorted_filled params ks xs =
    sort_by-map (by_keys params ks) filled xs
    ∙ ap (map filled) (sort_same _ _ (keys_filled params ks) xs)

ordered_filled : (sort : Bool) (params : List Value) (ks : List SortKey) (xs : List Assignment)
    → cond sort (sort_by (by_keys params ks) (map filled xs)) (map filled xs)
    ≡ map filled (cond sort (sort_by (by_keys params ks) xs) xs)
ordered_filled true params ks xs = sorted_filled params ks xs
ordered_filled false params ks xs = refl

-- the images of the rows that OFFSET and LIMIT leave
pub answer_is : (schema : Schema) (database : Database) (plan : Plan) (params : List Value)
    (walked rows : List Assignment)
    → walked
    ≡ nested
    (steps_of schema database plan.bound params (consumed_by plan.loops) [] plan.loops)
    (replicate (length plan.bound.items) (Some None))
    → rows ≡ cond plan.sort (sort_by (by_keys params plan.bound.keys) walked) walked
    → map (image plan.bound params) (cut plan.bound params rows)
    ≡ answer schema database plan params
answer_is schema database plan params walked rows e f =
    let found = plan_walks schema database plan params in
    let all : walked ≡ map filled found = e ∙ walks_filled schema database plan params in
    ap (λ xs. map (image plan.bound params) (cut plan.bound params xs))
    (f
    ∙ ap (λ xs. cond plan.sort (sort_by (by_keys params plan.bound.keys) xs) xs) all
    ∙ ordered_filled plan.sort params plan.bound.keys found)
    ∙ ap (map (image plan.bound params))
    (cut_map plan.bound params filled (uncut schema database plan params))
    ∙ images_filled plan.bound params (cut plan.bound params (uncut schema database plan params))

take_cut_all : {X : Type 0} (P : X → Type 0) (count : Option ℤ) (xs : List X)
    → AllByRecursion P xs → AllByRecursion P (take_cut count xs)
take_cut_all P None xs h = h
take_cut_all P (Some (pos n)) xs h = all_take P n xs h
take_cut_all P (Some (negsuc n)) xs h = h

drop_cut_all : {X : Type 0} (P : X → Type 0) (count : Option ℤ) (xs : List X)
    → AllByRecursion P xs → AllByRecursion P (drop_cut count xs)
drop_cut_all P None xs h = h
drop_cut_all P (Some (pos n)) xs h = all_drop P n xs h
drop_cut_all P (Some (negsuc n)) xs h = h

pub cut_all : {X : Type 0} (bound : Bound) (params : List Value) (P : X → Type 0) (xs : List X)
    → AllByRecursion P xs → AllByRecursion P (cut bound params xs)
cut_all bound params P xs h =
    take_cut_all P (cut_value params bound.limit) _
    (drop_cut_all P (cut_value params bound.offset) xs h)
