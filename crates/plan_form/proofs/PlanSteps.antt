-- The steps of a plan, one loop after another.
use Rattle.std.proofs.Common.{◌≡◌, ℕ, zero, suc, ◌+◌, Bool, true, false}
use Rattle.std.proofs.Common.{Option, Some, None, List, [], ◌∷◌, ◌++◌, refl, ap, sym, ◌∙◌, map, drop}
use Rattle.std.proofs.Common.{take, length, arith, append-nil, append_assoc}
use Rattle.std.specs.Prelude.{replicate}
use Rattle.std.specs.List.{AllByRecursion, flat_map, filter, slice_get}
use Rattle.list_laws.specs.Nest.{place, nested}
use Rattle.sql_meaning.specs.Values.{Value}
use Rattle.sql_meaning.specs.Rows.{Row, Assignment}
use Rattle.sql_meaning.specs.Schemas.{Schema, Database}
use Rattle.sql_meaning.specs.Expressions.{BExpr}
use Rattle.sql_meaning.specs.Statements.{Bound, is_common, owned_by, is_left, item_rows}
use Rattle.sql_meaning.specs.Statements.{no_rows}
use Rattle.sql_meaning.specs.Conjuncts.{level_test}
use Rattle.sql_meaning.specs.Plans.{Loop, Plan, steps_of, step_of, loop_walk, directed_walk, missing_if}
use Rattle.sql_meaning.specs.Plans.{consumed_by, plan_walks}
use Rattle.sql_meaning.specs.PlanLaws.{placed_by}
use Rattle.sql_meaning.specs.Paths.{walk}
use Rattle.sql_meaning.proofs.Cells.{walks_depend_on_cells}
use Rattle.bound_rows.specs.Levels.{due_exprs, with_rows, level_rows, all_true}
use Rattle.bound_rows.proofs.Filled.{filled, filled_cell, filled_start, nested_filled}
use Rattle.bound_rows.proofs.Filled.{IsBlind, level_filled, place_filled}
use Rattle.bound_rows.proofs.LevelTests.{level_is, step_taken}
use Rattle.list_laws.proofs.Turns.{dropped_get}

placed_end : (loops : List Loop) (l : Loop) (placed : List ℕ)
    → placed_by (loops ++ l ∷ []) placed ≡ l.item ∷ placed_by loops placed
placed_end [] l placed = refl
placed_end (m ∷ loops) l placed = placed_end loops l (m.item ∷ placed)

pub taken_get : {X : Type 0} (xs : List X) (i : ℕ) (x : X) → slice_get xs i ≡ Some x
    → take (i + 1) xs ≡ take i xs ++ x ∷ []
taken_get [] i x e = absurd (cc)
taken_get (y ∷ ys) zero x e =
    let same : y ≡ x = (let both : Some y ≡ Some x = e in cc) in ap (λ z. z ∷ []) same
taken_get (y ∷ ys) (suc i) x e =
    let s : suc i + 1 ≡ suc (i + 1) = omega arith in
    ap (λ n. take n (y ∷ ys)) s ∙ ap (λ l. y ∷ l) (taken_get ys i x e)

pub placed_next : (loops : List Loop) (i : ℕ) (l : Loop) → slice_get loops i ≡ Some l
    → placed_by (take (i + 1) loops) [] ≡ l.item ∷ placed_by (take i loops) []
placed_next loops i l e =
    ap (λ ls. placed_by ls []) (taken_get loops i l e) ∙ placed_end (take i loops) l []

-- the step of one loop more
pub loop_taken : (schema : Schema) (database : Database) (bound : Bound) (params : List Value)
    (consumed : List ℕ) (loops : List Loop) (i : ℕ) (l : Loop)
    (owned common : List BExpr) (envs found all : List Assignment)
    → slice_get loops i ≡ Some l
    → owned
    ≡ due_exprs true consumed (placed_by (take i loops) []) l.item 0 bound.conjuncts
    → common
    ≡ due_exprs false consumed (placed_by (take i loops) []) l.item 0 bound.conjuncts
    → found ≡ flat_map
    (λ env. with_rows params common l.item
    (level_rows (is_left bound l.item) params owned l.item
    (map Some
    (directed_walk l.reverse
    (walk schema params l.path (item_rows database bound l.item) env))) env) env) envs
    → flat_map
    (nested
    (steps_of schema database bound params consumed (placed_by (take i loops) []) (drop i loops)))
    envs ≡ all
    → flat_map
    (nested
    (steps_of schema database bound params consumed (placed_by (take (i + 1) loops) [])
    (drop (i + 1) loops))) found ≡ all
loop_taken schema database bound params consumed loops i l owned common envs found all at own shared
    e h =
    let placed = placed_by (take i loops) [] in
    let later = steps_of schema database bound params consumed (l.item ∷ placed) (drop (i + 1) loops) in
    let step = step_of schema database bound params consumed placed l in
    let rows : Assignment → List (Option Row) = λ env.
    level_rows (is_left bound l.item) params owned l.item
    (map Some
    (directed_walk l.reverse
    (walk schema params l.path (item_rows database bound l.item) env))) env in
    ap
    (λ ps. flat_map
    (nested (steps_of schema database bound params consumed ps (drop (i + 1) loops))) found)
    (placed_next loops i l at)
    ∙ ap (flat_map (nested later)) e
    ∙ step_taken step later params common rows envs
    (λ env. ap (missing_if (is_left bound l.item))
    (filters _ _ _
    (λ x. level_is true params consumed placed l.item 0 bound.conjuncts (place env l.item x)
    ∙ ap (λ es. all_true params es (place env l.item x)) (sym own))))
    (λ a. level_is false params consumed placed l.item 0 bound.conjuncts a
    ∙ ap (λ es. all_true params es a) (sym shared))
    ∙ ap
    (λ ls. flat_map (nested (steps_of schema database bound params consumed placed ls)) envs)
    (sym (dropped_get loops i l at))
    ∙ h
  where
    filters : (p q : Option Row → Bool) (ys : List (Option Row)) → ((y : Option Row) → p y ≡ q y)
        → filter p ys ≡ filter q ys
    filters p q [] h = refl
    filters p q (y ∷ ys) h = rw (h y, filters p q ys h) refl

walk_filled : (schema : Schema) (database : Database) (bound : Bound) (params : List Value)
    (consumed placed : List ℕ) (l : Loop) (env : Assignment)
    → loop_walk schema database bound params consumed placed l (filled env)
    ≡ loop_walk schema database bound params consumed placed l env
walk_filled schema database bound params consumed placed l env =
    ap
    (λ ws. missing_if (is_left bound l.item)
    (filter
    (λ x. level_test
    (λ c. owned_by l.item c.owner) params consumed placed l.item 0 bound.conjuncts
    (place (filled env) l.item x)) (map Some (directed_walk l.reverse ws))))
    (walks_depend_on_cells schema params l.path (item_rows database bound l.item) env (filled env)
    (λ item site. filled_cell env item site))
    ∙ ap (missing_if (is_left bound l.item))
    (filters _ _
    (map Some
    (directed_walk l.reverse
    (walk schema params l.path (item_rows database bound l.item) env)))
    (λ x. ap
    (level_test
    (λ c. owned_by l.item c.owner) params consumed placed l.item 0 bound.conjuncts)
    (place_filled env l.item x)
    ∙ level_filled
    (λ c. owned_by l.item c.owner) params consumed placed l.item 0 bound.conjuncts
    (place env l.item x)))
  where
    filters : (p q : Option Row → Bool) (ys : List (Option Row)) → ((y : Option Row) → p y ≡ q y)
        → filter p ys ≡ filter q ys
    filters p q [] h = refl
    filters p q (y ∷ ys) h = rw (h y, filters p q ys h) refl

steps_blind : (schema : Schema) (database : Database) (bound : Bound) (params : List Value)
    (consumed placed : List ℕ) (loops : List Loop)
    → AllByRecursion IsBlind (steps_of schema database bound params consumed placed loops)
steps_blind schema database bound params consumed placed [] = tt
steps_blind schema database bound params consumed placed (l ∷ ls) = (
  record {
    walk = walk_filled schema database bound params consumed placed l;
    test = level_filled is_common params consumed placed l.item 0 bound.conjuncts;
  },
  steps_blind schema database bound params consumed (l.item ∷ placed) ls,
)

pub walks_filled : (schema : Schema) (database : Database) (plan : Plan) (params : List Value)
    → nested
    (steps_of schema database plan.bound params (consumed_by plan.loops) [] plan.loops)
    (replicate (length plan.bound.items) (Some None))
    ≡ map filled (plan_walks schema database plan params)
walks_filled schema database plan params =
    let steps =
    steps_of schema database plan.bound params (consumed_by plan.loops) [] plan.loops in
    ap (nested steps) (sym (filled_start (length plan.bound.items)))
    ∙ nested_filled steps
    (steps_blind schema database plan.bound params (consumed_by plan.loops) [] plan.loops)
    (no_rows plan.bound)

consumed_end : (loops : List Loop) (l : Loop)
    → consumed_by (loops ++ l ∷ []) ≡ consumed_by loops ++ l.consumed
consumed_end [] l = append-nil l.consumed
consumed_end (m ∷ loops) l =
    ap (λ ns. m.consumed ++ ns) (consumed_end loops l)
    ∙ sym (append_assoc m.consumed (consumed_by loops) l.consumed)

pub consumed_next : (loops : List Loop) (i : ℕ) (l : Loop) → slice_get loops i ≡ Some l
    → consumed_by (take (i + 1) loops) ≡ consumed_by (take i loops) ++ l.consumed
consumed_next loops i l e =
    ap consumed_by (taken_get loops i l e) ∙ consumed_end (take i loops) l
