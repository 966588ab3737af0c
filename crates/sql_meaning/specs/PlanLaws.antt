-- What the nested loops of a plan give: the statement's rows, in the asked order.
use Rattle.std.specs.Prelude.{◌≡◌, ◌≢◌, ℕ, Bool, false, not, ◌&&◌, ◌||◌, List, [], ◌∷◌, ◌++◌}
use Rattle.std.specs.List.{AllByRecursion, filter, flat_map}
use Rattle.std.specs.List.Sorted.{IsPermutation}
use Rattle.list_laws.specs.Order.{Ascends}
use Rattle.list_laws.specs.Nest.{Agree, Inside, nested, product}
use Rattle.sql_meaning.specs.Values.{Value}
use Rattle.sql_meaning.specs.Rows.{Assignment}
use Rattle.sql_meaning.specs.Expressions.{names}
use Rattle.sql_meaning.specs.Schemas.{Schema, Database, IsDatabaseOf}
use Rattle.sql_meaning.specs.Statements.{Bound, all_in, is_empty, is_left, is_common, chosen_hold}
use Rattle.sql_meaning.specs.Statements.{SomeFails, choices, numbers_from, statement_rows}
use Rattle.sql_meaning.specs.Statements.{OwnersAreLeft}
use Rattle.sql_meaning.specs.Plans.{Loop, Plan, consumed_by, steps_of, plan_walks}
use Rattle.sql_meaning.specs.UsedTerms.{Used}
use Rattle.sql_meaning.specs.Offers.{AreOffers, FitsOffers, PlanFits, loop_items}
use Rattle.sql_meaning.specs.Orders.{by_keys}
use Rattle.sql_meaning.specs.OrderState.{FitsOrder}
use Rattle.sql_meaning.specs.Asked.{uncut, Means}

-- the conjunct is first known in the block: it names items of the block and to its left alone, and
-- not to its left alone; or it names none, and nothing stands to the left
abbrev pub first_in : List ℕ → List ℕ → List ℕ → Bool
first_in left block named =
    (all_in named (block ++ left) && not (all_in named left)) || (is_empty named && is_empty left)

-- each common conjunct holds that is first known in the block
abbrev pub block_holds : Bound → List Value → List ℕ → List ℕ → Assignment → Bool
block_holds bound params left block a =
    chosen_hold
    (λ c. is_common c && first_in left block (names c.expr)) params bound.conjuncts a

-- the list was found, but for some members that were left out early; and one is left out only
-- where, for each choice of rows or missing rows of the other items, some common conjunct fails
pub record LeavesOutWhatFails (bound : Bound) (params : List Value) (items : List ℕ)
    (found members : List Assignment) : Type 0
  where
    pub stays : Assignment → Bool
    pub permutes : IsPermutation found (filter stays members)
    pub left_out : (h : Assignment) → stays h ≡ false → (a : Assignment) → Agree items h a
        → SomeFails is_common params bound.conjuncts a

-- the items of loops that were placed, the last one first
abbrev pub placed_by : List Loop → List ℕ → List ℕ
placed_by [] placed = placed
placed_by (l ∷ ls) placed = placed_by ls (l.item ∷ placed)

-- a block is a run of consecutive FROM items that aren't LEFT, whose loops stand together in a
-- plan; `left` is any list of assignments of the items to its left, missing rows among them
abbrev pub BlocksLeaveOutWhatFails : Type 0
BlocksLeaveOutWhatFails =
    (schema : Schema) (bound : Bound) (before block later : List Loop) (used : List Used)
    (start count : ℕ)
    → AreOffers schema bound [] (before ++ (block ++ later)) used → OwnersAreLeft bound
    → block ≢ [] → AllByRecursion (λ l. is_left bound l.item ≡ false) block
    → IsPermutation (loop_items block) (numbers_from start count)
    → (database : Database) → IsDatabaseOf schema database
    → (params : List Value) (left : List Assignment)
    → AllByRecursion (Inside (numbers_from start count)) left
    → LeavesOutWhatFails bound params (numbers_from start count ++ placed_by before [])
    (flat_map
    (nested
    (steps_of schema database bound params (consumed_by (before ++ (block ++ later)))
    (placed_by before []) block)) left)
    (flat_map
    (λ g. filter (block_holds bound params (placed_by before []) (loop_items block))
    (product (choices database bound params) (numbers_from start count) g)) left)

-- in any order of the items that LEFT JOIN allows, the loops give the statement's rows
abbrev pub LoopsGiveTheRows : Type 0
LoopsGiveTheRows =
    (schema : Schema) (plan : Plan) → FitsOffers schema plan
    → (database : Database) → IsDatabaseOf schema database → (params : List Value)
    → IsPermutation (plan_walks schema database plan params)
    (statement_rows plan.bound database params)

-- the plan gives the order of its keys, also where it doesn't sort
abbrev pub PlansGiveTheOrder : Type 0
PlansGiveTheOrder =
    (schema : Schema) (plan : Plan) → FitsOffers schema plan → FitsOrder schema plan
    → (database : Database) → IsDatabaseOf schema database → (params : List Value)
    → Ascends (by_keys params plan.bound.keys) (uncut schema database plan params)

-- a plan whose loops are offers fits the schema
abbrev pub OfferedPlansFit : Type 0
OfferedPlansFit = (schema : Schema) (plan : Plan) → FitsOffers schema plan → PlanFits schema plan

-- a plan whose loops are offers, with the flags that its order state asks, means its statement
abbrev pub OfferedPlansMean : Type 0
OfferedPlansMean =
    (schema : Schema) (plan : Plan) → FitsOffers schema plan → FitsOrder schema plan
    → Means schema plan
