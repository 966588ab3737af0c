-- Prefixes of plans: some loops from outside in, with what they cost together (queryplanner-ng).
use Rattle.std.specs.Prelude.{ℕ, ◌+◌, Bool, true, false, ◌&&◌, ◌||◌, ◌==◌, not, cond, List}
use Rattle.std.specs.Prelude.{[], ◌∷◌, ◌++◌, map, length, slice_get, Option, Some, None}
use Rattle.std.specs.List.{filter, flat_map}
use Rattle.sql_meaning.specs.Items.{Item}
use Rattle.sql_meaning.specs.Statements.{Bound, has_number, all_in, numbers_from, is_left}
use Rattle.sql_meaning.specs.Plans.{Loop}
use Rattle.sql_meaning.specs.OrderState.{State, Done, Lost, Open, state}
use Rattle.plan_choice.specs.Logarithms.{log_add, sort_cost}
use Rattle.plan_choice.specs.Settings.{Setting}
use Rattle.plan_choice.specs.Offers.{Offer, offers}

-- the loop of an item by the offer of this number
pub record OfferedLoop : Type 0 where
  pub item : ℕ
  pub number : ℕ
  pub offer : Offer

-- `rows` is how many rows the loops are thought to give, and `state` how far they give the order
pub record Prefix : Type 0 where
  pub loops : List OfferedLoop
  pub cost : ℕ
  pub rows : ℕ
  pub state : State

abbrev pub loop_of : OfferedLoop → Loop
loop_of t = record {
  item = t.item;
  path = t.offer.path;
  reverse = false;
  consumed = t.offer.consumed;
}

abbrev pub items_of : List OfferedLoop → List ℕ
items_of ts = map (λ t. t.item) ts

-- the items that are placed, the last one first
abbrev pub placed_from : List OfferedLoop → List ℕ → List ℕ
placed_from [] placed = placed
placed_from (t ∷ ts) placed = placed_from ts (t.item ∷ placed)

abbrev pub placed_in : Prefix → List ℕ
placed_in p = placed_from p.loops []

-- with all items placed, an order that is still open counts as lost
abbrev pub closed : Bool → State → State
closed true (Open left) = Lost
closed true Done = Done
closed true Lost = Lost
closed false s = s

abbrev pub state_of : Setting → List OfferedLoop → State
state_of s ts =
    closed (length ts == length s.bound.items)
    (state s.schema s.bound (map loop_of ts) s.bound.keys)

-- the first loop costs what it runs; `runs` has what a further one runs, once for each row of
-- those outside it
abbrev pub cost_with : List OfferedLoop → ℕ → ℕ → ℕ
cost_with [] cost runs = runs
cost_with (t ∷ ts) cost runs = log_add cost runs

abbrev pub empty_prefix : Setting → Prefix
empty_prefix s = record { loops = []; cost = 0; rows = 0; state = state_of s [] }

abbrev pub extended : Setting → Prefix → OfferedLoop → Prefix
extended s p t = record {
  loops = p.loops ++ t ∷ [];
  cost = cost_with p.loops p.cost (p.rows + t.offer.cost.run);
  rows = p.rows + t.offer.cost.rows;
  state = state_of s (p.loops ++ t ∷ []);
}

abbrev pub is_lost : State → Bool
is_lost Done = false
is_lost Lost = true
is_lost (Open left) = false

-- what a prefix costs with the sort that a lost order asks for
abbrev pub weight : Prefix → ℕ
weight p = cond (is_lost p.state) (log_add p.cost (sort_cost p.rows)) p.cost

abbrev pub stays_right : Option Item → Bool
stays_right None = false
stays_right (Some item) = item.cross || item.left

-- an item after CROSS JOIN or LEFT JOIN comes after all items to its left, and a LEFT item before
-- all items to its right
abbrev pub may_come : Bound → List ℕ → ℕ → Bool
may_come bound placed item =
    not (has_number item placed)
    && ((not (stays_right (slice_get bound.items item)) || all_in (numbers_from 0 item) placed)
    && all_in (filter (is_left bound) (numbers_from 0 item)) placed)

abbrev pub next_items : Bound → List ℕ → List ℕ
next_items bound placed =
    filter (may_come bound placed) (numbers_from 0 (length bound.items))

-- offers numbered from here on
abbrev pub numbered_from : ℕ → ℕ → List Offer → List OfferedLoop
numbered_from item number [] = []
numbered_from item number (o ∷ os) =
    record { item = item; number = number; offer = o } ∷ numbered_from item (number + 1) os

-- the loop of an item, by each of its offers
abbrev pub offered_loops : Setting → List ℕ → ℕ → List OfferedLoop
offered_loops s placed item = numbered_from item 0 (offers s placed item)

-- a prefix with one loop more, by each offer of each item that may come next
abbrev pub extensions : Setting → Prefix → List Prefix
extensions s p =
    flat_map (λ item. map (extended s p) (offered_loops s (placed_in p) item))
    (next_items s.bound (placed_in p))
