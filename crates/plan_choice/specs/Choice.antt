-- The plan that is chosen: the best of the N nearest neighbors, or the plan in written order
-- (queryplanner-ng, "N nearest neighbors").
use Rattle.std.specs.Prelude.{ℕ, zero, suc, ◌+◌, Bool, true, false, ◌&&◌, ◌==◌, not, cond, nat_lt}
use Rattle.std.specs.Prelude.{List, [], ◌∷◌, map, length, Option, Some, None, take}
use Rattle.std.specs.List.{flat_map}
use Rattle.std.specs.declared.cmp.Ordering.{Ordering}
use Rattle.std.specs.Ordering.{nat_cmp, on}
use Rattle.std.specs.Cmp.Lexicographic.{slice_cmp}
use Rattle.list_laws.specs.Order.{sort_by}
use Rattle.list_laws.specs.FirstComing.{keep_first}
use Rattle.sql_meaning.specs.Statements.{all_in}
use Rattle.sql_meaning.specs.Plans.{Loop, Plan}
use Rattle.sql_meaning.specs.OrderState.{is_done, directions, state_number}
use Rattle.plan_choice.specs.Settings.{Setting}
use Rattle.plan_choice.specs.Offers.{lightest}
use Rattle.plan_choice.specs.Prefixes.{OfferedLoop, Prefix, loop_of, items_of, empty_prefix}
use Rattle.plan_choice.specs.Prefixes.{extended, weight, offered_loops, extensions, placed_in}

-- N: how many prefixes of each length are kept
abbrev pub neighbor_count : ℕ → ℕ
neighbor_count items = cond (items == 1) 1 (cond (items == 2) 5 12)

-- a prefix goes before another by weight, cost, rows and state; then by its loops, each by its item
-- and the number of its offer
abbrev pub key : Setting → Prefix → List ℕ
key s p =
    weight p ∷ p.cost ∷ p.rows ∷ state_number s.bound.keys p.state
    ∷ flat_map (λ t. t.item ∷ t.number ∷ []) p.loops

abbrev pub nearer : Setting → Prefix → Prefix → Ordering
nearer s = on (key s) (slice_cmp nat_cmp)

-- two prefixes of one length that place the same items and give as much of the order: only the
-- nearer one is worth going on with
abbrev pub rivals : Setting → Prefix → Prefix → Bool
rivals s p q =
    all_in (items_of p.loops) (items_of q.loops)
    && state_number s.bound.keys p.state == state_number s.bound.keys q.state

-- of all prefixes that are one loop longer, sorted, the first of each that are rivals; of these the
-- first N
abbrev pub next_level : Setting → List Prefix → List Prefix
next_level s kept =
    take (neighbor_count (length s.bound.items))
    (keep_first (rivals s) [] (sort_by (nearer s) (flat_map (extensions s) kept)))

-- the prefixes that are kept after so many loops more
abbrev pub levels : Setting → ℕ → List Prefix → List Prefix
levels s zero kept = kept
levels s (suc n) kept = levels s n (next_level s kept)

abbrev pub last_level : Setting → List Prefix
last_level s = levels s (length s.bound.items) (empty_prefix s ∷ [])

abbrev pub extended_by : Setting → Prefix → Option OfferedLoop → Prefix
extended_by s p None = p
extended_by s p (Some t) = extended s p t

-- an item's loop by the offer that is cheapest to run, the first of equals
abbrev pub written_step : Setting → Prefix → ℕ → Prefix
written_step s p item =
    extended_by s p (lightest (λ t. t.offer.cost.run) (offered_loops s (placed_in p) item))

abbrev pub written_from : Setting → Prefix → ℕ → ℕ → Prefix
written_from s p item zero = p
written_from s p item (suc n) = written_from s (written_step s p item) (item + 1) n

-- the plan that takes the items as they are written
abbrev pub written : Setting → Prefix
written s = written_from s (empty_prefix s) 0 (length s.bound.items)

-- the first of those kept, unless the plan in written order weighs less
abbrev pub nearest_or : List Prefix → Prefix → Prefix
nearest_or [] w = w
nearest_or (p ∷ ps) w = cond (nat_lt (weight w) (weight p)) w p

abbrev pub chosen_prefix : Setting → Prefix
chosen_prefix s = nearest_or (last_level s) (written s)

abbrev pub with_directions : List Loop → List Bool → List Loop
with_directions [] flags = []
with_directions (l ∷ ls) [] = l ∷ with_directions ls []
with_directions (l ∷ ls) (d ∷ ds) =
    record { item = l.item; path = l.path; reverse = d; consumed = l.consumed }
    ∷ with_directions ls ds

-- where the loops give the order, each walks in its direction
abbrev pub directed : Setting → Bool → List Loop → List Loop
directed s false loops = loops
directed s true loops = with_directions loops (directions s.schema s.bound loops s.bound.keys)

-- a plan sorts where its loops don't give the order
abbrev pub plan_of : Setting → Prefix → Plan
plan_of s p = record {
  bound = s.bound;
  loops = directed s (is_done p.state) (map loop_of p.loops);
  sort = not (is_done p.state);
}

-- the plan, for each of its loops whether its path is covering, its weight, and the weight of the
-- plan in written order
pub record Chosen : Type 0 where
  pub plan : Plan
  pub covering : List Bool
  pub cost : ℕ
  pub written : ℕ

abbrev pub chosen_of : Setting → Prefix → ℕ → Chosen
chosen_of s p written_weight = record {
  plan = plan_of s p;
  covering = map (λ t. t.offer.covering) p.loops;
  cost = weight p;
  written = written_weight;
}

abbrev pub choose : Setting → Chosen
choose s =
    let w = written s
    in chosen_of s (nearest_or (last_level s) w) (weight w)
