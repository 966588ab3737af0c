-- Loops in their directions, a loop further.
use Rattle.std.proofs.Common.{◌≡◌, ◌++◌, ℕ, Bool, false, List, [], ◌∷◌, refl, ap}
use Rattle.std.specs.Prelude.{fold}
use Rattle.sql_meaning.specs.Paths.{Path}
use Rattle.sql_meaning.specs.Schemas.{Schema}
use Rattle.sql_meaning.specs.Statements.{Bound}
use Rattle.sql_meaning.specs.Plans.{Loop}
use Rattle.sql_meaning.specs.OrderState.{State, Done, Lost, Open, direction, directions_from}
use Rattle.sql_meaning.specs.OrderState.{pass_loop}
use Rattle.plan_choice.specs.Choice.{with_directions}
use Rattle.loop_orders.specs.Walks.{loop_by}

-- the step of a loop, and its direction, look at its item and its path alone
pub pass_by : (schema : Schema) (bound : Bound) (before : State) (item : ℕ) (path : Path)
    (consumed : List ℕ)
    → pass_loop schema bound before (loop_by item path)
    ≡ pass_loop schema bound before
    (record { item = item; path = path; reverse = false; consumed = consumed })
pass_by schema bound Done item path consumed = refl
pass_by schema bound Lost item path consumed = refl
pass_by schema bound (Open keys) item path consumed = refl

pub direction_by : (schema : Schema) (bound : Bound) (before : State) (item : ℕ) (path : Path)
    (consumed : List ℕ)
    → direction schema bound before (loop_by item path)
    ≡ direction schema bound before
    (record { item = item; path = path; reverse = false; consumed = consumed })
direction_by schema bound Done item path consumed = refl
direction_by schema bound Lost item path consumed = refl
direction_by schema bound (Open keys) item path consumed = refl

abbrev turned : Loop → Bool → Loop
turned l d = record { item = l.item; path = l.path; reverse = d; consumed = l.consumed }

pub turned_more : (schema : Schema) (bound : Bound) (before : State) (ls : List Loop) (l : Loop)
    → with_directions (ls ++ l ∷ []) (directions_from schema bound before (ls ++ l ∷ []))
    ≡ with_directions ls (directions_from schema bound before ls)
    ++ turned l (direction schema bound (fold (pass_loop schema bound) before ls) l) ∷ []
turned_more schema bound before [] l = refl
turned_more schema bound before (m ∷ ms) l =
    ap (λ rest. turned m (direction schema bound before m) ∷ rest)
    (turned_more schema bound (pass_loop schema bound before m) ms l)
