-- What one loop more makes of a prefix.
use Rattle.std.proofs.Common.{◌≡◌, ◌≢◌, suc, ◌==◌, List, [], ◌∷◌, ◌++◌, length, map, refl, sym, ap}
use Rattle.std.proofs.Common.{ap₂, ◌∙◌}
use Rattle.std.proofs.lemmas.Bool.{ne_eqb}
use Rattle.std.proofs.lemmas.List.{map-append}
use Rattle.sql_meaning.specs.Schemas.{Schema}
use Rattle.sql_meaning.specs.Statements.{Bound}
use Rattle.sql_meaning.specs.OrderState.{State, Done, Lost, Open, pass_loop, state}
use Rattle.plan_choice.specs.Settings.{Setting}
use Rattle.plan_choice.specs.Prefixes.{OfferedLoop, Prefix, loop_of, closed, state_of}
use Rattle.plan_choice.proofs.KeptParts.{states_go_on}
use Rattle.loop_orders.specs.Walks.{loop_by}
use Rattle.nearest_prefixes.proofs.Reached.{length_more}

-- the order of a loop's rows depends on its item and its path alone
pass_by : (schema : Schema) (bound : Bound) (t : OfferedLoop) (s : State)
    → pass_loop schema bound s (loop_of t)
    ≡ pass_loop schema bound s (loop_by t.item t.offer.path)
pass_by schema bound t Done = refl
pass_by schema bound t Lost = refl
pass_by schema bound t (Open keys) = refl

open_state : (s : Setting) (ts : List OfferedLoop) → length ts ≢ length s.bound.items
    → state_of s ts ≡ state s.schema s.bound (map loop_of ts) s.bound.keys
open_state s ts some =
    ap (λ b. closed b (state s.schema s.bound (map loop_of ts) s.bound.keys))
    (ne_eqb (length ts) (length s.bound.items) some)

pub state_more : (s : Setting) (p : Prefix) (t : OfferedLoop) → p.state ≡ state_of s p.loops
    → length p.loops ≢ length s.bound.items
    → state_of s (p.loops ++ t ∷ [])
    ≡ closed (suc (length p.loops) == length s.bound.items)
    (pass_loop s.schema s.bound p.state (loop_by t.item t.offer.path))
state_more s p t is some =
    ap₂ closed (ap (λ n. n == length s.bound.items) (length_more p.loops t))
    (ap (λ ls. state s.schema s.bound ls s.bound.keys) (map-append loop_of p.loops (t ∷ []))
    ∙ states_go_on s.schema s.bound (map loop_of p.loops) (loop_of t) s.bound.keys
    ∙ ap (λ st. pass_loop s.schema s.bound st (loop_of t))
    (sym (open_state s p.loops some) ∙ sym is)
    ∙ pass_by s.schema s.bound t p.state)
