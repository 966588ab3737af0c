-- A chosen plan has the flags that its order state asks for.
use Rattle.std.specs.List.{fold}
use Rattle.std.proofs.Common.{◌≡◌, Bool, true, false, not, List, [], ◌∷◌, map, refl, sym}
use Rattle.std.proofs.Common.{ap, ap₂, ◌∙◌}
use Rattle.sql_meaning.specs.Schemas.{Schema}
use Rattle.sql_meaning.specs.Statements.{Bound}
use Rattle.sql_meaning.specs.Plans.{Loop}
use Rattle.sql_meaning.specs.OrderState.{State, Done, Lost, Open, state, open_for, pass_loop}
use Rattle.sql_meaning.specs.OrderState.{is_done, direction, directions_from, directions, FitsOrder}
use Rattle.plan_choice.specs.Settings.{Setting}
use Rattle.plan_choice.specs.Prefixes.{OfferedLoop, loop_of, closed}
use Rattle.plan_choice.specs.Choice.{with_directions, directed}

abbrev turned : Bool → Loop → Loop
turned d l = record { item = l.item; path = l.path; reverse = d; consumed = l.consumed }

-- neither the state nor the directions look at flags
pass_turned : (schema : Schema) (bound : Bound) (s : State) (l : Loop) (d : Bool)
    → pass_loop schema bound s (turned d l) ≡ pass_loop schema bound s l
pass_turned schema bound Done l d = refl
pass_turned schema bound Lost l d = refl
pass_turned schema bound (Open keys) l d = refl

direction_turned : (schema : Schema) (bound : Bound) (s : State) (l : Loop) (d : Bool)
    → direction schema bound s (turned d l) ≡ direction schema bound s l
direction_turned schema bound Done l d = refl
direction_turned schema bound Lost l d = refl
direction_turned schema bound (Open keys) l d = refl

state_directed : (schema : Schema) (bound : Bound) (s : State) (ls : List Loop) (ds : List Bool)
    → fold (pass_loop schema bound) s (with_directions ls ds) ≡ fold (pass_loop schema bound) s ls
state_directed schema bound s [] ds = refl
state_directed schema bound s (l ∷ ls) [] =
    state_directed schema bound (pass_loop schema bound s l) ls []
state_directed schema bound s (l ∷ ls) (d ∷ ds) =
    ap (λ z. fold (pass_loop schema bound) z (with_directions ls ds))
    (pass_turned schema bound s l d)
    ∙ state_directed schema bound (pass_loop schema bound s l) ls ds

directions_directed : (schema : Schema) (bound : Bound) (s : State) (ls : List Loop)
    (ds : List Bool)
    → directions_from schema bound s (with_directions ls ds) ≡ directions_from schema bound s ls
directions_directed schema bound s [] ds = refl
directions_directed schema bound s (l ∷ ls) [] =
    ap (λ bs. direction schema bound s l ∷ bs)
    (directions_directed schema bound (pass_loop schema bound s l) ls [])
directions_directed schema bound s (l ∷ ls) (d ∷ ds) =
    ap₂ (λ b z. b ∷ directions_from schema bound z (with_directions ls ds))
    (direction_turned schema bound s l d) (pass_turned schema bound s l d)
    ∙ ap (λ bs. direction schema bound s l ∷ bs)
    (directions_directed schema bound (pass_loop schema bound s l) ls ds)

reverses_directed : (schema : Schema) (bound : Bound) (s : State) (ls : List Loop)
    → map (λ l. l.reverse) (with_directions ls (directions_from schema bound s ls))
    ≡ directions_from schema bound s ls
reverses_directed schema bound s [] = refl
reverses_directed schema bound s (l ∷ ls) =
    ap (λ bs. direction schema bound s l ∷ bs)
    (reverses_directed schema bound (pass_loop schema bound s l) ls)

pub taken_forward : (ts : List OfferedLoop)
    → map (λ l. l.reverse) (map loop_of ts) ≡ map (λ l. false) (map loop_of ts)
taken_forward [] = refl
taken_forward (t ∷ ts) = ap (λ bs. false ∷ bs) (taken_forward ts)

pub closed_done : (b : Bool) (s : State) → is_done (closed b s) ≡ is_done s
closed_done true Done = refl
closed_done true Lost = refl
closed_done true (Open left) = refl
closed_done false s = refl

pub fits_order : (s : Setting) (ls : List Loop) (d : Bool)
    → is_done (state s.schema s.bound ls s.bound.keys) ≡ d
    → map (λ l. l.reverse) ls ≡ map (λ l. false) ls
    → FitsOrder s.schema (record { bound = s.bound; loops = directed s d ls; sort = not d })
fits_order s ls true e f =
    let ds = directions s.schema s.bound ls s.bound.keys in
    let start = open_for s.bound.keys in
    let same = state_directed s.schema s.bound start ls ds in
    record {
      sorts = sym (ap (λ z. not (is_done z)) same ∙ ap not e);
      reverses = λ g. reverses_directed s.schema s.bound start ls
          ∙ sym (directions_directed s.schema s.bound start ls ds);
      forward = λ g. absurd (let no : false ≡ true = sym g ∙ ap is_done same ∙ e in cc);
    }
fits_order s ls false e f = record {
  sorts = sym (ap not e);
  reverses = λ g. absurd (let no : false ≡ true = sym e ∙ g in cc);
  forward = λ g. f;
}
