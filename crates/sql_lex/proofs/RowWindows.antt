-- The window and the stack.
use Rattle.std.proofs.Common.{◌≡◌, ℕ, ◌+◌, ◌-◌, ◌<◌, ◌≤◌, Bool, true, false, ◌||◌, List, []}
use Rattle.std.proofs.Common.{◌∷◌, length, drop, get_or, slice_set, refl, ap, sym, ◌∙◌}
use Rattle.std.proofs.Common.{arith, get_or-set_same, get_or-set_other, drop_of_length-le}
use Rattle.sql_lex.specs.Rows.{room, State, next_state, finds, row_from, Kept, Follows}
use Rattle.sql_lex.proofs.Fronts.{first_behind}
use Rattle.sql_lex.specs.declared.row_values.RowStep.{RowStep}
use Rattle.sql_lex.specs.declared.row_values.RowStep.TheVariants as step
use Rattle.sql_lex.specs.declared.row_values.Window.{Window}

kept_set : (base k : ℕ) (known bs : List Bool) (v : Bool) → length bs ≤ base + k
    → Kept base known bs → Kept base (slice_set known k v) bs
kept_set base k known [] v le h = tt
kept_set base k known (b ∷ bs) v le h = (
  λ lo hi. get_or-set_other known k (length bs - base) v false (λ e. omega arith) ∙ h.0 lo hi,
  kept_set base k known bs v (omega arith) h.1,
)

pub opened_in : (w : Window) (s : State) → w.base ≤ w.depth → w.depth - w.base < length w.behind_in
    → Follows w s → Follows
    (record {
      base = w.base;
      behind_in = slice_set w.behind_in (w.depth - w.base) w.after_in;
      depth = w.depth + 1;
      after_in = false;
    }) (next_state step.Open s)
opened_in w s lo hi f =
    let d = f.depth in
    record {
      depth = omega arith;
      after = refl;
      kept = (
        λ l h. rw (← d)
            (get_or-set_same w.behind_in (w.depth - w.base) w.after_in false hi ∙ f.after),
        kept_set
            w.base (w.depth - w.base) w.behind_in s.stack w.after_in (omega arith) f.kept,
      );
    }

pub opened_out : (w : Window) (s : State) → ¬ ((w.base ≤ w.depth) × (w.depth < w.base + room))
    → Follows w s → Follows
    (record { base = w.base; behind_in = w.behind_in; depth = w.depth + 1; after_in = false })
    (next_state step.Open s)
opened_out w s out f =
    let d = f.depth in
    record {
      depth = omega arith;
      after = refl;
      kept = (λ l h. absurd (out (omega arith, omega arith)), f.kept);
    }

pub closed_none : (w : Window) (s : State) → w.depth ≡ 0 → Follows w s
    → Follows (record { base = w.base; behind_in = w.behind_in; depth = w.depth; after_in = false })
    (next_state step.Close s)
closed_none w s z f = at s.stack f.depth f.kept
  where
    at : (bs : List Bool) → w.depth ≡ length bs → Kept w.base w.behind_in bs
        → Follows (record {
          base = w.base;
          behind_in = w.behind_in;
          depth = w.depth;
          after_in = false;
        }) (next_state step.Close (record { stack = bs; after = s.after }))
    at [] d k = record { depth = d; after = refl; kept = tt }
    at (b ∷ bs) d k = absurd (omega arith)

pub closed_some : (w : Window) (s : State) → 0 < w.depth → Follows w s
    → Follows (record {
      base = w.base;
      behind_in = w.behind_in;
      depth = w.depth - 1;
      after_in = false;
    }) (next_state step.Close s)
closed_some w s z f = at s.stack f.depth f.kept
  where
    at : (bs : List Bool) → w.depth ≡ length bs → Kept w.base w.behind_in bs
        → Follows (record {
          base = w.base;
          behind_in = w.behind_in;
          depth = w.depth - 1;
          after_in = false;
        }) (next_state step.Close (record { stack = bs; after = s.after }))
    at [] d k = absurd (omega arith)
    at (b ∷ bs) d k = record { depth = omega arith; after = refl; kept = k.1 }

from_first : (base : ℕ) (s : State) (q : List RowStep) (m : RowStep) (ms : List RowStep) (v : Bool)
    → q ≡ m ∷ ms → finds base s m ≡ v → row_from base s q ≡ (v || row_from base (next_state m s) ms)
unfolding row_from
from_first base s q m ms v is e =
    ap (row_from base s) is ∙ ap (λ w. w || row_from base (next_state m s) ms) e

-- the step at a place stands first behind it
step_first :
    (base other : ℕ) (s : State) (steps : List RowStep) (i : ℕ) (m : RowStep) (seen : Bool)
    → i < length steps
    → other ≡ base
    → m ≡ get_or steps i step.Open
    → seen ≡ finds other s m
    → row_from base s (drop i steps)
    ≡ (seen || row_from base (next_state m s) (drop (i + 1) steps))
step_first base other s steps i m seen lt same is sees =
    let front = first_behind steps i step.Open m lt is in
    from_first base s _ _ _ seen front (ap (λ b. finds b s m) (sym same) ∙ sym sees)

pub row_hit :
    (base other : ℕ) (s : State) (steps : List RowStep) (i : ℕ) (m : RowStep) (seen whole : Bool)
    → i < length steps
    → other ≡ base
    → m ≡ get_or steps i step.Open
    → seen ≡ finds other s m
    → seen ≡ true
    → row_from base s (drop i steps) ≡ whole
    → true ≡ whole
row_hit base other s steps i m seen whole lt same is sees e h =
    sym (step_first base other s steps i m seen lt same is sees
    ∙ ap (λ w. w || row_from base (next_state m s) (drop (i + 1) steps)) e) ∙ h

pub row_turn :
    (base other : ℕ) (s : State) (steps : List RowStep) (i : ℕ) (m : RowStep) (seen whole : Bool)
    → i < length steps
    → other ≡ base
    → m ≡ get_or steps i step.Open
    → seen ≡ finds other s m
    → seen ≡ false
    → row_from base s (drop i steps) ≡ whole
    → row_from base (next_state m s) (drop (i + 1) steps) ≡ whole
row_turn base other s steps i m seen whole lt same is sees e h =
    sym (step_first base other s steps i m seen lt same is sees
    ∙ ap (λ w. w || row_from base (next_state m s) (drop (i + 1) steps)) e) ∙ h

pub row_end :
    (base : ℕ) (s : State) (steps : List RowStep) (i : ℕ) (whole : Bool)
    → length steps ≤ i
    → row_from base s (drop i steps) ≡ whole
    → false ≡ whole
unfolding row_from
row_end base s steps i whole ge h =
    sym (ap (row_from base s) (drop_of_length-le steps ge)) ∙ h
