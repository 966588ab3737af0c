-- A chain, link by link: what a loop more does.
use Rattle.std.proofs.Common.{◌≡◌, ◌++◌, ◌∷◌, [], Bool, true, false, List, Option, Some, None, refl}
use Rattle.std.proofs.Common.{ap, sym, ◌∙◌, subst, append_assoc, length, ◌<◌, ◌+◌, arith}
use Rattle.std.proofs.lemmas.List.{map-append, length-append}
use Rattle.std.specs.Borrow.{Bor}
use Rattle.std.specs.List.{AllByRecursion}
use Rattle.sql_meaning.specs.OrderState.{State, open_for, pass_loop, state}
use Rattle.sql_meaning.specs.Plans.{Loop}
use Rattle.sql_meaning.proofs.LinkClosure.{all_front}
use Rattle.plan_choice.specs.Settings.{Setting}
use Rattle.plan_choice.specs.Choice.{directed}
use Rattle.plan_choice.proofs.KeptParts.{states_go_on}
use Rattle.nearest_prefixes.specs.Prefixes.{SeenLoop, loops_of, loops_step}
use Rattle.nearest_prefixes.specs.declared.prefix.Prefix.{Prefix, out-Prefix}
use Rattle.nearest_prefixes.specs.declared.prefix.Prefix.TheFolds.{fold_out-Prefix}
use Rattle.n3_planner.specs.PlannedLoops.{last_loop, plain_loop, plain_loops, covering_loops}
use Rattle.n3_planner.specs.PlannedLoops.{with_direction}
use Rattle.n3_planner.proofs.Turned.{turned_more}

abbrev loops_behind : Option (Bor Prefix) → List SeenLoop
loops_behind None = []
loops_behind (Some before) = loops_of before.now

-- the loops of what comes before, and the last one
linked : (x : Prefix) (before : Option (Bor Prefix)) → (out-Prefix x).before ≡ before
    → loops_of x ≡ loops_behind before ++ last_loop x ∷ []
linked x None is = let h = fold_out-Prefix (List SeenLoop) loops_step x in h ∙ rw is refl
linked x (Some b) is = let h = fold_out-Prefix (List SeenLoop) loops_step x in h ∙ rw is refl

pub shorter : (x : Prefix) (b : Bor Prefix) → (out-Prefix x).before ≡ Some b
    → length (loops_of b.now) < length (loops_of x)
shorter x b is =
    let known : length (loops_of x) ≡ length (loops_of b.now) + 1 =
    ap length (linked x (Some b) is) ∙ length-append (loops_of b.now) (last_loop x ∷ []) in
    omega (arith, known)

pub fits_before : (P : SeenLoop → Type 0) (x : Prefix) (b : Bor Prefix)
    → (out-Prefix x).before ≡ Some b → AllByRecursion P (loops_of x)
    → AllByRecursion P (loops_of b.now)
fits_before P x b is h =
    (all_front P (loops_of b.now) (last_loop x ∷ [])
    (subst (AllByRecursion P) (linked x (Some b) is) h)).0

pub fits_last : (P : SeenLoop → Type 0) (x : Prefix) → AllByRecursion P (loops_of x)
    → P (last_loop x)
fits_last P x h =
    (all_front P (loops_behind (out-Prefix x).before) (last_loop x ∷ [])
    (subst (AllByRecursion P) (linked x (out-Prefix x).before refl) h)).1.0

-- the order state of the loops
pub state_linked : (s : Setting) (x : Prefix) (b : Bor Prefix) (before : State)
    → (out-Prefix x).before ≡ Some b
    → before ≡ state s.schema s.bound (plain_loops (loops_of b.now)) s.bound.keys
    → pass_loop s.schema s.bound before (plain_loop (last_loop x))
    ≡ state s.schema s.bound (plain_loops (loops_of x)) s.bound.keys
state_linked s x b before is known =
    ap (λ st. pass_loop s.schema s.bound st (plain_loop (last_loop x))) known
    ∙ sym
    (states_go_on s.schema s.bound (plain_loops (loops_of b.now)) (plain_loop (last_loop x))
    s.bound.keys)
    ∙ ap (λ ls. state s.schema s.bound ls s.bound.keys)
    (sym
    (ap plain_loops (linked x (Some b) is)
    ∙ map-append plain_loop (loops_of b.now) (last_loop x ∷ [])))

-- a loop more, in its direction
directed_more : (s : Setting) (given : Bool) (ls : List Loop) (t : SeenLoop)
    → directed s given (ls ++ plain_loop t ∷ [])
    ≡ directed s given ls
    ++ with_direction s given (state s.schema s.bound ls s.bound.keys) (plain_loop t) ∷ []
directed_more s false ls t = refl
directed_more s true ls t =
    turned_more s.schema s.bound (open_for s.bound.keys) ls (plain_loop t)

pub directed_linked : (s : Setting) (given : Bool) (x : Prefix) (b : Bor Prefix) (before : State)
    (front old new : List Loop)
    → (out-Prefix x).before ≡ Some b
    → before ≡ state s.schema s.bound (plain_loops (loops_of b.now)) s.bound.keys
    → old ≡ front ++ directed s given (plain_loops (loops_of b.now))
    → new ≡ old ++ with_direction s given before (plain_loop (last_loop x)) ∷ []
    → new ≡ front ++ directed s given (plain_loops (loops_of x))
directed_linked s given x b before front old new is known were are =
    let outer = plain_loops (loops_of b.now) in
    let last = plain_loop (last_loop x) in
    are
    ∙ ap (λ (ls : List Loop). ls ++ with_direction s given before last ∷ []) were
    ∙ append_assoc front (directed s given outer) (with_direction s given before last ∷ [])
    ∙ ap (λ st. front ++ (directed s given outer ++ with_direction s given st last ∷ [])) known
    ∙ ap (λ (ls : List Loop). front ++ ls)
    (sym
    (ap (directed s given)
    (ap plain_loops (linked x (Some b) is)
    ∙ map-append plain_loop (loops_of b.now) (last_loop x ∷ []))
    ∙ directed_more s given outer (last_loop x)))

pub covering_linked : (x : Prefix) (b : Bor Prefix) (front old new : List Bool)
    → (out-Prefix x).before ≡ Some b → old ≡ front ++ covering_loops (loops_of b.now)
    → new ≡ old ++ (last_loop x).offer.covering ∷ []
    → new ≡ front ++ covering_loops (loops_of x)
covering_linked x b front old new is were are =
    let outer = covering_loops (loops_of b.now) in
    are
    ∙ ap (λ (cs : List Bool). cs ++ (last_loop x).offer.covering ∷ []) were
    ∙ append_assoc front outer ((last_loop x).offer.covering ∷ [])
    ∙ ap (λ (cs : List Bool). front ++ cs)
    (sym
    (ap covering_loops (linked x (Some b) is)
    ∙ map-append (λ t. t.offer.covering) (loops_of b.now) (last_loop x ∷ [])))
