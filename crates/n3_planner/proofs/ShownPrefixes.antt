-- What a prefix that is shown gives to its plan.
use Rattle.std.proofs.Common.{◌≡◌, ◌<◌, ℕ, zero, suc, Bool, not, List, [], ◌∷◌}
use Rattle.std.proofs.Common.{Some, refl, ap, sym, ◌∙◌, subst, map, length, slice_get, pos}
use Rattle.std.proofs.Common.{arith, ℤ, to_z, of_z, w32}
use Rattle.std.proofs.lemmas.Int.{to_z_pos}
use Rattle.std.proofs.lemmas.List.{map-append}
use Rattle.std.specs.List.{AllByRecursion}
use Rattle.list_laws.proofs.Lists.{all_append}
use Rattle.sql_meaning.specs.Fitting.{FitsTable}
use Rattle.sql_meaning.specs.OrderState.{is_done}
use Rattle.sql_meaning.specs.Plans.{Loop}
use Rattle.sql_meaning.proofs.Links.{all_at}
use Rattle.plan_choice.specs.Settings.{Setting, table_for}
use Rattle.plan_choice.specs.Offers.{offers}
use Rattle.plan_choice.specs.Prefixes.{OfferedLoop, Prefix as Plain, loop_of, offered_loops}
use Rattle.plan_choice.specs.Prefixes.{weight}
use Rattle.plan_choice.specs.Choice.{directed, plan_of}
use Rattle.plan_choice.proofs.FittingPaths.{listed_offers_fit}
use Rattle.plan_choice.proofs.SoundPrefixes.{numbered_are}
use Rattle.loop_orders.specs.Walks.{state_of}
use Rattle.nearest_prefixes.specs.Prefixes.{SeenPrefix, loops_of, told_loop}
use Rattle.nearest_prefixes.specs.Growing.{IsReached, Shows}
use Rattle.nearest_prefixes.specs.declared.prefix.Prefix.{Prefix, out-Prefix}
use Rattle.n3_planner.specs.PlannedLoops.{LoopFits, plain_loops, covering_loops}

-- each loop goes by an offer of its item, so its path fits the item's table
listed_fits : (s : Setting) (placed : List ℕ) (item number : ℕ) (t : OfferedLoop)
    → slice_get (offered_loops s placed item) number ≡ Some t
    → FitsTable s.schema (table_for s item) t.offer.path
listed_fits s placed item number t is =
    (all_at
    (λ u. (u.item ≡ item) × FitsTable s.schema (table_for s item) u.offer.path)
    (offered_loops s placed item) number t
    (numbered_are (λ o. FitsTable s.schema (table_for s item) o.path) item 0
    (offers s placed item) (listed_offers_fit s placed item)) is).1

abbrev ToldFit : Setting → Plain → Type 0
ToldFit s p = AllByRecursion (LoopFits s) (map told_loop p.loops)

reached_fit : (s : Setting) (count : ℕ) (p : Plain) → IsReached s count p → ToldFit s p
reached_fit s zero p is = subst (ToldFit s) (sym is) tt
reached_fit s (suc count) p (q, t, reached, follows, is) =
    subst (ToldFit s) (sym is)
    (subst (AllByRecursion (LoopFits s)) (sym (map-append told_loop q.loops (t ∷ [])))
    (all_append (LoopFits s) (map told_loop q.loops) (told_loop t ∷ [])
    (reached_fit s count q reached) (
      record {
        item = follows.item;
        path = listed_fits s _ t.item t.number t follows.offered;
      },
      tt,
    )))

pub shown_fit : (s : Setting) (p : Plain) (x : Prefix) → Shows s p x
    → AllByRecursion (LoopFits s) (loops_of x)
shown_fit s p x shown =
    subst (AllByRecursion (LoopFits s)) (sym (ap (λ (z : SeenPrefix). z.loops) shown.seen))
    (reached_fit s (length p.loops) p shown.reached)

-- its loops and its weight
told_plain : (ts : List OfferedLoop) → plain_loops (map told_loop ts) ≡ map loop_of ts
told_plain [] = refl
told_plain (t ∷ ts) = ap (λ ls. loop_of t ∷ ls) (told_plain ts)

told_covering : (ts : List OfferedLoop)
    → covering_loops (map told_loop ts) ≡ map (λ t. t.offer.covering) ts
told_covering [] = refl
told_covering (t ∷ ts) = ap (λ cs. t.offer.covering ∷ cs) (told_covering ts)

pub shown_weight : (s : Setting) (p : Plain) (x : Prefix) → Shows s p x
    → (out-Prefix x).weight ≡ pos (weight p)
shown_weight s p x shown = ap (λ (z : SeenPrefix). z.weight) shown.seen

-- as a machine's number
pub shown_cost : (s : Setting) (p : Plain) (x : Prefix) → Shows s p x → weight p < 1000000
    → to_z w32 (of_z w32 (out-Prefix x).weight) ≡ pos (weight p)
shown_cost s p x shown small =
    ap (λ (z : ℤ). to_z w32 (of_z w32 z)) (shown_weight s p x shown)
    ∙ to_z_pos w32 (weight p) (omega (arith, small))

pub shown_plan : (s : Setting) (p : Plain) (x : Prefix) (given : Bool) (loops : List Loop)
    → given ≡ is_done (state_of (out-Prefix x).order)
    → loops ≡ directed s given (plain_loops (loops_of x)) → Shows s p x
    → record { bound = s.bound; loops = loops; sort = not given } ≡ plan_of s p
shown_plan s p x given loops done are shown =
    ap (λ (ls : List Loop). record { bound = s.bound; loops = ls; sort = not given })
    (are
    ∙ ap (directed s given)
    (ap (λ (z : SeenPrefix). plain_loops z.loops) shown.seen ∙ told_plain p.loops))
    ∙ ap
    (λ (b : Bool). record {
      bound = s.bound;
      loops = directed s b (map loop_of p.loops);
      sort = not b;
    })
    (done ∙ ap (λ (z : SeenPrefix). is_done z.state) shown.seen)

pub shown_covering : (s : Setting) (p : Plain) (x : Prefix) (covering : List Bool)
    → covering ≡ covering_loops (loops_of x) → Shows s p x
    → covering ≡ map (λ t. t.offer.covering) p.loops
shown_covering s p x covering are shown =
    are
    ∙ ap (λ (z : SeenPrefix). covering_loops z.loops) shown.seen
    ∙ told_covering p.loops
