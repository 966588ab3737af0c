-- The chosen plan means its statement.
use Rattle.std.specs.List.{AllByRecursion}
use Rattle.std.proofs.Common.{◌≡◌, ◌≢◌, ◌<◌, ℕ, zero, suc, ◌+◌, Bool, true, false, cond, ◌||◌}
use Rattle.std.proofs.Common.{◌&&◌, ◌==◌, List, [], ◌∷◌, length, map, refl, sym, ap, ap₂, ◌∙◌}
use Rattle.std.proofs.Common.{subst, arith, slice_index_or}
use Rattle.list_laws.specs.Nest.{Rearranges, same, next, swapped, after}
use Rattle.list_laws.proofs.Bools.{or_turn}
use Rattle.list_laws.proofs.Lists.{all_map, all_always}
use Rattle.sql_meaning.specs.Expressions.{names}
use Rattle.sql_meaning.specs.Schemas.{Schema}
use Rattle.sql_meaning.specs.Statements.{has_number, all_in, numbers_from}
use Rattle.sql_meaning.specs.OrderState.{FitsOrder, is_done, directions, state}
use Rattle.sql_meaning.specs.Offers.{IsPlannable, FitsOffers, AreOffers, loop_items}
use Rattle.sql_meaning.proofs.Asked.{offered_plans_mean}
use Rattle.plan_choice.specs.Figures.{Figures}
use Rattle.plan_choice.specs.Settings.{Setting, Statement, setting, no_terms}
use Rattle.sql_meaning.specs.TermLists.{terms_of_item}
use Rattle.plan_choice.specs.Prefixes.{OfferedLoop, Prefix, loop_of, items_of, placed_from}
use Rattle.plan_choice.specs.Choice.{directed, plan_of, nearest_or, chosen_prefix}
use Rattle.plan_choice.specs.Choice.{last_level, written, choose}
use Rattle.plan_choice.specs.ChoiceLaws.{ChosenPlansMean, ChosenPlansAreOffered}
use Rattle.plan_choice.proofs.Orderings.{rising_numbers}
use Rattle.plan_choice.proofs.OfferedLoops.{used_by, offers_plain, offers_directed}
use Rattle.plan_choice.proofs.OfferedLoops.{items_plain, items_directed, AreOfferedLoops}
use Rattle.plan_choice.proofs.Directions.{taken_forward, closed_done, fits_order}
use Rattle.plan_choice.proofs.SoundPrefixes.{IsOwn, IsPrefix, AreIn, free_in}
use Rattle.plan_choice.proofs.SoundLevels.{last_is, written_is}

-- the same numbers in another order
pub has_same : (free : ℕ → Bool) (is js : List ℕ) (a : ℕ) → Rearranges free is js
    → has_number a is ≡ has_number a js
has_same free is js a (same items) = refl
has_same free is js a (next i items others r) =
    ap (λ b. (a == i) || b) (has_same free items others a r)
has_same free is js a (swapped i j items n f g) = or_turn (a == i) (a == j) (has_number a items)
has_same free is js a (after items others more r q) =
    has_same free items others a r ∙ has_same free others more a q

all_in_same : (ns ms os : List ℕ) → ((a : ℕ) → has_number a ms ≡ has_number a os)
    → all_in ns ms ≡ all_in ns os
all_in_same [] ms os f = refl
all_in_same (n ∷ ns) ms os f = ap₂ (λ a b. a && b) (f n) (all_in_same ns ms os f)

offers_by : (s : Setting) (d : Bool) (ts : List OfferedLoop) → AreOfferedLoops s [] ts
    → AreOffers s.schema s.bound [] (directed s d (map loop_of ts)) (used_by ts)
offers_by s true ts h =
    offers_directed s [] ts (directions s.schema s.bound (map loop_of ts) s.bound.keys) h
offers_by s false ts h = offers_plain s [] ts h

items_by : (s : Setting) (d : Bool) (ts : List OfferedLoop)
    → loop_items (directed s d (map loop_of ts)) ≡ items_of ts
items_by s true ts =
    items_directed ts (directions s.schema s.bound (map loop_of ts) s.bound.keys)
items_by s false ts = items_plain ts

-- where an item is placed, there is a loop
placed_some : (ts : List OfferedLoop) (order : List ℕ) (n : ℕ) → AreIn (placed_from ts []) order
    → length order ≡ n → n ≢ 0 → items_of ts ≢ []
placed_some [] [] n h e some is = some (sym e)
placed_some [] (y ∷ ys) n h e some is = let no : false ≡ true = h.0 in cc
placed_some (t ∷ ts) order n h e some is = cc

pub none_of : (s : Setting) (d : Bool) (ts : List OfferedLoop) → items_of ts ≢ []
    → directed s d (map loop_of ts) ≢ []
none_of s d ts some e = some (sym (items_by s d ts) ∙ ap loop_items e)

pub whole_order : (s : Setting) (p : Prefix) (h : IsPrefix s (length s.bound.items) p)
    → h.order.order ≡ numbers_from 0 (length s.bound.items)
whole_order s p h =
    rising_numbers 0 (length s.bound.items) h.order.order h.order.rises
    (all_always _ h.order.order (λ y. omega arith))
    (all_map _ _ h.order.order (λ y l. omega (arith, l)) h.order.below) h.order.size

some_items : {X : Type 0} (xs : List X) → xs ≢ [] → length xs ≢ 0
some_items [] some e = some refl
some_items (x ∷ xs) some e = omega (arith, e)

offers_fit : (s : Setting) (p : Prefix) → IsPlannable s.schema s.bound
    → IsPrefix s (length s.bound.items) p → FitsOffers s.schema (plan_of s p)
offers_fit s p plannable h =
    let d = is_done p.state in
    let items = items_by s d p.loops in
    let once : Rearranges (free_in s.bound) (items_of p.loops)
    (numbers_from 0 (length s.bound.items)) =
    subst (λ (is : List ℕ). Rearranges (free_in s.bound) (items_of p.loops) is)
    (whole_order s p h) h.order.moves in
    let all : Rearranges (free_in s.bound) (loop_items (directed s d (map loop_of p.loops)))
    (numbers_from 0 (length s.bound.items)) =
    subst (λ (is : List ℕ). Rearranges (free_in s.bound) is (numbers_from 0 (length s.bound.items)))
    (sym items) once in
    record {
      used = used_by p.loops;
      once = all;
      offered = offers_by s d p.loops h.offered;
      some =
          none_of s d p.loops
          (placed_some p.loops h.order.order _ h.order.members h.order.size
          (some_items s.bound.items plannable.some));
      named =
          all_map _ _ s.bound.conjuncts
          (λ c n. all_in_same (names c.expr) _ _ (λ a. has_same _ _ _ a all) ∙ n) plannable.named;
      owners = plannable.owners;
    }

order_fits : (s : Setting) (p : Prefix) (count : ℕ) → IsPrefix s count p
    → FitsOrder s.schema (plan_of s p)
order_fits s p count h =
    fits_order s (map loop_of p.loops) (is_done p.state)
    (sym (ap is_done h.state
    ∙ closed_done (length p.loops == length s.bound.items)
    (state s.schema s.bound (map loop_of p.loops) s.bound.keys))) (taken_forward p.loops)

choice_case : (s : Setting) (count : ℕ) (p w : Prefix) (b : Bool) → IsPrefix s count p
    → IsPrefix s count w → IsPrefix s count (cond b w p)
choice_case s count p w true h k = k
choice_case s count p w false h k = h

pub nearest_is : (s : Setting) (count : ℕ) (ps : List Prefix) (w : Prefix)
    → AllByRecursion (IsPrefix s count) ps → IsPrefix s count w
    → IsPrefix s count (nearest_or ps w)
nearest_is s count [] w h k = k
nearest_is s count (p ∷ ps) w h k = choice_case s count p w _ h.0 k

at_number : {X : Type 0} (f : ℕ → X) (default : X) (start n i : ℕ) → i < n
    → slice_index_or (map f (numbers_from start n)) i default ≡ f (start + i)
at_number f default start zero i l = absurd (omega (arith, l))
at_number f default start (suc n) zero l =
    let e : start ≡ start + 0 = omega arith in ap f e
at_number f default start (suc n) (suc i) l =
    let e : start + 1 + i ≡ start + suc i = omega arith in
    at_number f default (start + 1) n i (omega (arith, l)) ∙ ap f e

pub own_setting : (schema : Schema) (figures : Figures) (statement : Statement)
    → IsPlannable schema statement.bound → IsOwn (setting schema figures statement)
own_setting schema figures statement h = record {
  fits = h.fits;
  own = λ item l.
      let e : 0 + item ≡ item = omega arith in
      at_number (terms_of_item schema statement.bound) no_terms 0 (length statement.bound.items)
      item l
      ∙ ap (terms_of_item schema statement.bound) e;
}

pub prefix_offered : (s : Setting) → IsOwn s → IsPlannable s.schema s.bound
    → FitsOffers s.schema (plan_of s (chosen_prefix s))
    × FitsOrder s.schema (plan_of s (chosen_prefix s))
prefix_offered s o h =
    let is =
    nearest_is s (length s.bound.items) (last_level s) (written s) (last_is s o) (written_is s o)
    in (
      offers_fit s (chosen_prefix s) h is,
      order_fits s (chosen_prefix s) (length s.bound.items) is,
    )

pub chosen_plans_are_offered : ChosenPlansAreOffered
chosen_plans_are_offered = λ schema figures statement h.
    prefix_offered (setting schema figures statement) (own_setting schema figures statement h) h

pub chosen_plans_mean : ChosenPlansMean
chosen_plans_mean = λ schema figures statement h.
    let fits = chosen_plans_are_offered schema figures statement h in
    offered_plans_mean schema (choose (setting schema figures statement)).plan fits.0 fits.1
