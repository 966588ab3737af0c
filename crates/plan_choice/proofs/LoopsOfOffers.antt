-- What holds of each offer of each item holds of the loops of each prefix that is kept, of those of
-- the plan in written order, and so of those that are chosen.
use Rattle.std.specs.List.{AllByRecursion}
use Rattle.std.proofs.Common.{◌≡◌, ℕ, zero, suc, Bool, true, false, cond, List, [], ◌∷◌, ◌+◌}
use Rattle.std.proofs.Common.{length}
use Rattle.std.proofs.Common.{map, Option, Some, None, refl, sym, subst}
use Rattle.list_laws.proofs.Lists.{all_append, all_flat_map, all_always, all_map}
use Rattle.list_laws.proofs.FirstComings.{all_keep}
use Rattle.sql_meaning.specs.Schemas.{Schema}
use Rattle.sql_meaning.specs.Paths.{Path}
use Rattle.sql_meaning.specs.Plans.{Loop}
use Rattle.sql_meaning.specs.OrderState.{is_done, directions}
use Rattle.list_laws.proofs.SortedViews.{all_sort}
use Rattle.plan_choice.specs.Figures.{Figures}
use Rattle.plan_choice.specs.Settings.{Setting, Statement, setting, table_for}
use Rattle.plan_choice.specs.Offers.{Offer, offers, lightest}
use Rattle.plan_choice.specs.Prefixes.{OfferedLoop, Prefix, loop_of, placed_in, empty_prefix}
use Rattle.plan_choice.specs.Prefixes.{extended}
use Rattle.plan_choice.specs.Prefixes.{next_items, offered_loops, extensions}
use Rattle.plan_choice.specs.Choice.{neighbor_count, nearer, rivals, next_level, levels, last_level}
use Rattle.plan_choice.specs.Choice.{extended_by, written_step, written_from, written, nearest_or}
use Rattle.plan_choice.specs.Choice.{chosen_prefix, with_directions, directed}
use Rattle.plan_choice.specs.Advice.{full_schema, full_figures, plans_over}
use Rattle.sql_meaning.specs.Fitting.{FitsTable, FitsTables}
use Rattle.plan_choice.specs.FitLaws.{ChosenPlansFit, AdvicePlansFit}
use Rattle.list_laws.proofs.Lists.{all_take, all_mapped}
use Rattle.plan_choice.proofs.ListedOffers.{lightest_one}
use Rattle.plan_choice.proofs.SoundPrefixes.{numbered_are}
use Rattle.plan_choice.proofs.FittingPaths.{listed_offers_fit}

abbrev pub AllLoops : (ℕ → Offer → Type 0) → Prefix → Type 0
AllLoops P p = AllByRecursion (λ t. P t.item t.offer) p.loops

abbrev pub AllOffers : (ℕ → Offer → Type 0) → Setting → Type 0
AllOffers P s = (placed : List ℕ) (item : ℕ) → AllByRecursion (P item) (offers s placed item)

loops_all : (P : ℕ → Offer → Type 0) (s : Setting) (placed : List ℕ) (item : ℕ) → AllOffers P s
    → AllByRecursion (λ t. P t.item t.offer) (offered_loops s placed item)
loops_all P s placed item h =
    all_map _ _ (offered_loops s placed item)
    (λ t k. subst (λ (i : ℕ). P i t.offer) (sym k.0) k.1)
    (numbered_are (P item) item 0 (offers s placed item) (h placed item))

extended_all : (P : ℕ → Offer → Type 0) (s : Setting) (p : Prefix) (t : OfferedLoop) → AllLoops P p
    → P t.item t.offer → AllLoops P (extended s p t)
extended_all P s p t h k = all_append _ p.loops (t ∷ []) h (k, tt)

extensions_all : (P : ℕ → Offer → Type 0) (s : Setting) (p : Prefix) → AllOffers P s → AllLoops P p
    → AllByRecursion (AllLoops P) (extensions s p)
extensions_all P s p f h =
    all_flat_map (AllLoops P)
    (λ i. map (extended s p) (offered_loops s (placed_in p) i)) (next_items s.bound (placed_in p))
    (all_always _ (next_items s.bound (placed_in p))
    (λ i. all_mapped (AllLoops P) (extended s p) (offered_loops s (placed_in p) i)
    (all_map _ _ (offered_loops s (placed_in p) i) (λ t k. extended_all P s p t h k)
    (loops_all P s (placed_in p) i f))))

pub levels_all : (P : ℕ → Offer → Type 0) (s : Setting) (n : ℕ) (kept : List Prefix)
    → AllOffers P s → AllByRecursion (AllLoops P) kept
    → AllByRecursion (AllLoops P) (levels s n kept)
levels_all P s zero kept f h = h
levels_all P s (suc n) kept f h =
    levels_all P s n (next_level s kept) f
    (all_take _ (neighbor_count (length s.bound.items)) _
    (all_keep (rivals s) _ _ []
    (all_sort _ (nearer s) _
    (all_flat_map _ _ kept (all_map _ _ kept (λ p k. extensions_all P s p f k) h)))))

by_all : (P : ℕ → Offer → Type 0) (s : Setting) (p : Prefix) (o : Option OfferedLoop)
    → AllLoops P p → ((t : OfferedLoop) → o ≡ Some t → P t.item t.offer)
    → AllLoops P (extended_by s p o)
by_all P s p None h f = h
by_all P s p (Some t) h f = extended_all P s p t h (f t refl)

step_all : (P : ℕ → Offer → Type 0) (s : Setting) (p : Prefix) (i : ℕ) → AllOffers P s
    → AllLoops P p → AllLoops P (written_step s p i)
step_all P s p i f h =
    by_all P s p (lightest (λ t. t.offer.cost.run) (offered_loops s (placed_in p) i)) h
    (lightest_one (λ t. P t.item t.offer) (λ t. t.offer.cost.run)
    (offered_loops s (placed_in p) i) (loops_all P s (placed_in p) i f))

pub written_all : (P : ℕ → Offer → Type 0) (s : Setting) (p : Prefix) (i n : ℕ) → AllOffers P s
    → AllLoops P p → AllLoops P (written_from s p i n)
written_all P s p i zero f h = h
written_all P s p i (suc n) f h =
    written_all P s (written_step s p i) (i + 1) n f (step_all P s p i f h)

either : (P : ℕ → Offer → Type 0) (p w : Prefix) (b : Bool) → AllLoops P p → AllLoops P w
    → AllLoops P (cond b w p)
either P p w true h k = k
either P p w false h k = h

nearest_all : (P : ℕ → Offer → Type 0) (ps : List Prefix) (w : Prefix)
    → AllByRecursion (AllLoops P) ps → AllLoops P w → AllLoops P (nearest_or ps w)
nearest_all P [] w h k = k
nearest_all P (p ∷ ps) w h k = either P p w _ h.0 k

pub chosen_all : (P : ℕ → Offer → Type 0) (s : Setting) → AllOffers P s
    → AllLoops P (chosen_prefix s)
chosen_all P s f =
    nearest_all P (last_level s) (written s)
    (levels_all P s (length s.bound.items) (empty_prefix s ∷ []) f (tt, tt))
    (written_all P s (empty_prefix s) 0 (length s.bound.items) f tt)

-- flags change no path
directed_all : (Q : ℕ → Path → Type 0) (ls : List Loop) (ds : List Bool)
    → AllByRecursion (λ l. Q l.item l.path) ls
    → AllByRecursion (λ l. Q l.item l.path) (with_directions ls ds)
directed_all Q [] ds h = tt
directed_all Q (l ∷ ls) [] h = (h.0, directed_all Q ls [] h.1)
directed_all Q (l ∷ ls) (d ∷ ds) h = (h.0, directed_all Q ls ds h.1)

by_state : (Q : ℕ → Path → Type 0) (s : Setting) (b : Bool) (ls : List Loop)
    → AllByRecursion (λ l. Q l.item l.path) ls
    → AllByRecursion (λ l. Q l.item l.path) (directed s b ls)
by_state Q s true ls h =
    directed_all Q ls (directions s.schema s.bound ls s.bound.keys) h
by_state Q s false ls h = h

pub chosen_plans_fit : ChosenPlansFit
chosen_plans_fit = λ s.
    let p = chosen_prefix s in
    by_state (λ i path. FitsTable s.schema (table_for s i) path) s (is_done p.state)
    (map loop_of p.loops)
    (all_mapped _ loop_of p.loops
    (chosen_all (λ i o. FitsTable s.schema (table_for s i) o.path) s (listed_offers_fit s)))

each_fits : (schema : Schema) (figured : Figures) (sts : List Statement)
    → AllByRecursion (λ c. FitsTables schema c.plan) (plans_over schema figured sts)
each_fits schema figured [] = tt
each_fits schema figured (st ∷ sts) =
    (chosen_plans_fit (setting schema figured st), each_fits schema figured sts)

pub advice_plans_fit : AdvicePlansFit
advice_plans_fit = λ r.
    each_fits (full_schema r) (full_figures r (full_schema r)) r.statements
