-- The costs of each kept prefix are small.
use Rattle.std.specs.List.{AllByRecursion}
use Rattle.std.proofs.Common.{◌≡◌, ◌<◌, ◌≤◌, ℕ, zero, suc, ◌+◌, ◌*◌, Bool, true, false}
use Rattle.std.proofs.Common.{List, [], ◌∷◌, Option, Some, None, refl, arith}
use Rattle.std.proofs.Common.{sym, subst, length, map, ◌||◌}
use Rattle.list_laws.proofs.Lists.{all_map, all_append, all_flat_map, all_always, all_both}
use Rattle.list_laws.proofs.FirstComings.{all_keep}
use Rattle.sql_meaning.specs.Schemas.{Schema}
use Rattle.sql_meaning.specs.Statements.{item_alias}
use Rattle.sql_meaning.specs.UsedTerms.{Used, AllOf, AnyOf, BranchesCarry, PathCarries}
use Rattle.sql_meaning.specs.Terms.{Term}
use Rattle.sql_meaning.specs.Choices.{Seek}
use Rattle.sql_meaning.specs.Paths.{Path, TableScan, RowidEq, RowidRange, IndexScan, IndexSeek}
use Rattle.sql_meaning.specs.Paths.{Union, Paths, Nowhere, Then}
use Rattle.list_laws.proofs.SortedViews.{all_sort}
use Rattle.plan_choice.specs.Logarithms.{log_add, sort_cost}
use Rattle.plan_choice.specs.Costs.{thinned, size_of, Cost}
use Rattle.plan_choice.specs.Settings.{Setting, setting, terms_for, table_for, indexes_on}
use Rattle.plan_choice.specs.Offers.{Offer, offers, rowid_offers, index_scans, seek_or_scan}
use Rattle.plan_choice.specs.Offers.{covers, is_first_key, union_seeks, union_offers}
use Rattle.plan_choice.specs.OfferLaws.{IsOffered}
use Rattle.plan_choice.specs.Prefixes.{OfferedLoop, Prefix, extended, empty_prefix, cost_with}
use Rattle.plan_choice.specs.Prefixes.{placed_in}
use Rattle.plan_choice.specs.Prefixes.{next_items, offered_loops, extensions, is_lost}
use Rattle.plan_choice.specs.Choice.{neighbor_count, nearer, rivals, next_level, levels, written}
use Rattle.plan_choice.specs.Choice.{written_from}
use Rattle.plan_choice.specs.Choice.{written_step, extended_by}
use Rattle.plan_choice.specs.CostLaws.{IsSmall, PrefixesAreSmall, ChosenCostsAreSmall}
use Rattle.plan_choice.specs.CostLaws.{AdviceCostsAreSmall}
use Rattle.sql_meaning.specs.Offers.{IsPlannable}
use Rattle.plan_choice.specs.Figures.{Figures}
use Rattle.plan_choice.specs.Settings.{Statement}
use Rattle.plan_choice.specs.Advice.{plans_over, full_schema, full_figures}
use Rattle.sql_meaning.specs.Schemas.{Schema}
use Rattle.plan_choice.proofs.AdvicePlans.{still_plannable}
use Rattle.plan_choice.proofs.FittingFigures.{advice_figures_fit}
use Rattle.plan_choice.specs.FigureLaws.{AreSmall}
use Rattle.plan_choice.specs.CostLaws.{WrittenPlansAreSmall}
use Rattle.list_laws.proofs.Lists.{all_take, all_mapped}
use Rattle.plan_choice.proofs.ListedOffers.{IsNext, offers_are, lightest_one}
use Rattle.plan_choice.proofs.SoundPrefixes.{IsOwn, numbered_are, empty_is}
use Rattle.plan_choice.proofs.SoundLevels.{next_are, next_of}
use Rattle.plan_choice.proofs.SoundLevels.{IsWritten, front_comes, lightest_some, written_step_is}
use Rattle.plan_choice.proofs.SoundLevels.{none_placed}
use Rattle.plan_choice.proofs.ChosenPlans.{own_setting}
use Rattle.plan_choice.proofs.ChosenCosts.{chosen_plans_cost_no_more}
use Rattle.plan_choice.proofs.CostBounds.{below_case, log_add_close, seek_small}
use Rattle.plan_choice.specs.CostLaws.{ArePlain, IsFlat}
use Rattle.plan_choice.proofs.CostBounds.{size_small, tables_small}

-- each offer costs what its path does
abbrev HasCost : Setting → ℕ → Offer → Type 0
HasCost s item o =
    (tested : ℕ) × (o.cost
    ≡ thinned (size_of s.figures (table_for s item) o.covering o.path) tested)

rowid_cost : (s : Setting) (placed : List ℕ) (item : ℕ) (o : Option Seek)
    → AllByRecursion (HasCost s item) (rowid_offers s placed item o)
rowid_cost s placed item None = tt
rowid_cost s placed item (Some k) = ((_, refl), tt)

scan_cost : (s : Setting) (placed : List ℕ) (item index : ℕ) (covering b : Bool)
    → AllByRecursion (HasCost s item) (index_scans s placed item index covering b)
scan_cost s placed item index covering true = ((_, refl), tt)
scan_cost s placed item index covering false = tt

index_cost : (s : Setting) (placed : List ℕ) (item index : ℕ) (covering : Bool) (o : Option Seek)
    → AllByRecursion (HasCost s item) (seek_or_scan s placed item index covering o)
index_cost s placed item index covering None =
    scan_cost s placed item index covering (covering || is_first_key item s.bound.keys)
index_cost s placed item index covering (Some k) = ((_, refl), tt)

union_cost : (s : Setting) (placed : List ℕ) (item : ℕ) (o : Option (List Seek))
    → AllByRecursion (HasCost s item) (union_offers s placed item o)
union_cost s placed item None = tt
union_cost s placed item (Some ks) = ((_, refl), tt)

offers_cost : (s : Setting) (placed : List ℕ) (item : ℕ)
    → AllByRecursion (HasCost s item) (offers s placed item)
offers_cost s placed item = (
  (_, refl),
  all_append _ _ _ (rowid_cost s placed item _)
      (all_append _ _ _
      (all_flat_map _ _ (indexes_on s.schema (table_for s item))
      (all_always _ _ (λ index. index_cost s placed item index (covers s item index) _)))
      (all_flat_map _ _ (terms_for s item).ors
      (all_always _ _ (λ o. union_cost s placed item (union_seeks s placed item o.branches))))),
)

plain_branches : (schema : Schema) (alias : Option ℕ) (ps : Paths) (tss : List (List Term))
    → BranchesCarry schema alias ps tss → ArePlain ps
plain_branches schema alias Nowhere [] h = tt
plain_branches schema alias Nowhere (ts ∷ tss) h = tt
plain_branches schema alias (Then p ps) [] h = absurd h
plain_branches schema alias (Then p ps) (ts ∷ tss) h =
    (h.0, plain_branches schema alias ps tss h.2)

flat_path : (schema : Schema) (alias : Option ℕ) (path : Path) (used : Used)
    → PathCarries schema alias path used → IsFlat path
flat_path schema alias (Union ps) (AllOf ts) h = absurd h
flat_path schema alias (Union ps) (AnyOf tss) h = plain_branches schema alias ps tss h
flat_path schema alias TableScan used h = tt
flat_path schema alias (RowidEq part) used h = tt
flat_path schema alias (RowidRange low high) used h = tt
flat_path schema alias (IndexScan index) used h = tt
flat_path schema alias (IndexSeek index eqs low high) used h = tt

pub record CostWithin (c : Cost) : Type 0 where
  pub run : c.run ≤ 100709
  pub rows : c.rows ≤ 1000

cost_small : (s : Setting) (placed : List ℕ) (item : ℕ) (o : Offer) → AreSmall s.figures
    → IsOffered s placed item false o → HasCost s item o → CostWithin o.cost
cost_small s placed item o f h c =
    let z = size_small s.figures (table_for s item) o.covering o.path
    (tables_small s.figures f (table_for s item))
    (flat_path s.schema (item_alias s.schema s.bound item) o.path o.used h.carries) in
    let run = z.run in
    let entries = z.entries in
    subst CostWithin (sym c.1) (record { run = run; rows = omega (arith, entries) })

pub offered_loops_small : (s : Setting) (placed : List ℕ) (item : ℕ) → AreSmall s.figures
    → IsNext s placed item
    → AllByRecursion (λ t. CostWithin t.offer.cost) (offered_loops s placed item)
offered_loops_small s placed item f n =
    all_map _ _ (offered_loops s placed item) (λ t h. h.1)
    (numbered_are (λ o. CostWithin o.cost) item 0 (offers s placed item)
    (all_both _ _ _ (offers s placed item) (λ o a b. cost_small s placed item o f a b)
    (offers_are s placed item false n) (offers_cost s placed item)))

-- the rows and the cost of a prefix, but for its weight
pub record IsCheap (count : ℕ) (p : Prefix) : Type 0 where
  pub rows : p.rows ≤ 1000 * count
  pub cost : p.cost ≤ 1000 * count + 101060

joined_small : (count : ℕ) (ts : List OfferedLoop) (cost runs : ℕ) → cost ≤ 1000 * count + 101060
    → runs ≤ 1000 * count + 101000 → cost_with ts cost runs ≤ 1000 * count + 101060
joined_small count [] cost runs h l = omega (arith, l)
joined_small count (t ∷ ts) cost runs h l =
    let sum = log_add_close cost runs (1000 * count + 101000) (omega (arith, h)) l in
    omega (arith, sum)

pub extended_small : (s : Setting) (count : ℕ) (p : Prefix) (t : OfferedLoop) → IsCheap count p
    → CostWithin t.offer.cost → IsCheap (suc count) (extended s p t)
extended_small s count p t h c =
    let rows = h.rows in
    let cost = h.cost in
    let run = c.run in
    let few = c.rows in
    let sum = joined_small count p.loops p.cost (p.rows + t.offer.cost.run) cost
    (omega (arith, rows, run)) in
    record { rows = omega (arith, rows, few); cost = omega (arith, sum) }

pub extensions_small : (s : Setting) (count : ℕ) (p : Prefix) → IsOwn s → AreSmall s.figures
    → IsCheap count p → AllByRecursion (IsCheap (suc count)) (extensions s p)
extensions_small s count p o f h =
    all_flat_map (IsCheap (suc count))
    (λ i. map (extended s p) (offered_loops s (placed_in p) i)) (next_items s.bound (placed_in p))
    (all_map _ _ (next_items s.bound (placed_in p))
    (λ i n. all_mapped (IsCheap (suc count)) (extended s p) (offered_loops s (placed_in p) i)
    (all_map _ _ (offered_loops s (placed_in p) i) (λ t c. extended_small s count p t h c)
    (offered_loops_small s (placed_in p) i f (next_of s (placed_in p) i o n.0 n.1))))
    (next_are s.bound (placed_in p)))

pub levels_small : (s : Setting) (count n : ℕ) (kept : List Prefix) → IsOwn s → AreSmall s.figures
    → AllByRecursion (IsCheap count) kept
    → AllByRecursion (IsCheap (count + n)) (levels s n kept)
levels_small s count zero kept o f h =
    let e : count ≡ count + 0 = omega arith in
    subst (λ (c : ℕ). AllByRecursion (IsCheap c) kept) e h
levels_small s count (suc n) kept o f h =
    let e : suc count + n ≡ count + suc n = omega arith in
    subst (λ (c : ℕ). AllByRecursion (IsCheap c) (levels s n (next_level s kept))) e
    (levels_small s (suc count) n (next_level s kept) o f
    (all_take _ (neighbor_count (length s.bound.items)) _
    (all_keep (rivals s) _ _ []
    (all_sort _ (nearer s) _
    (all_flat_map _ _ kept
    (all_map _ _ kept (λ p c. extensions_small s count p o f c) h))))))

pub weight_small : (count : ℕ) (p : Prefix) → IsCheap count p → IsSmall count p
weight_small count p h =
    let rows = h.rows in
    let cost = h.cost in
    let s = seek_small p.rows in
    let sorted = log_add_close p.cost (sort_cost p.rows) (1000 * count + 101000)
    (omega (arith, cost)) (omega (arith, rows, s)) in
    record {
      rows = rows;
      cost = cost;
      weight =
          below_case (is_lost p.state) (log_add p.cost (sort_cost p.rows)) p.cost
          (1000 * count + 102060) (omega (arith, sorted)) (omega (arith, cost));
    }

pub prefixes_are_small : PrefixesAreSmall
prefixes_are_small = λ schema figures statement f h count.
    let s = setting schema figures statement in
    let e : 0 + count ≡ count = omega arith in
    all_map _ _ (levels s count (empty_prefix s ∷ [])) (λ p c. weight_small count p c)
    (subst (λ (c : ℕ). AllByRecursion (IsCheap c) (levels s count (empty_prefix s ∷ []))) e
    (levels_small s 0 count (empty_prefix s ∷ []) (own_setting schema figures statement h) f
    (record { rows = omega arith; cost = omega arith }, tt)))

pub step_small : (s : Setting) (p : Prefix) (i : ℕ) → IsOwn s → AreSmall s.figures → IsWritten s i p
    → i < length s.bound.items → IsCheap i p → IsCheap (i + 1) (written_step s p i)
step_small s p i o f w below h =
    let come = front_comes s.bound (placed_in p) i w.front in
    let each = offered_loops_small s (placed_in p) i f (next_of s (placed_in p) i o come below) in
    let best =
    lightest_some (λ (t : OfferedLoop). t.offer.cost.run) (offered_loops s (placed_in p) i) tt in
    let is =
    lightest_one _ (λ (t : OfferedLoop). t.offer.cost.run)
    (offered_loops s (placed_in p) i) each best.0 best.1 in
    let e : suc i ≡ i + 1 = omega arith in
    subst (λ (o : Option OfferedLoop). IsCheap (i + 1) (extended_by s p o)) (sym best.1)
    (subst (λ (c : ℕ). IsCheap c (extended s p best.0)) e (extended_small s i p best.0 h is))

written_from_small : (s : Setting) (p : Prefix) (i n : ℕ) → IsOwn s → AreSmall s.figures
    → IsWritten s i p → i + n ≡ length s.bound.items → IsCheap i p
    → IsCheap (length s.bound.items) (written_from s p i n)
written_from_small s p i zero o f w e h =
    let is : i ≡ length s.bound.items = omega (arith, e) in
    subst (λ (c : ℕ). IsCheap c p) is h
written_from_small s p i (suc n) o f w e h =
    written_from_small s (written_step s p i) (i + 1) n o f
    (written_step_is s p i o w (omega (arith, e))) (omega (arith, e))
    (step_small s p i o f w (omega (arith, e)) h)

pub written_plans_are_small : WrittenPlansAreSmall
written_plans_are_small = λ schema figures statement f h.
    let s = setting schema figures statement in
    weight_small (length statement.bound.items) (written s)
    (written_from_small s (empty_prefix s) 0 (length statement.bound.items)
    (own_setting schema figures statement h) f
    (record { prefix = empty_is s; front = none_placed }) (omega arith)
    (record { rows = omega arith; cost = omega arith }))

pub chosen_costs_are_small : ChosenCostsAreSmall
chosen_costs_are_small = λ schema figures statement f h few.
    let s = setting schema figures statement in
    let most = (written_plans_are_small schema figures statement f h).weight in
    let less = chosen_plans_cost_no_more s in
    (omega (arith, most, less, few), omega (arith, most, few))

each_small : (schema : Schema) (figured : Figures) (sts : List Statement) → AreSmall figured
    → AllByRecursion (λ st. IsPlannable schema st.bound × (length st.bound.items ≤ 64)) sts
    → AllByRecursion (λ c. (c.cost < 1000000) × (c.written < 1000000))
    (plans_over schema figured sts)
each_small schema figured [] f h = tt
each_small schema figured (st ∷ sts) f h = (
  chosen_costs_are_small schema figured st f h.0.0 h.0.1,
  each_small schema figured sts f h.1,
)

pub advice_costs_are_small : AdviceCostsAreSmall
advice_costs_are_small = λ r h.
    each_small (full_schema r) (full_figures r (full_schema r)) r.statements
    (advice_figures_fit r).1
    (all_map _ _ r.statements (λ st k. (still_plannable r st k.0, k.1)) h)
