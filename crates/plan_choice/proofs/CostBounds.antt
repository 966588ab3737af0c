-- Costs stay small, so that no sum of them passes a machine's numbers.
use Rattle.std.specs.List.{AllByRecursion, filter}
use Rattle.std.proofs.Common.{◌≡◌, ◌<◌, ◌≤◌, ◌&&◌, ℕ, zero, suc, ◌+◌, ◌-◌, ◌*◌, ◌/◌, ◌^◌, Bool}
use Rattle.std.proofs.Common.{true, false}
use Rattle.std.proofs.Common.{cond}
use Rattle.std.proofs.Common.{nat_lt, nat_le, leb, max, min, slice_index_or, List, [], ◌∷◌}
use Rattle.std.proofs.Common.{refl, arith, length}
use Rattle.std.proofs.lemmas.Bool.{leb-true, leb-false, lt-leb}
use Rattle.list_laws.proofs.Bools.{and_left, and_right}
use Rattle.std.proofs.Math.Nat.{max-le, min-le_left}
use Rattle.sql_meaning.specs.Paths.{EqPart, OneKey, ManyKeys, NullKey, Path, TableScan}
use Rattle.sql_meaning.specs.Paths.{RowidEq, RowidRange, IndexScan, IndexSeek, Union, Paths}
use Rattle.sql_meaning.specs.Paths.{Nowhere, Then, is_union}
use Rattle.plan_choice.specs.Logarithms.{exponent_from, tenths, log_from, log_est, sum_step}
use Rattle.plan_choice.specs.Logarithms.{distance, log_add}
use Rattle.plan_choice.specs.Logarithms.{seek_cost, step_ends}
use Rattle.plan_choice.specs.Figures.{Figures, table_rows, index_rows}
use Rattle.plan_choice.specs.Costs.{Shape, WholeTable, CoveringScan, PlainScan, ByRowid}
use Rattle.plan_choice.specs.Costs.{CoveringSeek}
use Rattle.plan_choice.specs.Costs.{PlainSeek, run_cost, Size, sized, seeks_of, within_bounds}
use Rattle.plan_choice.specs.Costs.{rowid_entries, join_sizes, size_of, sizes_from}
use Rattle.plan_choice.specs.CostLaws.{SizeWithin, ArePlain, IsFlat}
use Rattle.plan_choice.specs.FigureLaws.{AreSmall}

pub below_case : (b : Bool) (n m k : ℕ) → n ≤ k → m ≤ k → cond b n m ≤ k
below_case true n m k h l = h
below_case false n m k h l = l

pub exponent_at_most : (most x : ℕ) → exponent_from most x ≤ most
exponent_at_most zero x = omega arith
exponent_at_most (suc most) x =
    below_case (nat_le (2 ^ suc most) x) (suc most) (exponent_from most x) (suc most) (omega arith)
    (let h = exponent_at_most most x in omega (arith, h))

in_list : (ns : List ℕ) (i k : ℕ) → AllByRecursion (λ n. n ≤ k) ns → slice_index_or ns i 0 ≤ k
in_list [] i k h = omega arith
in_list (n ∷ ns) zero k h = h.0
in_list (n ∷ ns) (suc i) k h = in_list ns i k h.1

abbrev all_within : ℕ → List ℕ → Bool
all_within k [] = true
all_within k (n ∷ ns) = nat_le n k && all_within k ns

-- a list of numbers is compared with a bound by computing
pub each_within : (k : ℕ) (ns : List ℕ) → all_within k ns ≡ true → AllByRecursion (λ n. n ≤ k) ns
each_within k [] h = tt
each_within k (n ∷ ns) h = (
  leb-true n k (and_left (nat_le n k) _ h),
  each_within k ns (and_right (nat_le n k) _ h),
)

pub log_at_most : (most x e : ℕ) → e ≤ most → log_from x e ≤ 10 * most + 9
log_at_most most x e h = let t = in_list tenths (8 * x / 2 ^ e - 8) 9 (each_within 9 tenths refl) in
    omega (arith, h, t)

pub log_est_small : (x : ℕ) → log_est x ≤ 639
log_est_small x =
    below_case (nat_lt x 2) 0 (log_from x (exponent_from 63 x)) 639 (omega arith)
    (log_at_most 63 x (exponent_from 63 x) (exponent_at_most 63 x))

kept_case : (e : ℕ) (es : List ℕ) (k : ℕ) (b : Bool) → length es ≤ k
    → length (cond b (e ∷ es) es) ≤ suc k
kept_case e es k true h = omega (arith, h)
kept_case e es k false h = omega (arith, h)

pub filter_small : (p : ℕ → Bool) (es : List ℕ) → length (filter p es) ≤ length es
filter_small p [] = omega arith
filter_small p (e ∷ es) = kept_case e (filter p es) (length es) (p e) (filter_small p es)

sum_step_small : (d : ℕ) → sum_step d ≤ 10
sum_step_small d = filter_small (λ end. nat_le d end) step_ends

lt_case : (e : ℕ) (es : List ℕ) (b : Bool) → b ≡ false → length es ≡ 0
    → length (cond b (e ∷ es) es) ≡ 0
lt_case e es true f h = absurd (cc)
lt_case e es false f h = h

none_within : (d k : ℕ) (es : List ℕ) → AllByRecursion (λ e. e ≤ k) es → k < d
    → length (filter (λ end. nat_le d end) es) ≡ 0
none_within d k [] h l = refl
none_within d k (e ∷ es) h l =
    let first = h.0 in
    lt_case e (filter (λ end. nat_le d end) es) (nat_le d e) (lt-leb d e (omega (arith, l, first)))
    (none_within d k es h.1 l)

step_far : (d : ℕ) → 50 ≤ d → sum_step d ≡ 0
step_far d h = none_within d 49 step_ends (each_within 49 step_ends refl) (omega (arith, h))

pub log_add_small : (a b k : ℕ) → a ≤ k → b ≤ k → log_add a b ≤ k + 10
log_add_small a b k h l =
    let most : max a b ≤ k = max-le h l in
    let step = sum_step_small (distance a b) in omega (arith, most, step)

close_case : (a b m : ℕ) (c : Bool) → leb a (m + 50) ≡ c → a ≤ m + 60 → b ≤ m
    → log_add a b ≤ m + 60
close_case a b m true e h l =
    let near = leb-true a (m + 50) e in
    let sum = log_add_small a b (m + 50) near (omega (arith, l)) in omega (arith, sum)
close_case a b m false e h l =
    let far = leb-false a (m + 50) e in
    let most : max a b ≤ a = max-le (omega arith) (omega (arith, far, l)) in
    let step = step_far (distance a b) (omega (arith, far, l)) in omega (arith, most, step, h)

-- a sum stays near the greatest of its members, however many there are
pub log_add_close : (a b m : ℕ) → a ≤ m + 60 → b ≤ m → log_add a b ≤ m + 60
log_add_close a b m h l = close_case a b m (leb a (m + 50)) refl h l

pub seek_small : (rows : ℕ) → seek_cost rows ≤ 639
seek_small rows =
    below_case (nat_le rows 10) 0 (log_est rows - 33) 639 (omega arith)
    (let h = log_est_small rows in omega (arith, h))

seek_run_small : (rows entries seeks more : ℕ) → entries ≤ 1000 → seeks ≤ 100000 → more ≤ 21
    → log_add (seek_cost rows + seeks) (entries + more) ≤ 100649
seek_run_small rows entries seeks more h l m =
    let s = seek_small rows in
    log_add_small (seek_cost rows + seeks) (entries + more) 100639 (omega (arith, s, l))
    (omega (arith, h, m))

run_small : (shape : Shape) (rows entries seeks : ℕ) → entries ≤ 1000 → seeks ≤ 100000
    → run_cost shape rows entries seeks ≤ 100649
run_small WholeTable rows entries seeks h l = omega (arith, h)
run_small CoveringScan rows entries seeks h l = omega (arith, h)
run_small PlainScan rows entries seeks h l = omega (arith, h)
run_small ByRowid rows entries seeks h l = seek_run_small rows entries seeks 10 h l (omega arith)
run_small CoveringSeek rows entries seeks h l =
    seek_run_small rows entries seeks 5 h l (omega arith)
run_small PlainSeek rows entries seeks h l =
    seek_run_small rows entries seeks 21 h l (omega arith)

sized_small : (shape : Shape) (rows entries seeks : ℕ) → entries ≤ 1000 → seeks ≤ 100000
    → SizeWithin 100649 (sized shape rows entries seeks)
sized_small shape rows entries seeks h l =
    record { run = run_small shape rows entries seeks h l; entries = h }

pub tables_small : (f : Figures) → AreSmall f → (table : ℕ) → table_rows f table ≤ 1000
tables_small f h table = in_list f.tables table 1000 h.tables

pub part_small : (rows : ℕ) (part : EqPart) → rows ≤ 1000 → rowid_entries rows part ≤ 1000
part_small rows (OneKey key) h = omega arith
part_small rows (ManyKeys keys) h =
    let l = min-le_left rows (seeks_of (ManyKeys keys ∷ [])) in omega (arith, h, l)
part_small rows NullKey h = omega arith

pub seeks_small : (eqs : List EqPart) → seeks_of eqs ≤ 100000
seeks_small eqs = min-le_left 100000 _

pub plain_size : (f : Figures) (table : ℕ) (covering : Bool) (path : Path)
    → table_rows f table ≤ 1000 → is_union path ≡ false
    → SizeWithin 100649 (size_of f table covering path)
plain_size f table covering TableScan t u =
    sized_small WholeTable (table_rows f table) (table_rows f table) 0 t (omega arith)
plain_size f table covering (RowidEq part) t u =
    sized_small ByRowid (table_rows f table) (rowid_entries (table_rows f table) part)
    (seeks_of (part ∷ [])) (part_small _ part t) (seeks_small (part ∷ []))
plain_size f table covering (RowidRange low high) t u =
    sized_small ByRowid (table_rows f table) (within_bounds low high (table_rows f table)) 0
    (omega (arith, t)) (omega arith)
plain_size f table covering (IndexScan index) t u =
    sized_small (cond covering CoveringScan PlainScan) (table_rows f table) (table_rows f table) 0
    t (omega arith)
plain_size f table covering (IndexSeek index eqs low high) t u =
    let m = min-le_left (table_rows f table)
    (within_bounds low high (index_rows f index (length eqs) + seeks_of eqs)) in
    sized_small (cond covering CoveringSeek PlainSeek) (table_rows f table)
    (min (table_rows f table)
    (within_bounds low high (index_rows f index (length eqs) + seeks_of eqs))) (seeks_of eqs)
    (omega (arith, t, m)) (seeks_small eqs)
plain_size f table covering (Union branches) t u = absurd (cc)

sizes_small : (f : Figures) (table : ℕ) (before : Size) (paths : Paths)
    → table_rows f table ≤ 1000 → before.run ≤ 100709 → ArePlain paths
    → (sizes_from f table before paths).run ≤ 100709
sizes_small f table before Nowhere t l u = l
sizes_small f table before (Then path paths) t l u =
    let s = plain_size f table false path t u.0 in
    sizes_small f table (join_sizes before (size_of f table false path)) paths t
    (log_add_close before.run (size_of f table false path).run 100649 (omega (arith, l)) s.run) u.1

union_small : (f : Figures) (table : ℕ) (covering : Bool) (paths : Paths)
    → table_rows f table ≤ 1000 → ArePlain paths
    → SizeWithin 100709 (size_of f table covering (Union paths))
union_small f table covering Nowhere t u = record { run = omega arith; entries = omega arith }
union_small f table covering (Then path paths) t u =
    let s = plain_size f table false path t u.0 in
    let joined = sizes_from f table (size_of f table false path) paths in
    let m = min-le_left (table_rows f table) joined.entries in
    let first = s.run in
    record {
      run = sizes_small f table (size_of f table false path) paths t (omega (arith, first)) u.1;
      entries = omega (arith, t, m);
    }

wider : (z : Size) → SizeWithin 100649 z → SizeWithin 100709 z
wider z h = let r = h.run in record { run = omega (arith, r); entries = h.entries }

pub size_small : (f : Figures) (table : ℕ) (covering : Bool) (path : Path)
    → table_rows f table ≤ 1000 → IsFlat path
    → SizeWithin 100709 (size_of f table covering path)
size_small f table covering TableScan t u = wider _ (plain_size f table covering TableScan t refl)
size_small f table covering (RowidEq part) t u =
    wider _ (plain_size f table covering (RowidEq part) t refl)
size_small f table covering (RowidRange low high) t u =
    wider _ (plain_size f table covering (RowidRange low high) t refl)
size_small f table covering (IndexScan index) t u =
    wider _ (plain_size f table covering (IndexScan index) t refl)
size_small f table covering (IndexSeek index eqs low high) t u =
    wider _ (plain_size f table covering (IndexSeek index eqs low high) t refl)
size_small f table covering (Union paths) t u = union_small f table covering paths t u
