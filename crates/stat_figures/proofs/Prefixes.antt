-- Rows that agree in the first columns of an index stand side by side in its list.
use Rattle.std.specs.Ordering.{is_le, is_eq, ordering_then, then_cmp, on, nat_cmp}
use Rattle.std.specs.declared.cmp.Ordering.{Ordering}
use Rattle.std.specs.declared.cmp.Ordering.TheVariants.{Less, Equal, Greater}
use Rattle.std.specs.Cmp.{IsTotalOrder}
use Rattle.std.proofs.Common.{◌≡◌, Bool, true, false, List, [], ◌∷◌, ℕ, ◌+◌, suc, zero, cond}
use Rattle.std.proofs.Common.{refl, arith}
use Rattle.std.proofs.Common.{ap, ◌∙◌, sym, ◌&&◌, length, take, leb, ◌≤◌, map}
use Rattle.std.proofs.lemmas.Bool.{lt-leb}
use Rattle.std.proofs.Math.Dec.{leb-zero}
use Rattle.std.proofs.lemmas.Bool.Decides.{nat_tests}
use Rattle.std.proofs.lemmas.Cmp.{eq_by_cmp_equiv, on_total, then_total, nat_cmp_total}
use Rattle.list_laws.specs.Order.{Ascends, sort_by}
use Rattle.list_laws.proofs.Lists.{all_map}
use Rattle.list_laws.proofs.Orders.{Ascends-sort_by}
use Rattle.sql_meaning.specs.Values.{value_cmp}
use Rattle.sql_meaning.specs.Rows.{Row, site_value, AtColumn}
use Rattle.sql_meaning.specs.Orders.{lex_of}
use Rattle.sql_meaning.specs.Schemas.{IndexColumn}
use Rattle.sql_meaning.specs.IndexLists.{SortColumn, column_cmp, entry_cmp, directed}
use Rattle.sql_meaning.proofs.Order.{value_cmp_total}
use Rattle.sql_meaning.proofs.Paths.{entry_cmp_total}
use Rattle.sql_meaning.proofs.Seeks.{column_cmp_total}
use Rattle.plan_choice.specs.Figures.{agree, distinct_count}
use Rattle.stat_figures.specs.Changes.{changes, begins, shared_columns}
use Rattle.stat_figures.proofs.Classes.{sort_count, classes_in_order}
use Rattle.list_laws.proofs.Neighbors.{equivalence}

abbrev pub as_sort_column : IndexColumn → SortColumn
as_sort_column c = record {
  site = AtColumn c.column;
  collation = c.collation;
  falling = c.falling;
}

-- rows by their first columns
abbrev prefix_cmp : List IndexColumn → Row → Row → Ordering
prefix_cmp [] = on (λ row. 0) nat_cmp
prefix_cmp (c ∷ cs) =
    then_cmp (on (site_value (AtColumn c.column)) (column_cmp (as_sort_column c))) (prefix_cmp cs)

prefix_total : (cs : List IndexColumn) → IsTotalOrder (prefix_cmp cs)
prefix_total [] = on_total (λ row. 0) nat_cmp_total
prefix_total (c ∷ cs) =
    then_total (on_total (site_value (AtColumn c.column)) (column_cmp_total (as_sort_column c)))
    (prefix_total cs)

abbrev values_cmp : IndexColumn → Row → Row → Ordering
values_cmp c a b =
    value_cmp c.collation (site_value (AtColumn c.column) a) (site_value (AtColumn c.column) b)

eq_directed : (falling : Bool) (c : IndexColumn) (a b : Row)
    → is_eq (values_cmp c a b)
    ≡ is_eq
    (directed falling (value_cmp c.collation) (site_value (AtColumn c.column) a)
    (site_value (AtColumn c.column) b))
eq_directed true c a b =
    (eq_by_cmp_equiv (value_cmp_total c.collation)).symm (site_value (AtColumn c.column) a)
    (site_value (AtColumn c.column) b)
eq_directed false c a b = refl

eq_then : (o p : Ordering) → (is_eq o && is_eq p) ≡ is_eq (ordering_then o p)
eq_then Less p = refl
eq_then Equal p = refl
eq_then Greater p = refl

agree_more : (c : IndexColumn) (cs : List IndexColumn) (a b : Row)
    → agree (c ∷ cs) a b ≡ (is_eq (values_cmp c a b) && agree cs a b)
agree_more c cs a b = sym (eq_then (values_cmp c a b) (lex_of (λ d. values_cmp d a b) cs))

agree_is : (cs : List IndexColumn) (a b : Row) → agree cs a b ≡ is_eq (prefix_cmp cs a b)
agree_is [] a b = refl
agree_is (c ∷ cs) a b =
    agree_more c cs a b
    ∙ (rw (eq_directed c.falling c a b, agree_is cs a b) (eq_then _ _))

le_then : (o p q : Ordering) → (is_le p ≡ true → is_le q ≡ true)
    → is_le (ordering_then o p) ≡ true → is_le (ordering_then o q) ≡ true
le_then Less p q f h = refl
le_then Equal p q f h = f h
le_then Greater p q f h = h

prefix_le : (k : ℕ) (cs : List IndexColumn) (a b : Row)
    → is_le (entry_cmp (map as_sort_column cs) a b) ≡ true
    → is_le (prefix_cmp (take k cs) a b) ≡ true
prefix_le zero cs a b h = refl
prefix_le (suc k) [] a b h = refl
prefix_le (suc k) (c ∷ cs) a b h = le_then _ _ _ (prefix_le k cs a b) h

Ascends_weaker : {X : Type 0} (R S : X → X → Ordering)
    → ((x y : X) → is_le (R x y) ≡ true → is_le (S x y) ≡ true) → (xs : List X) → Ascends R xs
    → Ascends S xs
Ascends_weaker R S f [] h = tt
Ascends_weaker R S f (x ∷ xs) h = (all_map _ _ xs (f x) h.0, Ascends_weaker R S f xs h.1)

-- in an index's list a value of its first columns begins where the one before it ends
pub distinct_is : (cs : List IndexColumn) (rows : List Row) (k : ℕ)
    → distinct_count (take k cs) rows
    ≡ begins (agree (take k cs)) (sort_by (entry_cmp (map as_sort_column cs)) rows)
distinct_is cs rows k =
    let cmp = prefix_cmp (take k cs) in
    let total : IsTotalOrder cmp = prefix_total (take k cs) in
    let entries = sort_by (entry_cmp (map as_sort_column cs)) rows in
    sym
    (sort_count (agree (take k cs))
    (equivalence cmp total (agree (take k cs)) (agree_is (take k cs)))
    (entry_cmp (map as_sort_column cs)) rows [])
    ∙ classes_in_order cmp total (agree (take k cs)) (agree_is (take k cs)) entries
    (Ascends_weaker (entry_cmp (map as_sort_column cs)) cmp (prefix_le k cs) _
    (Ascends-sort_by (entry_cmp_total (map as_sort_column cs)) rows))

leb_suc : (n k : ℕ) → leb n k ≡ leb (suc n) (1 + k)
leb_suc n k = grind (arith, nat_tests)

leb_none : (k : ℕ) → leb (suc k) 0 ≡ false
leb_none k = lt-leb (suc k) 0 (omega arith)

agree_case : (b rest : Bool) (k n : ℕ) → rest ≡ leb k n
    → (b && rest) ≡ leb (suc k) (cond b (1 + n) 0)
agree_case true rest k n h = h ∙ leb_suc k n
agree_case false rest k n h = sym (leb_none k)

-- rows agree in k columns where they share so many
agree_by_shared : (cs : List IndexColumn) (k : ℕ) (a b : Row) → k ≤ length cs
    → agree (take k cs) a b ≡ leb k (shared_columns cs a b)
agree_by_shared cs zero a b h = sym (leb-zero (shared_columns cs a b))
agree_by_shared [] (suc k) a b h = absurd (omega arith)
agree_by_shared (c ∷ cs) (suc k) a b h =
    agree_more c (take k cs) a b
    ∙ agree_case (is_eq (values_cmp c a b)) (agree (take k cs) a b) k (shared_columns cs a b)
    (agree_by_shared cs k a b (omega arith))

turned : (k n : ℕ) → ◌≡◌ {A = ℕ} (cond (leb k n) 0 1) (cond (leb (suc n) k) 1 0)
turned k n = grind (arith, nat_tests)

-- a value of k columns begins where fewer are shared
begins_by_shared : (cs : List IndexColumn) (k : ℕ) (a b : Row) → k ≤ length cs
    → ◌≡◌ {A = ℕ} (cond (agree (take k cs) a b) 0 1)
    (cond (leb (suc (shared_columns cs a b)) k) 1 0)
begins_by_shared cs k a b h =
    ap (λ t. cond t 0 1) (agree_by_shared cs k a b h) ∙ turned k (shared_columns cs a b)

raised_few : (b : Bool) (n i : ℕ) → n ≤ i → n + cond b 1 0 ≤ i + 1
raised_few true n i h = omega arith
raised_few false n i h = omega arith

pub raised_by : (b : Bool) (n i m : ℕ) → n ≤ i → m ≡ n + cond b 1 0 → m ≤ i + 1
raised_by b n i m h e = rw e (raised_few b n i h)

-- one row further
pub changes_step : (cs : List IndexColumn) (k : ℕ) (last row : Row) (rest : List Row)
    (n m all place : ℕ)
    → k ≤ length cs → place ≡ shared_columns cs last row
    → n + changes (agree (take k cs)) last (row ∷ rest) ≡ all
    → m ≡ n + cond (leb (suc place) k) 1 0
    → m + changes (agree (take k cs)) row rest ≡ all
changes_step cs k last row rest n m all place h p told e =
    let here : ◌≡◌ {A = ℕ} (cond (agree (take k cs) last row) 0 1) (cond (leb (suc place) k) 1 0) =
    begins_by_shared cs k last row h ∙ ap (λ s. cond (leb (suc s) k) 1 0) (sym p) in
    omega (arith, told, e, here)
