-- The parts of a scan, as the code lists them.
use Rattle.std.proofs.Common.{◌≡◌, ◌^◌, ◌&&◌, ℕ, Bool, true, false, not, cond, List, [], ◌∷◌}
use Rattle.std.proofs.Common.{◌++◌, refl, ap, ap₂, sym, ◌∙◌, map, nat_eq}
use Rattle.std.specs.List.{AllByRecursion, filter, flat_map, list_any}
use Rattle.list_laws.specs.FirstComing.{has, keep_first}
use Rattle.list_laws.proofs.Lists.{filter-filter, flat_map_same}
use Rattle.sql_meaning.specs.Schemas.{IndexColumn}
use Rattle.sql_meaning.specs.Statements.{is_empty, numbers_from}
use Rattle.sql_meaning.specs.Terms as plain
use Rattle.plan_choice.specs.Scans.{named_items, is_equality, is_bound, column_at, columns_in}
use Rattle.plan_choice.specs.Scans.{same_column, apart_from, names_only, if_any, scan_of}
use Rattle.schema_model.specs.PlainSchemas.{plain_index_column}
use Rattle.schema_model.specs.declared.indexes.IndexColumn as code
use Rattle.candidate_index.specs.Starts.{has_column}
use Rattle.candidate_index.proofs.StartColumns.{has_is}
use Rattle.where_terms.specs.Marked.{IsMarked}
use Rattle.where_terms.specs.Views.{term_of}
use Rattle.where_terms.specs.declared.term.Term.{Term}
use Rattle.statement_scans.specs.Asked.{asks, columns_asked, asked_once, without}
use Rattle.statement_scans.specs.Asked.{join_if_any, joins_from}
use Rattle.statement_scans.specs.declared.asked.Asked.{Asked}
use Rattle.statement_scans.specs.declared.asked.Asked.TheVariants.{Equality, Naming, Bound}
use Rattle.statement_scans.proofs.NamedAlone.{names_none, names_one}

abbrev column_of : plain.Term → List IndexColumn
column_of t = column_at t.column t

asked_case : (t : plain.Term) (ts : List plain.Term) (b : Bool)
    → cond b (column_of t) [] ++ flat_map column_of ts
    ≡ flat_map column_of (cond b (t ∷ ts) ts)
asked_case t ts true = refl
asked_case t ts false = refl

-- what is asked of terms as the code has them is a test of terms
asked_is : (asked : Asked) (test : plain.Term → Bool)
    → ((t : Term) → IsMarked t → asks asked t ≡ test (term_of t)) → (ts : List Term)
    → AllByRecursion IsMarked ts
    → asked_once asked ts ≡ columns_in (filter test (map term_of ts))
asked_is asked test same ts marked = ap (keep_first same_column []) (all ts marked)
  where
    all : (ts : List Term) → AllByRecursion IsMarked ts
        → columns_asked asked ts ≡ flat_map column_of (filter test (map term_of ts))
    all [] marked = refl
    all (t ∷ ts) marked =
        ap₂ (λ b cs. cond b (column_of (term_of t)) [] ++ cs) (same t marked.0) (all ts marked.1)
        ∙ asked_case (term_of t) (filter test (map term_of ts)) (test (term_of t))

pub equalities_are : (ts : List Term) → AllByRecursion IsMarked ts
    → asked_once Equality ts ≡ columns_in (filter is_equality (map term_of ts))
equalities_are ts marked = asked_is Equality is_equality (λ t m. refl) ts marked

pub bounds_are : (ts : List Term) → AllByRecursion IsMarked ts
    → asked_once Bound ts ≡ columns_in (filter is_bound (map term_of ts))
bounds_are ts marked = asked_is Bound is_bound (λ t m. refl) ts marked

equal_to : (asked : Asked) (test : plain.Term → Bool)
    → ((t : Term) → IsMarked t
    → asks asked t ≡ (is_equality (term_of t) && test (term_of t))) → (ts : List Term)
    → AllByRecursion IsMarked ts
    → asked_once asked ts ≡ columns_in (filter test (filter is_equality (map term_of ts)))
equal_to asked test same ts marked =
    asked_is asked (λ t. is_equality t && test t) same ts marked
    ∙ ap columns_in (sym (filter-filter is_equality test (map term_of ts)))

pub constants_are : (ts : List Term) → AllByRecursion IsMarked ts
    → asked_once (Naming 0) ts
    ≡ columns_in
    (filter (λ t. is_empty (named_items t)) (filter is_equality (map term_of ts)))
constants_are ts marked =
    equal_to (Naming 0) (λ t. is_empty (named_items t))
    (λ t m. ap (λ b. is_equality (term_of t) && b) (names_none t m)) ts marked

pub joined_are : (item : ℕ) (ts : List Term) → AllByRecursion IsMarked ts
    → asked_once (Naming (2 ^ item)) ts
    ≡ columns_in
    (filter (λ t. names_only item (named_items t)) (filter is_equality (map term_of ts)))
joined_are item ts marked =
    equal_to (Naming (2 ^ item)) (λ t. names_only item (named_items t))
    (λ t m. ap (λ b. is_equality (term_of t) && b) (names_one t item m)) ts marked

filter_same : {X : Type 0} (p q : X → Bool) → ((x : X) → p x ≡ q x) → (xs : List X)
    → filter p xs ≡ filter q xs
filter_same p q same [] = refl
filter_same {X} p q same (x ∷ xs) =
    ap₂ (λ b (ys : List X). cond b (x ∷ ys) ys) (same x) (filter_same p q same xs)

abbrev HasNumbers : List ℕ → List code.IndexColumn → Type 0
HasNumbers numbers columns =
    (number : ℕ) → list_any (nat_eq number) numbers ≡ has_column number columns

pub apart_is : (numbers : List ℕ) (equal : List code.IndexColumn) → HasNumbers numbers equal
    → (columns : List IndexColumn)
    → without numbers columns ≡ apart_from (map plain_index_column equal) columns
apart_is numbers equal known columns =
    filter_same (λ c. not (list_any (nat_eq c.column) numbers))
    (λ c. not (has same_column (map plain_index_column equal) c))
    (λ c. ap not (known c.column ∙ sym (has_is equal c))) columns

-- the columns of each part
abbrev equal_in : List plain.Term → List IndexColumn
equal_in ts = columns_in (filter (λ t. is_empty (named_items t)) (filter is_equality ts))

abbrev one_item : List plain.Term → ℕ → List IndexColumn
one_item ts item =
    columns_in (filter (λ t. names_only item (named_items t)) (filter is_equality ts))

joins_are : (numbers : List ℕ) (equal : List code.IndexColumn) → HasNumbers numbers equal
    → (ts : List Term) → AllByRecursion IsMarked ts → (count : ℕ)
    → joins_from numbers ts count
    ≡ flat_map
    (λ item. if_any (apart_from (map plain_index_column equal) (one_item (map term_of ts) item)))
    (numbers_from 0 count)
joins_are numbers equal known ts marked count =
    flat_map_same (join_if_any numbers ts)
    (λ item. if_any (apart_from (map plain_index_column equal) (one_item (map term_of ts) item)))
    (numbers_from 0 count)
    (λ item. ap if_any
    (apart_is numbers equal known (asked_once (Naming (2 ^ item)) ts)
    ∙ ap (apart_from (map plain_index_column equal)) (joined_are item ts marked)))

pub scan_is : (table count : ℕ) (order : List IndexColumn) (ts : List Term)
    (equal : List code.IndexColumn) (numbers : List ℕ) (joined : List IndexColumn)
    (by_item : List (List IndexColumn)) (bounds : List IndexColumn)
    → AllByRecursion IsMarked ts → map plain_index_column equal ≡ asked_once (Naming 0) ts
    → HasNumbers numbers equal → joined ≡ without numbers (asked_once Equality ts)
    → by_item ≡ joins_from numbers ts count → bounds ≡ asked_once Bound ts
    → record {
      table = table;
      equal = map plain_index_column equal;
      joined = joined;
      by_item = by_item;
      bounds = bounds;
      order = order;
    } ≡ scan_of table count order (map term_of ts)
scan_is table count order ts equal numbers joined by_item bounds marked e known j i b =
    let seen = map plain_index_column equal in
    let all = map term_of ts in
    let first : seen ≡ equal_in all = e ∙ constants_are ts marked in
    let second : joined ≡ apart_from (equal_in all) (columns_in (filter is_equality all)) =
    j ∙ apart_is numbers equal known (asked_once Equality ts)
    ∙ ap₂ apart_from first (equalities_are ts marked) in
    let third : by_item ≡ flat_map (λ item. if_any (apart_from (equal_in all) (one_item all item)))
    (numbers_from 0 count) =
    i ∙ joins_are numbers equal known ts marked count
    ∙ ap (λ (cs : List IndexColumn).
    flat_map (λ item. if_any (apart_from cs (one_item all item))) (numbers_from 0 count)) first in
    let fourth : bounds ≡ columns_in (filter is_bound all) = b ∙ bounds_are ts marked in
    rw (first, second, third, fourth) refl
