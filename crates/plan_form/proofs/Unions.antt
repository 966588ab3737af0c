-- The rows of a union at their first coming, by the rowids that came before.
use Rattle.std.proofs.Common.{◌≡◌, ℤ, Bool, true, false, cond, not, ◌||◌, List, [], ◌∷◌, ◌++◌, refl, ap, ap₂}
use Rattle.std.proofs.Common.{sym, ◌∙◌, map, append_assoc, if◌then◌else◌}
use Rattle.std.specs.List.{list_any}
use Rattle.std.specs.Ordering.{int_cmp, int_eq, is_eq}
use Rattle.std.proofs.lemmas.Cmp.{int_eq_equiv}
use Rattle.list_laws.specs.FirstComing.{has, keep_first}
use Rattle.sql_meaning.specs.Rows.{Row}
use Rattle.sql_meaning.specs.Paths.{same_rowid}

-- rows of these rowids
abbrev pub rows_of : List ℤ → List Row
rows_of rowids = map (λ rowid. record { rowid = rowid; values = [] }) rowids

abbrev pub inserted : List ℤ → ℤ → List ℤ
inserted rowids rowid = if list_any (int_eq rowid) rowids then rowids else rowids ++ rowid ∷ []

same_is : (a b : ℤ) → is_eq (int_cmp a b) ≡ int_eq a b
same_is a b = refl

has_is : (rowids : List ℤ) (row : Row)
    → has same_rowid (rows_of rowids) row ≡ list_any (int_eq row.rowid) rowids
has_is [] row = refl
has_is (rowid ∷ rowids) row =
    ap₂ (λ a b. a || b) (same_is rowid row.rowid ∙ turned rowid row.rowid) (has_is rowids row)
  where
    turned : (a b : ℤ) → int_eq a b ≡ int_eq b a
    turned a b = int_eq_equiv.symm a b

has_end : (rows : List Row) (y x : Row) → has same_rowid (rows ++ y ∷ []) x
    ≡ has same_rowid (y ∷ rows) x
has_end [] y x = refl
has_end (r ∷ rows) y x =
    ap (λ b. same_rowid r x || b) (has_end rows y x)
    ∙ swap (same_rowid r x) (same_rowid y x) (has same_rowid rows x)
  where
    swap : (a b c : Bool) → (a || (b || c)) ≡ (b || (a || c))
    swap true true c = refl
    swap true false c = refl
    swap false b c = refl

-- what is kept depends on what the seen rows have alone
keep_same : (xs s t : List Row) → ((v : Row) → has same_rowid s v ≡ has same_rowid t v)
    → keep_first same_rowid s xs ≡ keep_first same_rowid t xs
keep_same [] s t h = refl
keep_same (x ∷ xs) s t h =
    ap₂ (λ b l. cond b (keep_first same_rowid s xs) (x ∷ l)) (h x)
    (keep_same xs (x ∷ s) (x ∷ t) (λ v. ap (λ b. same_rowid x v || b) (h v)))
    ∙ ap (λ l. cond (has same_rowid t x) l (x ∷ keep_first same_rowid (x ∷ t) xs))
    (keep_same xs s t h)

rows_more : (rowids : List ℤ) (rowid : ℤ)
    → rows_of (rowids ++ rowid ∷ []) ≡ rows_of rowids ++ record { rowid = rowid; values = [] } ∷ []
rows_more [] rowid = refl
rows_more (r ∷ rowids) rowid =
    ap (λ l. record { rowid = r; values = [] } ∷ l) (rows_more rowids rowid)

seen_same : (rowids : List ℤ) (x : Row) (xs : List Row)
    → keep_first same_rowid (x ∷ rows_of rowids) xs
    ≡ keep_first same_rowid (rows_of (rowids ++ x.rowid ∷ [])) xs
seen_same rowids x xs =
    keep_same xs _ _
    (λ v. sym (has_end (rows_of rowids) (record { rowid = x.rowid; values = [] }) v)
    ∙ ap (λ l. has same_rowid l v) (sym (rows_more rowids x.rowid)))

turn : (b : Bool) (rowids : List ℤ) (before xs all : List Row) (x : Row)
    → before
    ++ cond b (keep_first same_rowid (rows_of rowids) xs)
    (x ∷ keep_first same_rowid (x ∷ rows_of rowids) xs) ≡ all
    → cond (not b) (before ++ x ∷ []) before
    ++ keep_first same_rowid
    (rows_of (if b then rowids else rowids ++ x.rowid ∷ [])) xs ≡ all
turn true rowids before xs all x h = h
turn false rowids before xs all x h =
    append_assoc before (x ∷ []) _
    ∙ ap (λ l. before ++ x ∷ l) (sym (seen_same rowids x xs)) ∙ h

-- one row further
pub comings_more : (rowids new_rowids : List ℤ) (new : Bool) (before after all xs : List Row) (x : Row)
    → new ≡ not (list_any (int_eq x.rowid) rowids)
    → new_rowids ≡ inserted rowids x.rowid
    → after ≡ cond new (before ++ x ∷ []) before
    → before ++ keep_first same_rowid (rows_of rowids) (x ∷ xs) ≡ all
    → after ++ keep_first same_rowid (rows_of new_rowids) xs ≡ all
comings_more rowids new_rowids new before after all xs x is keys pushed h =
    ap₂ (λ l ks. l ++ keep_first same_rowid (rows_of ks) xs)
    (pushed ∙ ap (λ b. cond b (before ++ x ∷ []) before) is) keys
    ∙ turn (list_any (int_eq x.rowid) rowids) rowids before xs all x
    (ap
    (λ b. before
    ++ cond b (keep_first same_rowid (rows_of rowids) xs)
    (x ∷ keep_first same_rowid (x ∷ rows_of rowids) xs)) (sym (has_is rowids x)) ∙ h)
