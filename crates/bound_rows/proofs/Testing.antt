-- Levels of a statement, and the places that its rows begin with.
use Rattle.std.proofs.Common.{◌≡◌, ◌<◌, ℕ, zero, suc, ◌+◌, ◌-◌, List, [], ◌∷◌, refl, ap, sym, ◌∙◌}
use Rattle.std.proofs.Common.{map, length, arith, subst, Some, None, true, false, append-nil}
use Rattle.std.specs.Prelude.{replicate, slice_get, slice_index_or, ◌^◌, Option, Bool}
use Rattle.std.specs.List.{AllByRecursion, flat_map}
use Rattle.std.proofs.lemmas.List.{length-map}
use Rattle.list_laws.specs.Nest.{nested}
use Rattle.sql_meaning.specs.Values.{Value}
use Rattle.sql_meaning.specs.Rows.{Row, Assignment}
use Rattle.sql_meaning.specs.Schemas.{Database}
use Rattle.sql_meaning.specs.Expressions.{BExpr}
use Rattle.sql_meaning.specs.Items.{Item}
use Rattle.sql_meaning.specs.Statements.{Bound, table_of, OwnersAreLeft, is_left, item_rows, numbers_from}
use Rattle.schema_model.specs.PlainSchemas.{plain_database, plain_rows}
use Rattle.schema_model.specs.declared.rows.Row.{Row as HeldRow}
use Rattle.sql_bound.specs.Statements.{bound_of, item_of}
use Rattle.sql_bound.specs.declared.statement.BItem.{BItem}
use Rattle.sql_bound.specs.declared.statement.Bound.{Bound as BorrowedBound}
use Rattle.sql_eval.specs.Environments.{placed}
use Rattle.bound_rows.specs.Answers.{HasFewRows}
use Rattle.bound_rows.specs.Levels.{Marks, item_steps, items_before, due_exprs, with_rows, level_rows}
use Rattle.bound_rows.specs.Places.{FitPlaces, empty_places, row_at, rows_at}
use Rattle.bound_rows.specs.Readable.{AreReadable, IsReadable, lent_exprs}
use Rattle.bound_rows.specs.Tested.{IsTestable, level_table}
use Rattle.bound_rows.specs.declared.levels.Level.{Level}
use Rattle.bound_rows.proofs.LevelTests.{choices_are, due_readable, level_is, step_taken}

testable : (database : Database) (level : Level) (bound : BorrowedBound) (n : ℕ)
    → level.bound.now ≡ bound → level.item ≡ n → n < length bound.items.now
    → AreReadable database (bound_of bound).items (lent_exprs level.owned.items)
    → AreReadable database (bound_of bound).items (lent_exprs level.common.items)
    → IsTestable database level
testable database level bound n is at lt owned common = record {
  item = subst (λ (b : BorrowedBound). level.item < length b.items.now) (sym is)
      (subst (λ (m : ℕ). m < length bound.items.now) (sym at) lt);
  owned = subst
      (λ (b : BorrowedBound). AreReadable database (bound_of b).items (lent_exprs level.owned.items))
      (sym is) owned;
  common = subst
      (λ (b : BorrowedBound). AreReadable database (bound_of b).items (lent_exprs level.common.items))
      (sym is) common;
}

-- what is due at an item can be evaluated, where all conjuncts can
pub due_testable : (database : Database) (level : Level) (bound : BorrowedBound)
    (consumed placed : List ℕ) (n : ℕ)
    → level.bound.now ≡ bound → level.item ≡ n → n < length bound.items.now
    → lent_exprs level.owned.items ≡ due_exprs true consumed placed n 0 (bound_of bound).conjuncts
    → lent_exprs level.common.items ≡ due_exprs false consumed placed n 0 (bound_of bound).conjuncts
    → AllByRecursion (λ c. IsReadable database (bound_of bound).items c.expr)
    (bound_of bound).conjuncts
    → IsTestable database level
due_testable database level bound consumed placed n is at lt owned common readable =
    testable database level bound n is at lt (due true owned) (due false common)
  where
    due : (b : Bool) {es : List BExpr} → es ≡ due_exprs b consumed placed n 0 (bound_of bound).conjuncts
        → AreReadable database (bound_of bound).items es
    due b e =
        subst (λ (l : List BExpr). AreReadable database (bound_of bound).items l) (sym e)
        (due_readable database (bound_of bound).items b consumed placed n 0
        (bound_of bound).conjuncts readable)

pub empty_fit : (database : Database) (items : List BItem)
    → FitPlaces database (map item_of items) (empty_places items)
empty_fit database [] = tt
empty_fit database (item ∷ items) = (record { table = refl; row = tt }, empty_fit database items)

pub empty_placed : (database : Database) (items : List BItem)
    → placed database (empty_places items) ≡ replicate (length (map item_of items)) (Some None)
empty_placed database [] = refl
empty_placed database (item ∷ items) = ap (λ l. Some None ∷ l) (empty_placed database items)

pub flat_one : {X Y : Type 0} (f : X → List Y) (x : X) → flat_map f (x ∷ []) ≡ f x
flat_one f x = append-nil (f x)

pub flat_last : {X : Type 0} (xs : List (List X)) → flat_map (λ a. a ∷ []) xs ≡ xs
flat_last [] = refl
flat_last (x ∷ xs) = ap (λ l. x ∷ l) (flat_last xs)

numbers_next : (n total : ℕ) → n < total
    → numbers_from n (total - n) ≡ n ∷ numbers_from (n + 1) (total - (n + 1))
numbers_next n total lt =
    let e : total - n ≡ suc (total - (n + 1)) = omega (arith, lt) in
    ap (numbers_from n) e

-- the step of one item more
pub item_taken : (database : Database) (bound : Bound) (params : List Value) (n total : ℕ)
    (owned common : List BExpr) (envs found all : List Assignment)
    → OwnersAreLeft bound → n < total
    → owned ≡ due_exprs true [] (items_before n) n 0 bound.conjuncts
    → common ≡ due_exprs false [] (items_before n) n 0 bound.conjuncts
    → found ≡ flat_map
    (λ env. with_rows params common n
    (level_rows (is_left bound n) params owned n (map Some (item_rows database bound n)) env) env)
    envs
    → flat_map
    (nested (item_steps database bound params (items_before n) (numbers_from n (total - n)))) envs
    ≡ all
    → flat_map
    (nested
    (item_steps database bound params (items_before (n + 1))
    (numbers_from (n + 1) (total - (n + 1))))) found ≡ all
item_taken database bound params n total owned common envs found all owners lt own shared e h =
    let before : items_before (n + 1) ≡ n ∷ items_before n =
    ap items_before (let s : n + 1 ≡ suc n = omega arith in s) in
    let later = numbers_from (n + 1) (total - (n + 1)) in
    ap (λ ps. flat_map (nested (item_steps database bound params ps later)) found) before
    ∙ ap (flat_map (nested (item_steps database bound params (n ∷ items_before n) later))) e
    ∙ step_taken (record {
      item = n;
      walk = _;
      test = _;
    }) (item_steps database bound params (n ∷ items_before n) later) params common
    (λ env. level_rows (is_left bound n) params owned n (map Some (item_rows database bound n)) env)
    envs
    (λ env. choices_are database bound params (items_before n) n env owners
    ∙ ap
    (λ es. level_rows (is_left bound n) params es n (map Some (item_rows database bound n)) env)
    (sym own))
    (λ a. level_is false params [] (items_before n) n 0 bound.conjuncts a
    ∙ ap (λ es. Rattle.bound_rows.specs.Levels.all_true params es a) (sym shared))
    ∙ ap
    (λ ns. flat_map (nested (item_steps database bound params (items_before n) ns)) envs)
    (sym (numbers_next n total lt))
    ∙ h

numbers_under : (start n total : ℕ) → start + n ≡ total
    → AllByRecursion (λ j. j < total) (numbers_from start n)
numbers_under start zero total h = tt
numbers_under start (suc n) total h =
    (omega (arith, h), numbers_under (start + 1) n total (omega (arith, h)))

pub numbers_within : (n total : ℕ) (numbers : List ℕ) → numbers ≡ numbers_from 0 n → n ≡ total
    → AllByRecursion (λ j. j < total) numbers
numbers_within n total numbers e f =
    subst (λ (l : List ℕ). AllByRecursion (λ j. j < total) l) (sym e)
    (numbers_under 0 n total (omega (arith, f)))

rows_from : (f : ℕ → Option Row) (start : ℕ) (rows : List Row)
    → ((k : ℕ) → f (start + k) ≡ slice_get rows k)
    → map f (numbers_from start (length rows)) ≡ map Some rows
rows_from f start [] h = refl
rows_from f start (row ∷ rows) h =
    let here : start + 0 ≡ start = omega arith in
    let first : f start ≡ Some row = ap f (sym here) ∙ h 0 in
    rw first
    (ap (λ l. Some row ∷ l)
    (rows_from f (start + 1) rows
    (λ k. let next : (start + 1) + k ≡ start + suc k = omega arith in ap f next ∙ h (suc k))))

map_map : {X Y Z : Type 0} (g : Y → Z) (f : X → Y) (xs : List X)
    → map g (map f xs) ≡ map (λ x. g (f x)) xs
map_map g f [] = refl
map_map g f (x ∷ xs) = ap (λ l. g (f x) ∷ l) (map_map g f xs)

pub rows_numbered : (database : Database) (table n : ℕ) (numbers : List ℕ)
    → numbers ≡ numbers_from 0 n → n ≡ length (slice_index_or database table [])
    → rows_at database table (map Some numbers) ≡ map Some (slice_index_or database table [])
rows_numbered database table n numbers e f =
    ap (λ l. rows_at database table (map Some l)) (e ∙ ap (numbers_from 0) f)
    ∙ map_map (row_at database table) Some (numbers_from 0 (length (slice_index_or database table [])))
    ∙ rows_from (λ k. row_at database table (Some k)) 0 (slice_index_or database table [])
    (λ k. let e : 0 + k ≡ k = omega arith in
    ap (slice_get (slice_index_or database table [])) e)

pub rows_counted : (database : Database) (table : ℕ) (rows : List HeldRow)
    → plain_rows rows ≡ slice_index_or database table []
    → length rows ≡ length (slice_index_or database table [])
rows_counted database table rows e =
    sym (length-map rows _) ∙ ap length e

pub few_at : (tables : List (List HeldRow)) (table : ℕ) (rows : List HeldRow) → HasFewRows tables
    → table < length tables → plain_rows rows ≡ slice_index_or (plain_database tables) table []
    → length rows < 2 ^ 32
few_at [] table rows few lt e = absurd (omega (arith, lt))
few_at (t ∷ tables) zero rows few lt e =
    subst (λ (n : ℕ). n < 2 ^ 32)
    (sym (sym (length-map rows _) ∙ ap length e ∙ length-map t _)) few.0
few_at (t ∷ tables) (suc table) rows few lt e =
    few_at tables table rows few.1 (omega (arith, lt)) e

pub before_next : (n : ℕ) → items_before (n + 1) ≡ n ∷ items_before n
before_next n = ap items_before (let s : n + 1 ≡ suc n = omega arith in s)

table_below : (items : List Item) (n size : ℕ)
    → AllByRecursion (λ i. i.table < size) items → n < length items
    → table_of (slice_get items n) < size
table_below [] n size h lt = absurd (omega (arith, lt))
table_below (i ∷ items) zero size h lt = h.0
table_below (i ∷ items) (suc n) size h lt = table_below items n size h.1 (omega (arith, lt))

pub table_there : (size : ℕ) (level : Level) (bound : BorrowedBound) (n : ℕ)
    → level.bound.now ≡ bound → level.item ≡ n → n < length bound.items.now
    → AllByRecursion (λ i. i.table < size) (bound_of bound).items → level_table level < size
table_there size level bound n is at lt h =
    subst (λ (b : BorrowedBound). table_of (slice_get (bound_of b).items level.item) < size) (sym is)
    (subst (λ (m : ℕ). table_of (slice_get (bound_of bound).items m) < size) (sym at)
    (table_below (bound_of bound).items n size h
    (subst (λ (k : ℕ). n < k) (sym (length-map bound.items.now item_of)) lt)))

pub no_marks : Marks [] []
no_marks = record { each = λ number. refl }
