-- A row that is placed, and places that fit.
use Rattle.std.proofs.Common.{◌≡◌, ◌<◌, ℕ, zero, suc, Bool, true, false, cond, Option, Some, List, [], ◌∷◌}
use Rattle.std.proofs.Common.{◌++◌, ap, sym, ◌∙◌, map, length, arith, subst, set}
use Rattle.std.proofs.Common.{append_assoc}
use Rattle.std.specs.Prelude.{slice_get}
use Rattle.std.specs.List.{AllByRecursion, filter}
use Rattle.std.proofs.lemmas.List.{map-set, set-set}
use Rattle.list_laws.specs.Nest.{place}
use Rattle.list_laws.proofs.Lists.{all_map, all_append}
use Rattle.sql_meaning.specs.Values.{Value}
use Rattle.sql_meaning.specs.Rows.{Row, Assignment}
use Rattle.sql_meaning.specs.Items.{Item}
use Rattle.sql_meaning.specs.Expressions.{BExpr}
use Rattle.sql_meaning.specs.Schemas.{Database}
use Rattle.sql_bound.specs.Statements.{item_of}
use Rattle.sql_bound.specs.declared.statement.BItem.{BItem}
use Rattle.sql_eval.specs.Environments.{placed, placed_row, HasRows}
use Rattle.sql_eval.specs.declared.environment.Place.{Place}
use Rattle.bound_rows.specs.Levels.{all_true, with_rows}
use Rattle.bound_rows.specs.Places.{FitPlaces, FitsItem, row_at}
use Rattle.bound_rows.specs.Places.{assignments}
use Rattle.bound_rows.specs.Readable.{AreReadable}
use Rattle.bound_rows.proofs.DueExprs.{seen_pushed}

pub fit_below : (database : Database) (items : List BItem) (places : List Place) (i : ℕ)
    → FitPlaces database (map item_of items) places → i < length items → i < length places
fit_below database [] [] i fit lt = lt
fit_below database [] (place ∷ places) i fit lt = absurd fit
fit_below database (item ∷ items) [] i fit lt = absurd fit
fit_below database (item ∷ items) (place ∷ places) zero fit lt = omega arith
fit_below database (item ∷ items) (place ∷ places) (suc i) fit lt =
    let below : i < length places = fit_below database items places i fit.1 (omega (arith, lt)) in
    omega (arith, below)

some_same : {X : Type 0} (x y : X) → Some x ≡ Some y → x ≡ y
some_same x y e = cc

pub fit_set : (database : Database) (items : List Item) (places : List Place) (i : ℕ) (item : Item)
    (p : Place) → slice_get items i ≡ Some item → FitsItem database item p
    → FitPlaces database items places → FitPlaces database items (set places i p)
fit_set database [] [] i item p at fits fit = tt
fit_set database [] (q ∷ places) i item p at fits fit = absurd fit
fit_set database (j ∷ items) [] i item p at fits fit = absurd fit
fit_set database (j ∷ items) (q ∷ places) zero item p at fits fit =
    (subst (λ (k : Item). FitsItem database k p) (sym (some_same j item at)) fits, fit.1)
fit_set database (j ∷ items) (q ∷ places) (suc i) item p at fits fit =
    (fit.0, fit_set database items places i item p at fits fit.1)

pub readable_gives : (database : Database) (items : List Item) (places : List Place)
    (es : List BExpr) → AreReadable database items es → FitPlaces database items places
    → AllByRecursion (HasRows database places) es
readable_gives database items places es readable fit =
    all_map _ _ es (λ e r. r.gives places fit) readable

-- the row that is placed
pub placed_set : (database : Database) (places : List Place) (i table : ℕ) (row : Option ℕ)
    → placed database (set places i (record { table = table; row = row }))
    ≡ place (placed database places) i (row_at database table row)
placed_set database places i table row = map-set (λ p. Some (placed_row database p)) places i _

-- what stood at the place makes no difference
pub others_still : (outer before new : List Place) (i : ℕ) (q : Place)
    → ((p : Place) → set before i p ≡ set outer i p) → new ≡ set before i q
    → (p : Place) → set new i p ≡ set outer i p
others_still outer before new i q others e p =
    ap (λ l. set l i p) e ∙ set-set before i q p ∙ others p

pub truth_with : (database : Database) (params : List Value) (es : List BExpr)
    (outer before new : List Place) (i table : ℕ) (row : Option ℕ) (r : Bool)
    → ((p : Place) → set before i p ≡ set outer i p)
    → new ≡ set before i (record { table = table; row = row })
    → r ≡ all_true params es (placed database new)
    → r ≡ all_true params es (place (placed database outer) i (row_at database table row))
truth_with database params es outer before new i table row r others e h =
    h
    ∙ ap (λ l. all_true params es (placed database l))
    (e ∙ others (record { table = table; row = row }))
    ∙ ap (all_true params es) (placed_set database outer i table row)

fit_case : {X : Type 0} (P : X → Type 0) (b : Bool) (old : List X) (x : X) → P x
    → AllByRecursion P old → AllByRecursion P (cond b (old ++ x ∷ []) old)
fit_case P true old x p h = all_append P old (x ∷ []) h (p, tt)
fit_case P false old x p h = h

pub fit_more : {X : Type 0} (P : X → Type 0) (b : Bool) (old new : List X) (x : X)
    → new ≡ cond b (old ++ x ∷ []) old → P x → AllByRecursion P old → AllByRecursion P new
fit_more P b old new x e p h = subst (λ (l : List _). AllByRecursion P l) (sym e) (fit_case P b old x p h)

turn_case : {Y : Type 0} (b : Bool) (before rest all : List Y) (y : Y)
    → before ++ cond b (y ∷ rest) rest ≡ all → cond b (before ++ y ∷ []) before ++ rest ≡ all
turn_case true before rest all y h = append_assoc before (y ∷ []) rest ∙ h
turn_case false before rest all y h = h

-- one row further of a filter
pub kept_more : {X Y : Type 0} (seen : X → Y) (f : Y → Bool) (xs : List X) (x : X)
    (rest : List X) (b : Bool) (old new : List X) (all : List Y)
    → xs ≡ x ∷ rest → b ≡ f (seen x) → new ≡ cond b (old ++ x ∷ []) old
    → map seen old ++ filter f (map seen xs) ≡ all
    → map seen new ++ filter f (map seen rest) ≡ all
kept_more seen f xs x rest b old new all split test e h =
    let later = filter f (map seen rest) in
    ap (λ l. l ++ later) (ap (map seen) e ∙ seen_pushed seen b old x)
    ∙ turn_case b (map seen old) later all (seen x)
    (ap (λ t. map seen old ++ cond t (seen x ∷ later) later) test
    ∙ ap (λ l. map seen old ++ filter f (map seen l)) (sym split) ∙ h)

with_case : {Y : Type 0} (b : Bool) (before rest all : List Y) (y : Y)
    → before ++ (cond b (y ∷ []) [] ++ rest) ≡ all → cond b (before ++ y ∷ []) before ++ rest ≡ all
with_case true before rest all y h = append_assoc before (y ∷ []) rest ∙ h
with_case false before rest all y h = h

-- one row further of what is found
pub found_more : (database : Database) (params : List Value) (common : List BExpr) (item : ℕ)
    (env : Assignment) (x : Option Row) (rest : List (Option Row)) (b : Bool)
    (old new : List (List Place)) (places : List Place) (all : List Assignment)
    → placed database places ≡ place env item x
    → b ≡ all_true params common (place env item x)
    → new ≡ cond b (old ++ places ∷ []) old
    → assignments database old ++ with_rows params common item (x ∷ rest) env ≡ all
    → assignments database new ++ with_rows params common item rest env ≡ all
found_more database params common item env x rest b old new places all is test e h =
    let later = with_rows params common item rest env in
    ap (λ l. l ++ later)
    (ap (assignments database) e ∙ seen_pushed (placed database) b old places
    ∙ ap (λ p. cond b (assignments database old ++ p ∷ []) (assignments database old)) is)
    ∙ with_case b (assignments database old) later all (place env item x)
    (ap (λ t. assignments database old ++ (cond t (place env item x ∷ []) [] ++ later)) test ∙ h)
