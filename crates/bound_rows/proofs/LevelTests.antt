-- The tests of a level, by the conditions that are due there.
use Rattle.std.proofs.Common.{◌≡◌, ℕ, ◌+◌, Bool, true, false, cond, not, ◌||◌, ◌&&◌, Option, Some, None}
use Rattle.std.proofs.Common.{List, [], ◌∷◌, ◌++◌, refl, ap, ap₂, sym, ◌∙◌, map, ◌==◌}
use Rattle.std.specs.List.{AllByRecursion, filter, flat_map}
use Rattle.std.proofs.lemmas.List.Elements.{filter_agree}
use Rattle.list_laws.specs.Nest.{place, Step, nested}
use Rattle.list_laws.proofs.Lists.{flat_map_same}
use Rattle.list_laws.proofs.Turns.{flat_flat}
use Rattle.sql_meaning.specs.Values.{Value}
use Rattle.sql_meaning.specs.Rows.{Row, Assignment}
use Rattle.sql_meaning.specs.Items.{Item}
use Rattle.sql_meaning.specs.Schemas.{Database}
use Rattle.sql_meaning.specs.Evaluation.{holds}
use Rattle.sql_meaning.specs.Statements.{Bound, Conjunct, chosen_hold, owned_by}
use Rattle.sql_meaning.specs.Statements.{OwnersAreLeft, is_left, choices, or_missing, item_rows}
use Rattle.sql_meaning.specs.Conjuncts.{level_test, first_by}
use Rattle.sql_meaning.proofs.Plans.{owner_not, all_of_true}
use Rattle.bound_rows.specs.Levels.{all_true, due_exprs, is_due, chosen_by, level_rows, with_rows}
use Rattle.bound_rows.specs.Readable.{IsReadable, AreReadable}

test_case : (due h rest : Bool) (params : List Value) → (not due || h) && rest ≡ cond due (h && rest) rest
test_case true h rest params = refl
test_case false h rest params = refl

due_case : (due : Bool) (params : List Value) (c : Conjunct) (es : List _) (env : Assignment)
    → all_true params (cond due (c.expr ∷ es) es) env
    ≡ cond due (holds env params c.expr && all_true params es env) (all_true params es env)
due_case true params c es env = refl
due_case false params c es env = refl

-- what is tested of the conjuncts that a flag chooses
pub level_is : (owned : Bool) (params : List Value) (consumed placed : List ℕ) (item j : ℕ)
    (cs : List Conjunct) (env : Assignment)
    → level_test (chosen_by owned item) params consumed placed item j cs env
    ≡ all_true params (due_exprs owned consumed placed item j cs) env
level_is owned params consumed placed item j [] env = refl
level_is owned params consumed placed item j (c ∷ cs) env =
    let due = is_due owned consumed placed item j c in
    let es = due_exprs owned consumed placed item (j + 1) cs in
    ap (λ r. (not due || holds env params c.expr) && r)
    (level_is owned params consumed placed item (j + 1) cs env)
    ∙ test_case due (holds env params c.expr) (all_true params es env) params
    ∙ sym (due_case due params c es env)

readable_case : (database : Database) (items : List Item) (b : Bool) (c : Conjunct) (es : List _)
    → IsReadable database items c.expr → AreReadable database items es
    → AreReadable database items (cond b (c.expr ∷ es) es)
readable_case database items true c es h k = (h, k)
readable_case database items false c es h k = k

pub due_readable : (database : Database) (items : List Item) (owned : Bool)
    (consumed placed : List ℕ) (item j : ℕ) (cs : List Conjunct)
    → AllByRecursion (λ c. IsReadable database items c.expr) cs
    → AreReadable database items (due_exprs owned consumed placed item j cs)
due_readable database items owned consumed placed item j [] h = tt
due_readable database items owned consumed placed item j (c ∷ cs) h =
    readable_case database items (is_due owned consumed placed item j c) c _ h.0
    (due_readable database items owned consumed placed item (j + 1) cs h.1)

-- where no path consumes any, an owned conjunct is due at its owner
owned_case : (o : Option ℕ) (placed : List ℕ) (item : ℕ) (ns : List ℕ) (h : Bool)
    → (not (owned_by item o && (first_by placed item ns o && true)) || h)
    ≡ (not (owned_by item o) || h)
owned_case None placed item ns h = refl
owned_case (Some owner) placed item ns h = same (owner == item) h
  where
    same : (b h : Bool) → (not (b && (b && true)) || h) ≡ (not b || h)
    same true h = refl
    same false h = refl

pub owned_is : (params : List Value) (placed : List ℕ) (item j : ℕ) (cs : List Conjunct)
    (env : Assignment)
    → level_test (λ c. owned_by item c.owner) params [] placed item j cs env
    ≡ chosen_hold (λ c. owned_by item c.owner) params cs env
owned_is params placed item j [] env = refl
owned_is params placed item j (c ∷ cs) env =
    ap₂ (λ h r. h && r) (owned_case c.owner placed item _ (holds env params c.expr))
    (owned_is params placed item (j + 1) cs env)

-- an item that isn't LEFT owns nothing
pub none_due : (bound : Bound) (consumed placed : List ℕ) (item j : ℕ) (cs : List Conjunct)
    → AllByRecursion (λ c. (owner : ℕ) → c.owner ≡ Some owner → is_left bound owner ≡ true) cs
    → is_left bound item ≡ false → due_exprs true consumed placed item j cs ≡ []
none_due bound consumed placed item j [] owners h = refl
none_due bound consumed placed item j (c ∷ cs) owners h =
    let no : owned_by item c.owner ≡ false =
    owner_not bound item c.owner h owners.0 (owned_by item c.owner) refl in
    rw no (none_due bound consumed placed item (j + 1) cs owners.1 h)

-- the rows that an item has of all rows of its table
choices_case : (bound : Bound) (params : List Value) (placed : List ℕ) (item : ℕ)
    (rows : List (Option Row)) (env : Assignment) → OwnersAreLeft bound → (b : Bool)
    → is_left bound item ≡ b
    → cond b
    (or_missing
    (filter
    (λ x. chosen_hold (λ c. owned_by item c.owner) params bound.conjuncts (place env item x)) rows))
    rows
    ≡ level_rows b params (due_exprs true [] placed item 0 bound.conjuncts) item rows env
choices_case bound params placed item rows env owners true e =
    ap or_missing
    (filter_agree _ _
    (λ x. sym (owned_is params placed item 0 bound.conjuncts (place env item x))
    ∙ level_is true params [] placed item 0 bound.conjuncts (place env item x)) rows)
choices_case bound params placed item rows env owners false e =
    sym
    (ap (λ es. filter (λ x. all_true params es (place env item x)) rows)
    (none_due bound [] placed item 0 bound.conjuncts owners e)
    ∙ all_of_true _ rows (λ x. refl))

pub choices_are : (database : Database) (bound : Bound) (params : List Value) (placed : List ℕ)
    (item : ℕ) (env : Assignment) → OwnersAreLeft bound
    → choices database bound params item env
    ≡ level_rows (is_left bound item) params (due_exprs true [] placed item 0 bound.conjuncts) item
    (map Some (item_rows database bound item)) env
choices_are database bound params placed item env owners =
    choices_case bound params placed item (map Some (item_rows database bound item)) env owners
    (is_left bound item) refl

-- a step of nested loops, taken by each of some assignments
single : {X Y : Type 0} (b : Bool) (a : X) (g : X → List Y) → flat_map g (cond b (a ∷ []) [])
    ≡ cond b (g a) []
single true a g = nil_end (g a)
  where
    nil_end : {Y : Type 0} (ys : List Y) → ys ++ [] ≡ ys
    nil_end [] = refl
    nil_end (y ∷ ys) = ap (λ l. y ∷ l) (nil_end ys)
single false a g = refl

one_step : (t : Step (Option Row)) (ts : List (Step (Option Row))) (params : List Value)
    (common : List _) (rows : List (Option Row)) (env : Assignment)
    → t.walk env ≡ rows
    → ((a : Assignment) → t.test a ≡ all_true params common a)
    → flat_map (nested ts) (with_rows params common t.item rows env) ≡ nested (t ∷ ts) env
one_step t ts params common rows env walk test =
    flat_flat (nested ts)
    (λ x. cond (all_true params common (place env t.item x)) (place env t.item x ∷ []) []) rows
    ∙ flat_map_same _ _ rows
    (λ x. single (all_true params common (place env t.item x)) (place env t.item x) (nested ts)
    ∙ ap (λ b. cond b (nested ts (place env t.item x)) []) (sym (test (place env t.item x))))
    ∙ ap
    (flat_map (λ x. cond (t.test (place env t.item x)) (nested ts (place env t.item x)) []))
    (sym walk)

pub step_taken : (t : Step (Option Row)) (ts : List (Step (Option Row))) (params : List Value)
    (common : List _) (rows : Assignment → List (Option Row)) (envs : List Assignment)
    → ((env : Assignment) → t.walk env ≡ rows env)
    → ((a : Assignment) → t.test a ≡ all_true params common a)
    → flat_map (nested ts) (flat_map (λ env. with_rows params common t.item (rows env) env) envs)
    ≡ flat_map (nested (t ∷ ts)) envs
step_taken t ts params common rows envs walk test =
    flat_flat (nested ts) (λ env. with_rows params common t.item (rows env) env) envs
    ∙ flat_map_same _ _ envs (λ env. one_step t ts params common (rows env) env (walk env) test)
