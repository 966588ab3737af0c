-- What a loop tests looks at placed items alone.
use Rattle.std.specs.List.{AllByRecursion, slice_get, filter}
use Rattle.std.proofs.Common.{◌≡◌, ℕ, Bool, List, [], ◌∷◌, refl, ap, true, false, not, ◌||◌}
use Rattle.std.proofs.Common.{◌+◌, ◌&&◌, ap₂, Option, Some, None, suc, zero, ◌∙◌, subst, arith, sym}
use Rattle.std.proofs.Common.{◌==◌}
use Rattle.std.proofs.lemmas.Bool.{eqb-true}
use Rattle.list_laws.specs.Nest.{step_items, Agree, Looks}
use Rattle.list_laws.specs.Tally.{tally, SameTally}
use Rattle.list_laws.proofs.Bools.{or_cases, and_left, and_right, both_true}
use Rattle.list_laws.proofs.Lists.{all_always, all_map}
use Rattle.list_laws.proofs.Tallies.{SameTally-refl}
use Rattle.sql_meaning.specs.Values.{Value}
use Rattle.sql_meaning.specs.Truth.{truth3}
use Rattle.sql_meaning.specs.Rows.{Row, Assignment}
use Rattle.sql_meaning.specs.Schemas.{Schema, Database}
use Rattle.sql_meaning.specs.Statements.{Bound, is_common, is_empty, has_number, Conjunct, no_owner}
use Rattle.sql_meaning.specs.Statements.{chosen_hold, is_left, owned_by, OwnersAreLeft, or_missing}
use Rattle.sql_meaning.specs.Plans.{Loop, steps_of}
use Rattle.sql_meaning.specs.Conjuncts.{level_test, common_first, first_at, first_by}
use Rattle.sql_meaning.specs.Offers.{loop_items}
use Rattle.sql_meaning.specs.Expressions.{names}
use Rattle.sql_meaning.specs.Evaluation.{is_true, holds}
use Rattle.sql_meaning.proofs.Offers.{agree_in, all_in_all}
use Rattle.sql_meaning.proofs.TermsHold.{unless, rest_of}
use Rattle.sql_meaning.proofs.Evaluation.{ev_same}
use Rattle.sql_meaning.proofs.Terms.{some_is}

pub steps_items : (schema : Schema) (database : Database) (bound : Bound)
    (params : List Value) (consumed placed : List ℕ) (loops : List Loop)
    → step_items (steps_of schema database bound params consumed placed loops) ≡ loop_items loops
steps_items schema database bound params consumed placed [] = refl
steps_items schema database bound params consumed placed (l ∷ ls) =
    ap (λ is. l.item ∷ is)
    (steps_items schema database bound params consumed (l.item ∷ placed) ls)

-- a test that is not due, or that looks at the placed items and the loop's own alone
due_case : (due h k : Bool) → (due ≡ true → h ≡ k) → (not due || h) ≡ (not due || k)
due_case true h k f = f refl
due_case false h k f = refl

empty_named : (ns : List ℕ) → is_empty ns ≡ true → (env a : Assignment) → Agree ns env a
empty_named [] h env a = tt
empty_named (n ∷ ns) h env a = absurd (cc)

common_named : (placed : List ℕ) (item : ℕ) (ns : List ℕ) (env a : Assignment)
    → common_first placed item ns ≡ true → Agree (item ∷ placed) env a → Agree ns env a
common_named placed item ns env a h agrees =
    or_cases _ _
    (λ e. agree_in (item ∷ placed) env a ns agrees
    (all_in_all ns (item ∷ placed) (and_right (has_number item ns) _ e)))
    (λ e. empty_named ns (and_left _ (is_empty placed) e) env a) h

-- chosen conjuncts that are first evaluated at a level look at the placed items and the loop's own
-- alone
abbrev pub LooksAt : (Conjunct → Bool) → List ℕ → ℕ → List Conjunct → Type 0
LooksAt chosen placed item cs =
    AllByRecursion
    (λ c. chosen c ≡ true → first_at placed item c ≡ true → (env a : Assignment)
    → Agree (item ∷ placed) env a → Agree (names c.expr) env a) cs

pub test_looks : (chosen : Conjunct → Bool) (params : List Value) (consumed placed : List ℕ)
    (item j : ℕ) (cs : List Conjunct)
    → LooksAt chosen placed item cs
    → Looks (item ∷ placed) (level_test chosen params consumed placed item j cs)
test_looks chosen params consumed placed item j [] l env a h = refl
test_looks chosen params consumed placed item j (c ∷ cs) l env a h =
    ap₂ (λ x y. x && y)
    (due_case (chosen c && (first_at placed item c && not (has_number j consumed)))
    (holds a params c.expr) (holds env params c.expr)
    (λ due. ap (λ v. is_true (truth3 v))
    (ev_same params c.expr env a
    (l.0 (and_left _ _ due) (and_left _ _ (and_right (chosen c) _ due)) env a h))))
    (test_looks chosen params consumed placed item (j + 1) cs l.1 env a h)

owner_case : (o : Option ℕ) (placed : List ℕ) (item : ℕ) (ns : List ℕ) (env a : Assignment)
    → no_owner o ≡ true → first_by placed item ns o ≡ true → Agree (item ∷ placed) env a
    → Agree ns env a
owner_case None placed item ns env a c h agrees = common_named placed item ns env a h agrees
owner_case (Some owner) placed item ns env a c h agrees = absurd (cc)

pub common_looks : (placed : List ℕ) (item : ℕ) (cs : List Conjunct)
    → LooksAt is_common placed item cs
common_looks placed item cs =
    all_always _ cs
    (λ c chosen first env a agrees. owner_case c.owner placed item
    (names c.expr) env a chosen first agrees)

-- a level's test holds where all the chosen conjuncts do
pub test_from : (chosen : Conjunct → Bool) (params : List Value) (consumed placed : List ℕ)
    (item j : ℕ) (cs : List Conjunct) (env : Assignment)
    → chosen_hold chosen params cs env ≡ true
    → level_test chosen params consumed placed item j cs env ≡ true
test_from chosen params consumed placed item j [] env h = refl
test_from chosen params consumed placed item j (c ∷ cs) env h =
    both_true _ _
    (weaken (chosen c) (first_at placed item c && not (has_number j consumed))
    (holds env params c.expr) (and_left _ (chosen_hold chosen params cs env) h))
    (test_from chosen params consumed placed item (j + 1) cs env
    (and_right (not (chosen c) || holds env params c.expr) _ h))
  where
    weaken : (c d h : Bool) → (not c || h) ≡ true → (not (c && d) || h) ≡ true
    weaken true true h e = e
    weaken true false h e = refl
    weaken false d h e = refl

-- and a conjunct that is due holds where the test does
pub test_at : (chosen : Conjunct → Bool) (params : List Value) (consumed placed : List ℕ)
    (item j : ℕ) (cs : List Conjunct) (env : Assignment) (number : ℕ) (c : Conjunct)
    → level_test chosen params consumed placed item j cs env ≡ true → slice_get cs number ≡ Some c
    → chosen c ≡ true → first_at placed item c ≡ true → has_number (j + number) consumed ≡ false
    → holds env params c.expr ≡ true
test_at chosen params consumed placed item j [] env number c h e t f n = absurd (cc)
test_at chosen params consumed placed item j (d ∷ cs) env zero c h e t f n =
    let is = some_is d c e in
    let here : has_number j consumed ≡ false = ap (λ m. has_number m consumed) (plain j) ∙ n in
    subst (λ (z : Conjunct). holds env params z.expr ≡ true) is
    (unless (chosen d && (first_at placed item d && not (has_number j consumed)))
    (holds env params d.expr) _ h
    (both_true _ _ (ap chosen is ∙ t)
    (both_true _ _ (ap (first_at placed item) is ∙ f) (ap not here))))
  where
    plain : (j : ℕ) → j ≡ j + 0
    plain j = omega arith
test_at chosen params consumed placed item j (d ∷ cs) env (suc number) c h e t f n =
    test_at chosen params consumed placed item (j + 1) cs env number c
    (rest_of (chosen d && (first_at placed item d && not (has_number j consumed)))
    (holds env params d.expr) _ h) e t f (ap (λ m. has_number m consumed) (shift j number) ∙ n)
  where
    shift : (j n : ℕ) → j + 1 + n ≡ j + suc n
    shift j n = omega arith

pub chosen_weaken : (p q : Conjunct → Bool) → ((c : Conjunct) → p c ≡ true → q c ≡ true)
    → (params : List Value) (cs : List Conjunct) (env : Assignment)
    → chosen_hold q params cs env ≡ true → chosen_hold p params cs env ≡ true
chosen_weaken p q f params [] env h = refl
chosen_weaken p q f params (c ∷ cs) env h =
    both_true _ _
    (weaken (p c) (q c) (holds env params c.expr) (f c)
    (and_left _ (chosen_hold q params cs env) h))
    (chosen_weaken p q f params cs env (and_right (not (q c) || holds env params c.expr) _ h))
  where
    weaken : (p q h : Bool) → (p ≡ true → q ≡ true) → (not q || h) ≡ true → (not p || h) ≡ true
    weaken true q h f e = subst (λ (b : Bool). (not b || h) ≡ true) (f refl) e
    weaken false q h f e = refl

-- none is chosen
pub chosen_none : (p : Conjunct → Bool) (params : List Value) (cs : List Conjunct)
    (env : Assignment)
    → AllByRecursion (λ c. p c ≡ false) cs → chosen_hold p params cs env ≡ true
chosen_none p params [] env h = refl
chosen_none p params (c ∷ cs) env h =
    both_true _ _ (ap (λ b. not b || holds env params c.expr) h.0) (chosen_none p params cs env h.1)

pub chosen_from : (p : Conjunct → Bool) (params : List Value) (cs : List Conjunct)
    (env : Assignment)
    → ((number : ℕ) (c : Conjunct) → slice_get cs number ≡ Some c → p c ≡ true
    → holds env params c.expr ≡ true)
    → chosen_hold p params cs env ≡ true
chosen_from p params [] env f = refl
chosen_from p params (c ∷ cs) env f =
    both_true _ _ (given (p c) (holds env params c.expr) (f 0 c refl))
    (chosen_from p params cs env (λ number d e t. f (suc number) d e t))
  where
    given : (p h : Bool) → (p ≡ true → h ≡ true) → (not p || h) ≡ true
    given true h f = f refl
    given false h f = refl

pub all_of_true : {X : Type 0} (p : X → Bool) (xs : List X) → ((x : X) → p x ≡ true)
    → filter p xs ≡ xs
all_of_true p [] f = refl
all_of_true p (x ∷ xs) f = rw (f x, all_of_true p xs f) refl

-- no conjunct is owned by an item that isn't LEFT
pub owner_not : (bound : Bound) (item : ℕ) (o : Option ℕ) → is_left bound item ≡ false
    → ((owner : ℕ) → o ≡ Some owner → is_left bound owner ≡ true) → (b : Bool) → owned_by item o ≡ b
    → b ≡ false
owner_not bound item o h f false e = refl
owner_not bound item None h f true e = absurd (cc)
owner_not bound item (Some owner) h f true e =
    let same : owner ≡ item = eqb-true owner item e in let yes : is_left bound item ≡ true =
    ap (is_left bound) (sym same) ∙ f owner refl in absurd (cc)

pub none_owned : (bound : Bound) (item : ℕ) → OwnersAreLeft bound → is_left bound item ≡ false
    → (params : List Value) (env : Assignment)
    → chosen_hold (λ c. owned_by item c.owner) params bound.conjuncts env ≡ true
none_owned bound item own h params env =
    chosen_none _ params bound.conjuncts env
    (all_map _ _ bound.conjuncts
    (λ c f. owner_not bound item c.owner h f (owned_by item c.owner) refl) own)

pub missing_same : (xs ys : List (Option Row)) → SameTally xs ys
    → SameTally (or_missing xs) (or_missing ys)
missing_same [] [] h = h'
  where
    h' : SameTally (or_missing []) (or_missing [])
    h' = SameTally-refl _
missing_same (x ∷ xs) (y ∷ ys) h = h
missing_same [] (y ∷ ys) h =
    let e : 0 ≡ 1 + tally (λ z. 1) ys = h.each (λ z. 1) in absurd (omega arith)
missing_same (x ∷ xs) [] h =
    let e : 1 + tally (λ z. 1) xs ≡ 0 = h.each (λ z. 1) in absurd (omega arith)

pub has_all : (P : ℕ → Type 0) (ns : List ℕ) (n : ℕ) → AllByRecursion P ns → has_number n ns ≡ true
    → P n
has_all P [] n h e = absurd (cc)
has_all P (m ∷ ms) n h e =
    or_cases (n == m) (has_number n ms) (λ t. subst P (sym (eqb-true n m t)) h.0)
    (λ t. has_all P ms n h.1 t) e
