-- No row of an answer fails a loop, and what all loops keep meets every common conjunct.
use Rattle.std.specs.List.{slice_get, AllByRecursion}
use Rattle.std.proofs.Common.{◌≡◌, ℕ, Bool, true, false, cond, not, List, refl, ap, sym, ◌∙◌, []}
use Rattle.std.proofs.Common.{◌∷◌, ◌||◌, ◌==◌, ◌++◌, Option, Some, None, inl, inr, ◌&&◌, zero-add}
use Rattle.std.proofs.Common.{◌≢◌}
use Rattle.std.proofs.lemmas.Bool.{eqb-true, eq-eqb}
use Rattle.list_laws.specs.Nest.{kept}
use Rattle.list_laws.proofs.Lists.{all_map}
use Rattle.list_laws.proofs.Bools.{and_left, both_true, and_right, or_cases, or_assoc}
use Rattle.list_laws.proofs.Bools.{or_false_left, or_false_right, never_true}
use Rattle.sql_meaning.specs.Values.{Value}
use Rattle.sql_meaning.specs.Rows.{Assignment}
use Rattle.sql_meaning.specs.Schemas.{Schema, Database}
use Rattle.sql_meaning.specs.Statements.{Bound, is_left, owned_by, is_common, chosen_hold}
use Rattle.sql_meaning.specs.Statements.{has_number, no_owner, Conjunct, all_in, is_empty}
use Rattle.sql_meaning.specs.Plans.{Loop, steps_of, consumed_by, Plan}
use Rattle.sql_meaning.specs.UsedTerms.{Used, Consumes, IsTerm, UsedComes, AllOf, AnyOf}
use Rattle.sql_meaning.specs.Offers.{IsOffer, AreOffers, loop_items, FitsOffers}
use Rattle.sql_meaning.specs.Conjuncts.{may_serve, level_test, common_first, first_by}
use Rattle.sql_meaning.specs.Evaluation.{holds}
use Rattle.sql_meaning.specs.Expressions.{names}
use Rattle.sql_meaning.proofs.TermsHold.{used_from, consumed_holds}
use Rattle.sql_meaning.proofs.LikeTerms.{term_passes, direct_passes}
use Rattle.sql_meaning.proofs.PassingTerms.{used_passes}
use Rattle.sql_meaning.proofs.Plans.{chosen_weaken, test_from, has_all, test_at, chosen_from}
use Rattle.sql_meaning.proofs.KeptLoops.{asked_by, same_holds}
use Rattle.sql_meaning.proofs.Terms.{some_is}
use Rattle.sql_meaning.proofs.Links.{all_at}

-- sound: where all the common conjuncts hold, the used terms and the tests of all loops do
sound_used : (schema : Schema) (bound : Bound) (params : List Value) (placed : List ℕ) (l : Loop)
    (used : Used) (a : Assignment)
    → IsOffer schema bound placed l used → chosen_hold is_common params bound.conjuncts a ≡ true
    → (b : Bool) → is_left bound l.item ≡ b
    → cond b true (used_passes schema bound params l.item used a) ≡ true
sound_used schema bound params placed l used a o h true e = refl
sound_used schema bound params placed l used a o h false e =
    used_from schema bound params l.item a used o.fits o.comes
    (chosen_weaken _ _
    (λ c t. sym (ap (λ b. cond b (owned_by l.item c.owner) (is_common c)) e) ∙ t) params
    bound.conjuncts a h)
    (chosen_weaken _ _
    (λ c t. and_left (is_common c) (not (is_left bound l.item)) t) params bound.conjuncts a h)

pub sound : (schema : Schema) (database : Database) (bound : Bound) (params : List Value)
    (consumed placed : List ℕ) (loops : List Loop) (used : List Used) (a : Assignment)
    → AreOffers schema bound placed loops used
    → chosen_hold is_common params bound.conjuncts a ≡ true
    → kept (asked_by schema bound params loops used)
    (steps_of schema database bound params consumed placed loops) a ≡ true
sound schema database bound params consumed placed [] used a o h = refl
sound schema database bound params consumed placed (l ∷ ls) [] a o h = absurd o
sound schema database bound params consumed placed (l ∷ ls) (u ∷ us) a o h =
    both_true _ _ (sound_used schema bound params placed l u a o.0 h (is_left bound l.item) refl)
    (both_true _ _ (test_from is_common params consumed placed l.item 0 bound.conjuncts a h)
    (sound schema database bound params consumed (l.item ∷ placed) ls us a o.1 h))

-- settled by a path that consumes it
pub has_append : (n : ℕ) (ms ns : List ℕ)
    → has_number n (ms ++ ns) ≡ (has_number n ms || has_number n ns)
has_append n [] ns = refl
has_append n (m ∷ ms) ns =
    rw (has_append n ms ns) (or_assoc (n == m) (has_number n ms) (has_number n ns))

common_not_owned : (item : ℕ) (o : Option ℕ) → no_owner o ≡ true → owned_by item o ≡ false
common_not_owned item None h = refl
common_not_owned item (Some owner) h = absurd (cc)

-- a path's item may be served by what the path consumes
pub consumed_served : (schema : Schema) (bound : Bound) (item : ℕ) (used : Used) (number : ℕ)
    (c : Conjunct)
    → UsedComes schema bound item used → Consumes used number
    → slice_get bound.conjuncts number ≡ Some c → may_serve bound item c ≡ true
consumed_served schema bound item (AllOf ts) number c comes k is =
    served (all_at (IsTerm schema bound item) ts k.0 k.1 comes k.2)
  where
    served : IsTerm schema bound item k.1 → may_serve bound item c ≡ true
    served (inl d) =
        let same : d.number ≡ number = some_is _ _ (sym d.numbered ∙ k.3) in
        ap (may_serve bound item)
        (some_is c d.conjunct (sym is ∙ ap (slice_get bound.conjuncts) (sym same) ∙ d.is))
        ∙ d.allowed
    served (inr (none, d)) = absurd (let no : None ≡ Some number = sym none ∙ k.3 in cc)
consumed_served schema bound item (AnyOf tss) number c comes k is = absurd k

used_case : (schema : Schema) (bound : Bound) (params : List Value) (placed : List ℕ) (l : Loop)
    (used : Used) (a : Assignment) (number : ℕ) (c : Conjunct)
    → IsOffer schema bound placed l used → slice_get bound.conjuncts number ≡ Some c
    → is_common c ≡ true → has_number number l.consumed ≡ true → (b : Bool)
    → is_left bound l.item ≡ b → cond b true (used_passes schema bound params l.item used a) ≡ true
    → holds a params c.expr ≡ true
used_case schema bound params placed l used a number c o is common h true e u =
    absurd
    (let owned : owned_by l.item c.owner ≡ true =
    sym (ap (λ b. cond b (owned_by l.item c.owner) (is_common c)) e)
    ∙ consumed_served schema bound l.item used number c o.comes
    (has_all (Consumes used) l.consumed number o.consumes h) is in
    let not_owned : owned_by l.item c.owner ≡ false =
    common_not_owned l.item c.owner common in cc)
used_case schema bound params placed l used a number c o is common h false e u =
    let r =
    consumed_holds schema bound params l.item a (term_passes schema bound.items params l.item a)
    (direct_passes schema bound.items params l.item a) used number o.comes
    (has_all (Consumes used) l.consumed number o.consumes h) u in
    same_holds a params bound number c r.0 is r.1 r.3

pub settled_used : (schema : Schema) (database : Database) (bound : Bound)
    (params : List Value) (consumed placed : List ℕ) (loops : List Loop) (used : List Used)
    (a : Assignment) (number : ℕ) (c : Conjunct)
    → AreOffers schema bound placed loops used
    → kept (asked_by schema bound params loops used)
    (steps_of schema database bound params consumed placed loops) a ≡ true
    → slice_get bound.conjuncts number ≡ Some c → is_common c ≡ true
    → has_number number (consumed_by loops) ≡ true → holds a params c.expr ≡ true
settled_used schema database bound params consumed placed [] used a number c o k is common h =
    absurd (cc)
settled_used schema database bound params consumed placed (l ∷ ls) [] a number c o k is common h =
    absurd o
settled_used schema database bound params consumed placed (l ∷ ls) (u ∷ us) a number c o k is common
    h =
    let here = cond (is_left bound l.item) true (used_passes schema bound params l.item u a) in
    or_cases (has_number number l.consumed) (has_number number (consumed_by ls))
    (λ t. used_case schema bound params placed l u a number c o.0 is common t
    (is_left bound l.item) refl (and_left here _ k))
    (λ t. settled_used schema database bound params consumed
    (l.item ∷ placed) ls us a number c o.1
    (and_right (level_test is_common params consumed placed l.item 0 bound.conjuncts a) _
    (and_right here _ k)) is common t)
    (sym (has_append number l.consumed (consumed_by ls)) ∙ h)

-- settled by a test
pub first_common : (placed : List ℕ) (item : ℕ) (ns : List ℕ) (o : Option ℕ) → no_owner o ≡ true
    → common_first placed item ns ≡ true → first_by placed item ns o ≡ true
first_common placed item ns None h f = f
first_common placed item ns (Some owner) h f = absurd (cc)

-- each of the numbers stands in one of the two lists
abbrev pub Covered : List ℕ → List ℕ → List ℕ → Type 0
Covered ns placed rest = AllByRecursion (λ n. (has_number n placed || has_number n rest) ≡ true) ns

pub covered_next : (ns : List ℕ) (item : ℕ) (placed rest : List ℕ) → Covered ns placed (item ∷ rest)
    → Covered ns (item ∷ placed) rest
covered_next ns item placed rest h =
    all_map _ _ ns (λ n e. turn (n == item) (has_number n placed) (has_number n rest) e) h
  where
    turn : (e p r : Bool) → (p || (e || r)) ≡ true → ((e || p) || r) ≡ true
    turn true p r h = refl
    turn false p r h = h

pub covered_all : (ns placed : List ℕ) → Covered ns placed [] → all_in ns placed ≡ true
covered_all [] placed h = refl
covered_all (n ∷ ns) placed h =
    both_true _ _ (or_none (has_number n placed) h.0) (covered_all ns placed h.1)
  where
    or_none : (b : Bool) → (b || false) ≡ true → b ≡ true
    or_none true h = refl
    or_none false h = h

-- what is not named makes no difference
unnamed : (ns : List ℕ) (item : ℕ) (placed : List ℕ) → has_number item ns ≡ false
    → all_in ns (item ∷ placed) ≡ true → all_in ns placed ≡ true
unnamed [] item placed h e = refl
unnamed (n ∷ ns) item placed h e =
    let apart : (n == item) ≡ false =
    not_same n item (or_false_left (item == n) (has_number item ns) h) in
    both_true _ _
    (ap (λ b. b || has_number n placed) (sym apart) ∙ and_left _ (all_in ns (item ∷ placed)) e)
    (unnamed ns item placed (or_false_right (item == n) (has_number item ns) h)
    (and_right (has_number n (item ∷ placed)) _ e))
  where
    not_same : (n m : ℕ) → (m == n) ≡ false → (n == m) ≡ false
    not_same n m e =
        never_true (n == m)
        (λ t. let yes : (m == n) ≡ true = eq-eqb m n (sym (eqb-true n m t)) in cc)

pub named_case : (ns : List ℕ) (item : ℕ) (placed : List ℕ) → all_in ns (item ∷ placed) ≡ true
    → all_in ns placed ≡ false → (b : Bool) → has_number item ns ≡ b → b ≡ true
named_case ns item placed e h true f = refl
named_case ns item placed e h false f =
    absurd (let yes : all_in ns placed ≡ true = unnamed ns item placed f e in cc)

pub settled_test : (schema : Schema) (database : Database) (bound : Bound)
    (params : List Value) (consumed placed : List ℕ) (loops : List Loop) (used : List Used)
    (a : Assignment) (number : ℕ) (c : Conjunct)
    → AreOffers schema bound placed loops used
    → kept (asked_by schema bound params loops used)
    (steps_of schema database bound params consumed placed loops) a ≡ true
    → slice_get bound.conjuncts number ≡ Some c → is_common c ≡ true
    → has_number number consumed ≡ false → Covered (names c.expr) placed (loop_items loops)
    → all_in (names c.expr) placed ≡ false → holds a params c.expr ≡ true
settled_test schema database bound params consumed placed [] used a number c o k is common n cover h
    =
    absurd
    (let yes : all_in (names c.expr) placed ≡ true = covered_all (names c.expr) placed cover in cc)
settled_test schema database bound params consumed placed (l ∷ ls) [] a number c o k is common n
    cover h = absurd o
settled_test schema database bound params consumed placed (l ∷ ls) (u ∷ us) a number c o k is common
    n cover h =
    let rest =
    and_right (cond (is_left bound l.item) true (used_passes schema bound params l.item u a)) _ k in
    test_case (all_in (names c.expr) (l.item ∷ placed)) refl
    (λ e. test_at is_common params consumed placed l.item 0 bound.conjuncts a number c
    (and_left (level_test is_common params consumed placed l.item 0 bound.conjuncts a) _ rest) is
    common
    (first_common placed l.item (names c.expr) c.owner common
    (ap (λ b. (b || (is_empty (names c.expr) && is_empty placed)))
    (both_true _ _
    (named_case (names c.expr) l.item placed e h (has_number l.item (names c.expr)) refl) e)))
    (ap (λ m. has_number m consumed) (zero-add number) ∙ n))
    (λ e. settled_test schema database bound params consumed (l.item ∷ placed) ls us a number c o.1
    (and_right (level_test is_common params consumed placed l.item 0 bound.conjuncts a) _ rest) is
    common n (covered_next (names c.expr) l.item placed (loop_items ls) cover) e)
  where
    test_case : {G : Type 0} (b : Bool) → all_in (names c.expr) (l.item ∷ placed) ≡ b
        → (all_in (names c.expr) (l.item ∷ placed) ≡ true → G)
        → (all_in (names c.expr) (l.item ∷ placed) ≡ false → G) → G
    test_case true e f g = f e
    test_case false e f g = g e

pub empty_first : (item : ℕ) (ns : List ℕ) → is_empty ns ≡ true → common_first [] item ns ≡ true
empty_first item [] h = refl
empty_first item (n ∷ ns) h = absurd (cc)

pub some_named : (ns : List ℕ) → is_empty ns ≡ false → all_in ns [] ≡ false
some_named [] h = absurd (cc)
some_named (n ∷ ns) h = refl

pub covered_start : (ns rest : List ℕ) → all_in ns rest ≡ true → Covered ns [] rest
covered_start [] rest h = tt
covered_start (n ∷ ns) rest h =
    (and_left _ _ h, covered_start ns rest (and_right (has_number n rest) _ h))

-- each common conjunct holds where the used terms and the tests of all loops do
settles_one : (schema : Schema) (database : Database) (bound : Bound) (params : List Value)
    (loops : List Loop) (used : List Used) (a : Assignment) (number : ℕ) (c : Conjunct)
    → loops ≢ [] → AreOffers schema bound [] loops used
    → all_in (names c.expr) (loop_items loops) ≡ true
    → kept (asked_by schema bound params loops used)
    (steps_of schema database bound params (consumed_by loops) [] loops) a ≡ true
    → slice_get bound.conjuncts number ≡ Some c → is_common c ≡ true → (b : Bool)
    → has_number number (consumed_by loops) ≡ b → (e : Bool) → is_empty (names c.expr) ≡ e
    → holds a params c.expr ≡ true
settles_one schema database bound params loops used a number c some o named k is common true f e g =
    settled_used schema database bound params
    (consumed_by loops) [] loops used a number c o k is common f
settles_one schema database bound params loops used a number c some o named k is common false f
    false g =
    settled_test schema database bound params (consumed_by loops) [] loops used a number c o k is
    common f (covered_start (names c.expr) (loop_items loops) named)
    (some_named (names c.expr) g)
settles_one schema database bound params [] used a number c some o named k is common false f true g
    = absurd (some refl)
settles_one schema database bound params (l ∷ ls) [] a number c some o named k is common false f
    true g = absurd o
settles_one schema database bound params (l ∷ ls) (u ∷ us) a number c some o named k is common false
    f true g =
    test_at is_common params (consumed_by (l ∷ ls)) [] l.item 0 bound.conjuncts a number c
    (and_left (level_test is_common params (consumed_by (l ∷ ls)) [] l.item 0 bound.conjuncts a) _
    (and_right (cond (is_left bound l.item) true (used_passes schema bound params l.item u a)) _ k))
    is common
    (first_common [] l.item (names c.expr) c.owner common (empty_first l.item (names c.expr) g))
    (ap (λ m. has_number m (consumed_by (l ∷ ls))) (zero-add number) ∙ f)

pub settles : (schema : Schema) (database : Database) (plan : Plan) (params : List Value)
    (fits : FitsOffers schema plan) (a : Assignment)
    → kept (asked_by schema plan.bound params plan.loops fits.used)
    (steps_of schema database plan.bound params (consumed_by plan.loops) [] plan.loops) a ≡ true
    → chosen_hold is_common params plan.bound.conjuncts a ≡ true
settles schema database plan params fits a k =
    chosen_from is_common params plan.bound.conjuncts a
    (λ number c is common.
    settles_one schema database plan.bound params plan.loops fits.used a number c fits.some
    fits.offered (all_at _ plan.bound.conjuncts number c fits.named is) k is common
    (has_number number (consumed_by plan.loops)) refl (is_empty (names c.expr)) refl)
