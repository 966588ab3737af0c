-- Each loop whose path is an offer keeps its word.
use Rattle.std.specs.List.{AllByRecursion, slice_get, filter}
use Rattle.std.specs.List.Sorted.{IsPermutation}
use Rattle.std.proofs.Common.{◌≡◌, ℕ, Bool, cond, List, [], ◌∷◌, refl, ap, true, false, not, ◌&&◌}
use Rattle.std.proofs.Common.{Option, Some, None, ◌∙◌, subst, sym, zero-add, ◌<◌, map, length}
use Rattle.std.proofs.lemmas.List.Elements.{filter_agree}
use Rattle.list_laws.specs.Nest.{place, Looks, AreSteps}
use Rattle.list_laws.specs.Tally.{tally, SameTally}
use Rattle.list_laws.proofs.Lists.{all_always, filter-filter}
use Rattle.list_laws.proofs.Tallies.{SameTally-filter}
use Rattle.list_laws.proofs.Permutations.{IsPermutation-from_tally}
use Rattle.list_laws.proofs.Bools.{and_left, and_right, both_true, alike}
use Rattle.sql_meaning.specs.Values.{Value}
use Rattle.sql_meaning.specs.Rows.{Assignment}
use Rattle.sql_meaning.specs.Schemas.{Schema, Database}
use Rattle.sql_meaning.specs.Statements.{Bound, is_common, has_number, Conjunct, chosen_hold}
use Rattle.sql_meaning.specs.Statements.{is_left, owned_by, OwnersAreLeft, or_missing, item_rows}
use Rattle.sql_meaning.specs.Statements.{item_alias, choices}
use Rattle.sql_meaning.specs.Plans.{Loop, steps_of, directed_walk, missing_if}
use Rattle.sql_meaning.specs.Conjuncts.{level_test, first_by}
use Rattle.sql_meaning.specs.Offers.{IsOffer, AreOffers}
use Rattle.sql_meaning.specs.Expressions.{names}
use Rattle.sql_meaning.specs.Evaluation.{holds}
use Rattle.sql_meaning.specs.UsedTerms.{Used, Consumes, UsedPlaced}
use Rattle.sql_meaning.specs.Paths.{walk}
use Rattle.sql_meaning.proofs.Databases.{IsDatabase}
use Rattle.sql_meaning.proofs.Equals.{placed_eq, placed_true, placed_itself}
use Rattle.sql_meaning.proofs.Offers.{used_looks, walk_used}
use Rattle.sql_meaning.proofs.TermsHold.{consumed_holds, used_from}
use Rattle.sql_meaning.proofs.LikeTerms.{term_passes, direct_passes}
use Rattle.sql_meaning.proofs.PassingTerms.{used_passes}
use Rattle.sql_meaning.proofs.Terms.{some_is}
use Rattle.sql_meaning.proofs.Links.{all_at}
use Rattle.sql_meaning.proofs.Plans.{test_looks, common_looks, test_from, test_at, chosen_weaken}
use Rattle.sql_meaning.proofs.Plans.{chosen_none, chosen_from, all_of_true, owner_not, none_owned}
use Rattle.sql_meaning.proofs.Plans.{missing_same, has_all}

-- what a LEFT item consumes of its own conjuncts, it consumes itself
abbrev pub Ours : Bound → List ℕ → Loop → Type 0
Ours bound consumed l =
    (number : ℕ) (c : Conjunct) → slice_get bound.conjuncts number ≡ Some c
    → owned_by l.item c.owner ≡ true → has_number number consumed ≡ true
    → has_number number l.consumed ≡ true

-- a loop whose item isn't LEFT has nothing of its own
pub ours_free : (bound : Bound) (consumed : List ℕ) (loops : List Loop) → OwnersAreLeft bound
    → AllByRecursion (λ l. is_left bound l.item ≡ false) loops
    → AllByRecursion (Ours bound consumed) loops
ours_free bound consumed [] owners h = tt
ours_free bound consumed (l ∷ ls) owners h = (
  (λ number c is own e. absurd
      (not_owned l.item c h.0 (all_at _ bound.conjuncts number c owners is) own)),
  ours_free bound consumed ls owners h.1,
)
  where
    not_owned : (item : ℕ) (c : Conjunct) → is_left bound item ≡ false
        → ((owner : ℕ) → c.owner ≡ Some owner → is_left bound owner ≡ true)
        → owned_by item c.owner ≡ true → ⊥
    not_owned item c h f own =
        let no : owned_by item c.owner ≡ false =
        owner_not bound item c.owner h f (owned_by item c.owner) refl in cc

owned_first : (placed : List ℕ) (item : ℕ) (ns : List ℕ) (o : Option ℕ) → owned_by item o ≡ true
    → first_by placed item ns o ≡ true
owned_first placed item ns None h = absurd (cc)
owned_first placed item ns (Some owner) h = h

pub same_holds : (env : Assignment) (params : List Value) (bound : Bound) (number : ℕ)
    (c d : Conjunct)
    → slice_get bound.conjuncts number ≡ Some c → slice_get bound.conjuncts number ≡ Some d
    → holds env params d.expr ≡ true → holds env params c.expr ≡ true
same_holds env params bound number c d e f h =
    subst (λ (z : Conjunct). holds env params z.expr ≡ true) (some_is d c (sym f ∙ e)) h

-- an own conjunct was consumed by the LEFT item's path, or it is tested
own_case : (schema : Schema) (bound : Bound) (params : List Value) (consumed placed : List ℕ)
    (l : Loop) (used : Used) (a : Assignment)
    → IsOffer schema bound placed l used → Ours bound consumed l
    → used_passes schema bound params l.item used a ≡ true
    → level_test (λ c. owned_by l.item c.owner) params consumed placed l.item 0 bound.conjuncts a
    ≡ true
    → (number : ℕ) (c : Conjunct) → slice_get bound.conjuncts number ≡ Some c
    → owned_by l.item c.owner ≡ true → (b : Bool) → has_number number consumed ≡ b
    → holds a params c.expr ≡ true
own_case schema bound params consumed placed l used a o ours u t number c is own true e =
    let r =
    consumed_holds schema bound params l.item a (term_passes schema bound.items params l.item a)
    (direct_passes schema bound.items params l.item a) used number o.comes
    (has_all (Consumes used) l.consumed number o.consumes (ours number c is own e)) u in
    same_holds a params bound number c r.0 is r.1 r.3
own_case schema bound params consumed placed l used a o ours u t number c is own false e =
    test_at
    (λ c. owned_by l.item c.owner) params consumed placed l.item 0 bound.conjuncts a number c t is
    own (owned_first placed l.item (names c.expr) c.owner own)
    (ap (λ m. has_number m consumed) (zero-add number) ∙ e)

-- the used terms and the own tests of a LEFT item say what its own conjuncts say
own_same : (schema : Schema) (bound : Bound) (params : List Value) (consumed placed : List ℕ)
    (l : Loop) (used : Used) (a : Assignment)
    → is_left bound l.item ≡ true → IsOffer schema bound placed l used → Ours bound consumed l
    → (used_passes schema bound params l.item used a
    && level_test (λ c. owned_by l.item c.owner) params consumed placed l.item 0 bound.conjuncts a)
    ≡ chosen_hold (λ c. owned_by l.item c.owner) params bound.conjuncts a
own_same schema bound params consumed placed l used a left o ours =
    alike _ _
    (λ h. chosen_from _ params bound.conjuncts a
    (λ number c is own. own_case schema bound params consumed placed l used a o ours
    (and_left _ _ h) (and_right (used_passes schema bound params l.item used a) _ h) number c is own
    (has_number number consumed) refl))
    (λ h. both_true _ _
    (used_from schema bound params l.item a used o.fits o.comes
    (chosen_weaken _ _
    (λ c e. sym (ap (λ b. cond b (owned_by l.item c.owner) (is_common c)) left) ∙ e) params
    bound.conjuncts a h)
    (chosen_none _ params bound.conjuncts a
    (all_always _ bound.conjuncts
    (λ c. ap (λ b. is_common c && not b) left ∙ never (is_common c)))))
    (test_from _ params consumed placed l.item 0 bound.conjuncts a h))
  where
    never : (b : Bool) → (b && false) ≡ false
    never true = refl
    never false = refl

-- which rows each loop's walk was asked for: those on which its used terms pass, where its item
-- isn't LEFT
abbrev pub asked_by : Schema → Bound → List Value → List Loop → List Used → List (Assignment → Bool)
asked_by schema bound params [] used = []
asked_by schema bound params (l ∷ ls) [] = []
asked_by schema bound params (l ∷ ls) (u ∷ us) =
    (λ env. cond (is_left bound l.item) true (used_passes schema bound params l.item u env))
    ∷ asked_by schema bound params ls us

asked_looks : (schema : Schema) (bound : Bound) (params : List Value) (item : ℕ) (u : Used)
    (placed : List ℕ)
    → UsedPlaced placed u → (b : Bool)
    → Looks (item ∷ placed) (λ env. cond b true (used_passes schema bound params item u env))
asked_looks schema bound params item u placed p true env a h = refl
asked_looks schema bound params item u placed p false env a h =
    used_looks schema bound params item placed u p env a h

-- the walk of a loop, with what a LEFT loop does of it
loop_same : (schema : Schema) (database : Database) (bound : Bound) (params : List Value)
    (consumed placed : List ℕ) (l : Loop) (used : Used) (env : Assignment)
    → IsDatabase schema bound database → OwnersAreLeft bound
    → IsOffer schema bound placed l used → Ours bound consumed l → l.item < length env
    → (b : Bool) → is_left bound l.item ≡ b
    → SameTally
    (missing_if b
    (filter
    (λ x. level_test (λ c. owned_by l.item c.owner) params consumed placed l.item 0 bound.conjuncts
    (place env l.item x))
    (map Some
    (directed_walk l.reverse (walk schema params l.path (item_rows database bound l.item) env)))))
    (filter (λ x. cond b true (used_passes schema bound params l.item used (place env l.item x)))
    (cond b
    (or_missing
    (filter
    (λ x. chosen_hold (λ c. owned_by l.item c.owner) params bound.conjuncts (place env l.item x))
    (map Some (item_rows database bound l.item)))) (map Some (item_rows database bound l.item))))
loop_same schema database bound params consumed placed l used env valid owners o ours lt true e =
    record {
      each = λ f.
          (missing_same _ _
          (SameTally-filter
          (λ x. level_test
          (λ c. owned_by l.item c.owner) params consumed placed l.item 0 bound.conjuncts
          (place env l.item x)) _ _
          (walk_used schema bound params (item_alias schema bound l.item) l.path l.reverse
          (item_rows database bound l.item) placed l.item env used (valid.rising l.item)
          (valid.aliased l.item) (valid.texts l.item) o.carries o.unplaced lt o.keys))).each f
          ∙ ap (λ zs. tally f (or_missing zs))
          (filter-filter _ _ (map Some (item_rows database bound l.item))
          ∙ filter_agree _ _
          (λ x. own_same schema bound params consumed placed l used
          (place env l.item x) e o ours)
          (map Some (item_rows database bound l.item)))
          ∙ ap (tally f) (sym (all_of_true (λ x. true) _ (λ x. refl)));
    }
loop_same schema database bound params consumed placed l used env valid owners o ours lt false e =
    record {
      each = λ f.
          ap (tally f)
          (all_of_true _ _
          (λ x. test_from _ params consumed placed l.item 0 bound.conjuncts (place env l.item x)
          (none_owned bound l.item owners e params (place env l.item x))))
          ∙ (walk_used schema bound params (item_alias schema bound l.item) l.path l.reverse
          (item_rows database bound l.item) placed l.item env used (valid.rising l.item)
          (valid.aliased l.item) (valid.texts l.item) o.carries o.unplaced lt o.keys).each f;
    }

-- the loops of a plan are what the laws of nested walks ask
pub are_steps : (schema : Schema) (database : Database) (bound : Bound) (params : List Value)
    (consumed placed : List ℕ) (loops : List Loop) (used : List Used)
    → IsDatabase schema bound database → OwnersAreLeft bound
    → AreOffers schema bound placed loops used → AllByRecursion (Ours bound consumed) loops
    → AreSteps IsPermutation (choices database bound params) placed
    (asked_by schema bound params loops used)
    (steps_of schema database bound params consumed placed loops)
are_steps schema database bound params consumed placed [] [] valid owners o ours = tt
are_steps schema database bound params consumed placed [] (u ∷ us) valid owners o ours = absurd o
are_steps schema database bound params consumed placed (l ∷ ls) [] valid owners o ours = absurd o
are_steps schema database bound params consumed placed (l ∷ ls) (u ∷ us) valid owners o ours = (
  record {
    walks =
        λ env lt.
        IsPermutation-from_tally placed_eq placed_true placed_itself _ _
        (loop_same schema database bound params consumed placed l u env valid owners o.0 ours.0 lt
        (is_left bound l.item) refl);
    asked_looks = asked_looks schema bound params l.item u placed o.0.keys (is_left bound l.item);
    test_looks =
        test_looks is_common params consumed placed l.item 0 bound.conjuncts
        (common_looks placed l.item bound.conjuncts);
  },
  are_steps schema database bound params consumed (l.item ∷ placed) ls us valid owners o.1 ours.1,
)
