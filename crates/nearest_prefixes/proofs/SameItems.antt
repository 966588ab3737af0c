-- Lists with the same items.
use Rattle.std.specs.Cmp.{IsEquivalence}
use Rattle.std.proofs.Common.{◌≡◌, ◌≢◌, ℕ, suc, Bool, true, false, cond, ◌||◌, ◌&&◌, ◌==◌, List}
use Rattle.std.proofs.Common.{[], ◌∷◌, length, refl, sym, ap, ◌∙◌, arith}
use Rattle.std.proofs.lemmas.Bool.{eqb-true, eq-eqb}
use Rattle.list_laws.specs.Nest.{Distinct}
use Rattle.list_laws.proofs.Bools.{alike as both_ways, and_left, and_right, both_true, or_first}
use Rattle.list_laws.proofs.Bools.{or_later}
use Rattle.sql_meaning.specs.Statements.{has_number, all_in}
use Rattle.sql_meaning.proofs.Plans.{has_all}
use Rattle.plan_choice.proofs.PlacedItems.{inside}
use Rattle.nearest_prefixes.specs.Entering.{same_items}

pub all_in_from : (ns ms : List ℕ) → ((a : ℕ) → has_number a ns ≡ true → has_number a ms ≡ true)
    → all_in ns ms ≡ true
all_in_from [] ms f = refl
all_in_from (n ∷ ns) ms f =
    both_true (has_number n ms) _ (f n (or_first (n == n) _ (eq-eqb n n refl)))
    (all_in_from ns ms (λ a h. f a (or_later (a == n) _ h)))

pub same_to : (ns ms : List ℕ) → ((a : ℕ) → has_number a ns ≡ has_number a ms)
    → same_items ns ms ≡ true
same_to ns ms f =
    both_true (all_in ns ms) _ (all_in_from ns ms (λ a h. sym (f a) ∙ h))
    (all_in_from ms ns (λ a h. f a ∙ h))

pub same_from : (ns ms : List ℕ) → same_items ns ms ≡ true → (a : ℕ)
    → has_number a ns ≡ has_number a ms
same_from ns ms h a =
    both_ways (has_number a ns) (has_number a ms) (inside ns ms a (and_left (all_in ns ms) _ h))
    (inside ms ns a (and_right (all_in ns ms) _ h))

and_turn : (a b : Bool) → (a && b) ≡ (b && a)
and_turn true true = refl
and_turn true false = refl
and_turn false true = refl
and_turn false false = refl

-- lists with the same items are so with any other one
pub same_with : (ns ms ls : List ℕ) → ((a : ℕ) → has_number a ns ≡ has_number a ms)
    → same_items ns ls ≡ same_items ms ls
same_with ns ms ls f =
    both_ways (same_items ns ls) (same_items ms ls)
    (λ h. same_to ms ls (λ a. sym (f a) ∙ same_from ns ls h a))
    (λ h. same_to ns ls (λ a. f a ∙ same_from ms ls h a))

pub same_items_equiv : IsEquivalence same_items
same_items_equiv = record {
  refl = λ ns. same_to ns ns (λ a. refl);
  symm = λ ns ms. and_turn (all_in ns ms) (all_in ms ns);
  congr = λ ns ms ls h. same_with ns ms ls (same_from ns ms h);
}

-- without the first n
abbrev without : ℕ → List ℕ → List ℕ
without n [] = []
without n (m ∷ ms) = cond (n == m) ms (m ∷ without n ms)

length_case : (n m : ℕ) (ms : List ℕ) (b : Bool)
    → (has_number n ms ≡ true → suc (length (without n ms)) ≡ length ms)
    → (b || has_number n ms) ≡ true
    → suc (length (cond b ms (m ∷ without n ms))) ≡ suc (length ms)
length_case n m ms true f h = refl
length_case n m ms false f h = ap suc (f h)

without_length : (n : ℕ) (ms : List ℕ) → has_number n ms ≡ true
    → suc (length (without n ms)) ≡ length ms
without_length n [] h = absurd (cc)
without_length n (m ∷ ms) h = length_case n m ms (n == m) (without_length n ms) h

other_case : (a n m : ℕ) (ms : List ℕ) (b c : Bool) → (n == m) ≡ b → (a == m) ≡ c → a ≢ n
    → (has_number a ms ≡ true → has_number a (without n ms) ≡ true)
    → (c || has_number a ms) ≡ true
    → has_number a (cond b ms (m ∷ without n ms)) ≡ true
other_case a n m ms true true e g apart f h =
    absurd (apart (eqb-true a m g ∙ sym (eqb-true n m e)))
other_case a n m ms true false e g apart f h = h
other_case a n m ms false true e g apart f h = or_first (a == m) _ g
other_case a n m ms false false e g apart f h = or_later (a == m) _ (f h)

without_other : (a n : ℕ) (ms : List ℕ) → a ≢ n → has_number a ms ≡ true
    → has_number a (without n ms) ≡ true
without_other a n [] apart h = h
without_other a n (m ∷ ms) apart h =
    other_case a n m ms (n == m) (a == m) refl refl apart (without_other a n ms apart) h

found_case : (a n : ℕ) (ns : List ℕ) (b : Bool) → (a == n) ≡ b
    → (a ≢ n → has_number a ns ≡ true) → has_number a (n ∷ ns) ≡ true
found_case a n ns true e f = or_first (a == n) _ e
found_case a n ns false e f =
    or_later (a == n) _ (f (λ same. let yes : (a == n) ≡ true = eq-eqb a n same in cc))

-- where no member comes twice, a list that is inside another one of its length has all of that
pub fills : (ns ms : List ℕ) → Distinct ns
    → ((a : ℕ) → has_number a ns ≡ true → has_number a ms ≡ true) → length ns ≡ length ms
    → (a : ℕ) → has_number a ms ≡ true → has_number a ns ≡ true
fills [] [] d f e a h = h
fills [] (m ∷ ms) d f e a h = absurd (omega (arith, e))
fills (n ∷ ns) ms d f e a h =
    let there : has_number n ms ≡ true = f n (or_first (n == n) _ (eq-eqb n n refl)) in
    let fewer = without_length n ms there in
    found_case a n ns (a == n) refl
    (λ apart.
    fills ns (without n ms) d.1
    (λ b k.
    without_other b n ms (has_all (λ c. c ≢ n) ns b d.0 k) (f b (or_later (b == n) _ k)))
    (omega (arith, e, fewer)) a (without_other a n ms apart h))
