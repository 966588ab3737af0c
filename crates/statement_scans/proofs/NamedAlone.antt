-- Terms that name no item, and terms that name one alone, by the items that are marked.
use Rattle.std.proofs.Common.{◌≡◌, ◌≢◌, ◌<◌, ◌^◌, ◌==◌, ℕ, Bool, true, false, List, []}
use Rattle.std.proofs.Common.{◌∷◌, ◌++◌, refl, ap, sym, ◌∙◌, arith}
use Rattle.std.proofs.lemmas.Bool.{eqb-true, eq-eqb}
use Rattle.std.proofs.lemmas.List.{append-nil}
use Rattle.std.proofs.lemmas.Nat.Bits.{bit_at-lt, bit_at-pow_same, bit_at-pow_other}
use Rattle.std.proofs.lemmas.Nat.Bits.{same_from_bits}
use Rattle.std.specs.Int.{bit_at}
use Rattle.std.specs.List.{flat_map}
use Rattle.list_laws.proofs.Bools.{alike, or_first, or_later, both_true, and_left}
use Rattle.list_laws.proofs.FirstComings.{or_none}
use Rattle.sql_meaning.specs.Expressions.{names}
use Rattle.sql_meaning.specs.Paths.{KeyExpr}
use Rattle.sql_meaning.specs.Statements.{has_number, all_in, is_empty}
use Rattle.sql_meaning.specs.Terms.{TermKind, Equals, Within, IsNothing, Low, High, term_keys}
use Rattle.plan_choice.specs.Scans.{named_items, names_only}
use Rattle.plan_choice.proofs.PlacedItems.{inside}
use Rattle.sql_bound.specs.Naming.{IsPlaced, has_item}
use Rattle.where_terms.specs.Kinds.{term_kind_of}
use Rattle.where_terms.specs.Marked.{IsMarked}
use Rattle.where_terms.specs.Masks.{kind_names, key_names}
use Rattle.where_terms.specs.Views.{term_of}
use Rattle.where_terms.specs.declared.term.Term.{Term}

keys_named : (keys : List KeyExpr) → flat_map (λ k. names k.expr) keys ≡ key_names keys
keys_named [] = refl
keys_named (key ∷ keys) = ap (λ ns. names key.expr ++ ns) (keys_named keys)

-- the items that the keys of a kind name, as both crates list them
named_is : (kind : TermKind) → flat_map (λ k. names k.expr) (term_keys kind) ≡ kind_names kind
named_is (Equals key) = append-nil (names key.expr)
named_is (Within keys) = keys_named keys
named_is IsNothing = refl
named_is (Low key inclusive) = append-nil (names key.expr)
named_is (High key inclusive) = append-nil (names key.expr)

pub names_none : (t : Term) → IsMarked t → (t.others == 0) ≡ is_empty (named_items (term_of t))
names_none t marked = sym (marked.none) ∙ ap is_empty (sym (named_is (term_kind_of t.kind)))

one_bit : (item k : ℕ) (same : Bool) → (k == item) ≡ same → has_item (2 ^ item) k ≡ same
one_bit item k true e = rw (eqb-true k item e, bit_at-pow_same item) refl
one_bit item k false e =
    let other : k ≢ item = λ same. (let yes : (k == item) ≡ true = eq-eqb k item same in cc) in
    rw (bit_at-pow_other item k other) refl

all_only : (item : ℕ) (ns : List ℕ) → ((k : ℕ) → has_number k ns ≡ true → (k == item) ≡ true)
    → all_in ns (item ∷ []) ≡ true
all_only item [] f = refl
all_only item (n ∷ ns) f =
    both_true (has_number n (item ∷ [])) (all_in ns (item ∷ []))
    (or_first (n == item) false (f n (or_first (n == n) (has_number n ns) (eq-eqb n n refl))))
    (all_only item ns (λ k h. f k (or_later (k == n) (has_number k ns) h)))

only_found : (item : ℕ) (ns : List ℕ) → ((k : ℕ) → has_number k ns ≡ (k == item))
    → names_only item ns ≡ true
only_found item [] each = each item ∙ eq-eqb item item refl
only_found item (n ∷ ns) each = all_only item (n ∷ ns) (λ k h. sym (each k) ∙ h)

found_only : (item : ℕ) (ns : List ℕ) → names_only item ns ≡ true → (k : ℕ)
    → has_number k ns ≡ (k == item)
found_only item [] only k = absurd (cc)
found_only item (n ∷ ns) only k =
    alike (has_number k (n ∷ ns)) (k == item)
    (λ h. sym (or_none (k == item)) ∙ inside (n ∷ ns) (item ∷ []) k only h)
    (λ same. or_first (k == n) (has_number k ns)
    (eq-eqb k n (eqb-true k item same ∙ sym (eqb-true n item first))))
  where
    first : (n == item) ≡ true
    first = sym (or_none (n == item)) ∙ and_left (has_number n (item ∷ [])) _ only

same_bit : (a b : ℕ) → a < 2 → b < 2 → (a == 1) ≡ (b == 1) → a ≡ b
same_bit a b small few e = same_case (a == 1) refl
  where
    same_case : (c : Bool) → (a == 1) ≡ c → a ≡ b
    same_case true f = eqb-true a 1 f ∙ sym (eqb-true b 1 (sym e ∙ f))
    same_case false f =
        let one : a ≢ 1 = (λ is. let yes : (a == 1) ≡ true = eq-eqb a 1 is in cc) in
        let other : b ≢ 1 = (λ is. let yes : (b == 1) ≡ true = eq-eqb b 1 is in cc) in
        omega (arith, small, few, one, other)

named_alone : (mask item : ℕ) (ns : List ℕ) → IsPlaced mask ns
    → (mask == 2 ^ item) ≡ names_only item ns
named_alone mask item ns placed =
    alike (mask == 2 ^ item) (names_only item ns)
    (λ e. only_found item ns
    (λ k. placed.each k ∙ ap (λ m. has_item m k) (eqb-true mask (2 ^ item) e)
    ∙ one_bit item k (k == item) refl))
    (λ only. eq-eqb mask (2 ^ item)
    (same_from_bits mask (2 ^ item)
    (λ k. same_bit (bit_at mask k) (bit_at (2 ^ item) k) (bit_at-lt mask k)
    (bit_at-lt (2 ^ item) k)
    (sym (placed.each k) ∙ found_only item ns only k ∙ sym (one_bit item k (k == item) refl)))))

pub names_one : (t : Term) (item : ℕ) → IsMarked t
    → (t.others == 2 ^ item) ≡ names_only item (named_items (term_of t))
names_one t item marked =
    named_alone t.others item (kind_names (term_kind_of t.kind)) marked
    ∙ ap (names_only item) (sym (named_is (term_kind_of t.kind)))
