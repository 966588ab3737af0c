-- A term is usable where its mask lies within that of the placed items.
use Rattle.std.proofs.Common.{◌≡◌, ◌==◌, ◌&&◌, ◌++◌, ℕ, Bool, true, false, List, [], ◌∷◌, refl}
use Rattle.std.proofs.Common.{ap, ◌∙◌, sym, arith, min}
use Rattle.std.specs.Int.{bit_at}
use Rattle.std.proofs.Common.{bit_and}
use Rattle.std.proofs.lemmas.Bool.{eqb-true, eq-eqb}
use Rattle.std.proofs.lemmas.Nat.Bits.{bit_at_and, same_from_bits}
use Rattle.list_laws.proofs.Bools.{alike, and_assoc, and_none, or_first, or_later, both_true}
use Rattle.sql_meaning.specs.Expressions.{names}
use Rattle.sql_meaning.specs.Paths.{KeyExpr}
use Rattle.sql_meaning.specs.Statements.{has_number, all_in}
use Rattle.sql_meaning.specs.Terms.{TermKind, Equals, Within, IsNothing, Low, High, term_keys}
use Rattle.sql_meaning.specs.UsedTerms.{keys_in}
use Rattle.sql_bound.specs.Naming.{IsPlaced, has_item}
use Rattle.where_terms.specs.Masks.{key_names, kind_names}
use Rattle.plan_choice.proofs.PlacedItems.{inside}
use Rattle.access_paths.proofs.Placed.{set, unset}

all_in-append : (xs ys zs : List ℕ) → all_in (xs ++ ys) zs ≡ (all_in xs zs && all_in ys zs)
all_in-append [] ys zs = refl
all_in-append (x ∷ xs) ys zs =
    ap (λ b. has_number x zs && b) (all_in-append xs ys zs)
    ∙ and_assoc (has_number x zs) (all_in xs zs) (all_in ys zs)

keys_all : (items : List ℕ) (keys : List KeyExpr)
    → keys_in items keys ≡ all_in (key_names keys) items
keys_all items [] = refl
keys_all items (key ∷ keys) =
    ap (λ b. all_in (names key.expr) items && b) (keys_all items keys)
    ∙ sym (all_in-append (names key.expr) (key_names keys) items)

kind_all : (items : List ℕ) (kind : TermKind)
    → keys_in items (term_keys kind) ≡ all_in (kind_names kind) items
kind_all items (Equals key) = and_none (all_in (names key.expr) items)
kind_all items (Within keys) = keys_all items keys
kind_all items IsNothing = refl
kind_all items (Low key inclusive) = and_none (all_in (names key.expr) items)
kind_all items (High key inclusive) = and_none (all_in (names key.expr) items)

number_itself : (n : ℕ) (ns : List ℕ) → has_number n (n ∷ ns) ≡ true
number_itself n ns = or_first (n == n) (has_number n ns) (eq-eqb n n refl)

all_from : (ns items : List ℕ)
    → ((n : ℕ) → has_number n ns ≡ true → has_number n items ≡ true) → all_in ns items ≡ true
all_from [] items h = refl
all_from (n ∷ ns) items h =
    both_true (has_number n items) (all_in ns items) (h n (number_itself n ns))
    (all_from ns items (λ k e. h k (or_later (k == n) (has_number k ns) e)))

module _ (others placed : ℕ) (named items : List ℕ) (names_others : IsPlaced others named)
    (are_placed : IsPlaced placed items) where
  each_placed : bit_and others placed ≡ others → (k : ℕ) → has_number k named ≡ true
      → has_number k items ≡ true
  each_placed e k h =
      let one : bit_at others k ≡ 1 = set others k (sym (names_others.each k) ∙ h) in
      let both : min (bit_at others k) (bit_at placed k) ≡ bit_at others k =
      sym (bit_at_and others placed k) ∙ ap (λ m. bit_at m k) e in
      are_placed.each k ∙ eq-eqb (bit_at placed k) 1 (omega (arith, one, both))

  same_bit : all_in named items ≡ true → (k : ℕ) (there : Bool) → has_item others k ≡ there
      → bit_at (bit_and others placed) k ≡ bit_at others k
  same_bit h k true e =
      let one : bit_at others k ≡ 1 = set others k e in
      let other : bit_at placed k ≡ 1 =
      set placed k (sym (are_placed.each k) ∙ inside named items k h (names_others.each k ∙ e)) in
      bit_at_and others placed k ∙ omega (arith, one, other)
  same_bit h k false e =
      let none : bit_at others k ≡ 0 = unset others k e in
      bit_at_and others placed k ∙ omega (arith, none)

  within_is : (bit_and others placed == others) ≡ all_in named items
  within_is =
      alike (bit_and others placed == others) (all_in named items)
      (λ e. all_from named items (each_placed (eqb-true (bit_and others placed) others e)))
      (λ h. eq-eqb (bit_and others placed) others
      (same_from_bits (bit_and others placed) others (λ k. same_bit h k (has_item others k) refl)))

-- of a term of this kind, by the items that its keys name
pub usable_is : (others placed : ℕ) (items : List ℕ) (kind : TermKind)
    → IsPlaced others (kind_names kind) → IsPlaced placed items
    → (bit_and others placed == others) ≡ keys_in items (term_keys kind)
usable_is others placed items kind o p =
    within_is others placed (kind_names kind) items o p ∙ sym (kind_all items kind)
