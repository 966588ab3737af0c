-- Each prefix that is kept is one of offers, in an order that LEFT JOIN allows.
use Rattle.std.specs.List.{AllByRecursion}
use Rattle.std.proofs.Common.{◌≡◌, ◌≢◌, ◌<◌, ℕ, suc, ◌+◌, Bool, true, false, not, ◌||◌}
use Rattle.std.proofs.Common.{◌==◌, List, [], ◌∷◌, ◌++◌, length, refl, sym, ap, ◌∙◌, subst}
use Rattle.std.proofs.Common.{arith}
use Rattle.std.proofs.lemmas.Bool.{eqb-true, eq-eqb}
use Rattle.list_laws.specs.Nest.{Rearranges, same, after}
use Rattle.list_laws.proofs.Lists.{all_map, all_both}
use Rattle.list_laws.proofs.Bools.{or_first, or_later}
use Rattle.list_laws.proofs.Arrangements.{Rearranges-append}
use Rattle.sql_meaning.specs.Statements.{Bound, has_number, is_left, FitsStatement}
use Rattle.sql_meaning.specs.TermLists.{terms_of_item}
use Rattle.plan_choice.specs.Settings.{Setting, terms_for}
use Rattle.plan_choice.specs.Offers.{Offer, offers}
use Rattle.plan_choice.specs.OfferLaws.{IsOffered}
use Rattle.plan_choice.specs.Prefixes.{OfferedLoop, Prefix, items_of, placed_in, state_of}
use Rattle.plan_choice.specs.Prefixes.{empty_prefix}
use Rattle.plan_choice.specs.Prefixes.{extended, may_come, numbered_from, offered_loops}
use Rattle.plan_choice.proofs.ListedOffers.{IsNext, offers_are}
use Rattle.plan_choice.proofs.Orderings.{Rising, put, put_all, put_rising, put_length, put_moves}
use Rattle.plan_choice.proofs.Orderings.{FreeAbove}
use Rattle.plan_choice.proofs.OfferedLoops.{IsOfferedLoop, AreOfferedLoops, one_more, placed_more}
use Rattle.plan_choice.proofs.OfferedLoops.{items_more}
use Rattle.plan_choice.proofs.PlacedItems.{unplaced, before_left, left_before}

-- a setting of a statement that fits, with the statement's own terms
pub record IsOwn (s : Setting) : Type 0 where
  pub fits : FitsStatement s.schema s.bound
  pub own : (item : ℕ) → item < length s.bound.items
      → terms_for s item ≡ terms_of_item s.schema s.bound item

abbrev pub free_in : Bound → ℕ → Bool
free_in bound i = not (is_left bound i)

-- of two items that may not change places, the first one came first
abbrev pub IsClosed : Bound → List ℕ → Type 0
IsClosed bound placed =
    (i y : ℕ) → i < y → has_number y placed ≡ true → (is_left bound i || is_left bound y) ≡ true
    → has_number i placed ≡ true

abbrev pub AreIn : List ℕ → List ℕ → Type 0
AreIn placed ys = AllByRecursion (λ y. has_number y placed ≡ true) ys

-- the items can be put in order
pub record IsOrdered (bound : Bound) (count : ℕ) (items placed : List ℕ) : Type 0 where
  pub order : List ℕ
  pub moves : Rearranges (free_in bound) items order
  pub rises : Rising order
  pub below : AllByRecursion (λ y. y < length bound.items) order
  pub members : AreIn placed order
  pub closed : IsClosed bound placed
  pub size : length order ≡ count

not_of : (b : Bool) → (b ≡ true → ⊥) → not b ≡ true
not_of true f = absurd (f refl)
not_of false f = refl

above : (bound : Bound) (placed : List ℕ) (i : ℕ) → has_number i placed ≡ false
    → IsClosed bound placed → (y : ℕ) → has_number y placed ≡ true
    → FreeAbove (free_in bound) i y
above bound placed i un closed y h l = (
  not_of (is_left bound i)
      (λ e. let no : has_number i placed ≡ true = closed i y l h (or_first (is_left bound i) _ e) in
      cc),
  not_of (is_left bound y)
      (λ e. let no : has_number i placed ≡ true = closed i y l h (or_later (is_left bound i) _ e) in
      cc),
)

differs : (placed : List ℕ) (i y : ℕ) → has_number i placed ≡ false → has_number y placed ≡ true
    → i ≢ y
differs placed i y un h e =
    let no : has_number i placed ≡ true = ap (λ n. has_number n placed) e ∙ h in cc

either_left : (bound : Bound) (placed : List ℕ) (i a : ℕ) → may_come bound placed i ≡ true
    → a < i → (b : Bool) → is_left bound a ≡ b → (is_left bound a || is_left bound i) ≡ true
    → has_number a placed ≡ true
either_left bound placed i a come l true e h = left_before bound placed i a come l e
either_left bound placed i a come l false e h =
    before_left bound placed i a come l (ap (λ b. b || is_left bound i) (sym e) ∙ h)

closed_case : (bound : Bound) (placed : List ℕ) (i : ℕ) → may_come bound placed i ≡ true
    → IsClosed bound placed → (a y : ℕ) → a < y → (b : Bool) → (y == i) ≡ b
    → has_number y (i ∷ placed) ≡ true → (is_left bound a || is_left bound y) ≡ true
    → has_number a placed ≡ true
closed_case bound placed i come closed a y l true e h k =
    let is : y ≡ i = eqb-true y i e in
    let below : a < i = omega (arith, l, is) in
    either_left bound placed i a come below (is_left bound a) refl
    (ap (λ n. is_left bound a || is_left bound n) (sym is) ∙ k)
closed_case bound placed i come closed a y l false e h k =
    closed a y l (ap (λ b. b || has_number y placed) (sym e) ∙ h) k

pub order_more : (bound : Bound) (count : ℕ) (items placed : List ℕ) (i : ℕ)
    → IsOrdered bound count items placed → may_come bound placed i ≡ true
    → i < length bound.items → IsOrdered bound (suc count) (items ++ i ∷ []) (i ∷ placed)
order_more bound count items placed i o come below =
    let un = unplaced bound placed i come in
    let apart = all_map _ (λ y. i ≢ y) o.order (λ y h. differs placed i y un h) o.members in
    let frees = all_map _ (FreeAbove (free_in bound) i) o.order
    (λ y h. above bound placed i un o.closed y h) o.members in
    record {
      order = put i o.order;
      moves =
          after _ _ _
          (Rearranges-append (free_in bound) items o.order (i ∷ []) (i ∷ []) o.moves
          (same (i ∷ [])))
          (put_moves (free_in bound) i o.order o.rises apart frees);
      rises = put_rising i o.order o.rises apart;
      below = put_all _ i o.order below o.below;
      members =
          put_all _ i o.order (or_first (i == i) _ (eq-eqb i i refl))
          (all_map _ _ o.order (λ y h. or_later (y == i) _ h) o.members);
      closed = λ a y l h k. or_later (a == i) _
          (closed_case bound placed i come o.closed a y l (y == i) refl h k);
      size = put_length i o.order ∙ ap suc o.size;
    }

-- what is true of each kept prefix
pub record IsPrefix (s : Setting) (count : ℕ) (p : Prefix) : Type 0 where
  pub state : p.state ≡ state_of s p.loops
  pub offered : AreOfferedLoops s [] p.loops
  pub order : IsOrdered s.bound count (items_of p.loops) (placed_in p)

pub empty_is : (s : Setting) → IsPrefix s 0 (empty_prefix s)
empty_is s = record {
  state = refl;
  offered = tt;
  order =
      record {
        order = [];
        moves = same [];
        rises = tt;
        below = tt;
        members = tt;
        closed = λ i y l h k. absurd (cc);
        size = refl;
      };
}

pub extended_is : (s : Setting) (count : ℕ) (p : Prefix) (t : OfferedLoop) → IsPrefix s count p
    → may_come s.bound (placed_in p) t.item ≡ true → t.item < length s.bound.items
    → IsOfferedLoop s (placed_in p) t → IsPrefix s (suc count) (extended s p t)
extended_is s count p t h come below k = record {
  state = refl;
  offered = one_more s [] p.loops t h.offered k;
  order =
      subst
      (λ (placed : List ℕ). IsOrdered s.bound (suc count) (items_of (p.loops ++ t ∷ [])) placed)
      (sym (placed_more p.loops t []))
      (subst
      (λ (is : List ℕ). IsOrdered s.bound (suc count) is (t.item ∷ placed_in p))
      (sym (items_more p.loops t))
      (order_more s.bound count (items_of p.loops) (placed_in p) t.item h.order come below));
}

pub numbered_are : (P : Offer → Type 0) (item number : ℕ) (os : List Offer) → AllByRecursion P os
    → AllByRecursion (λ t. (t.item ≡ item) × P t.offer) (numbered_from item number os)
numbered_are P item number [] h = tt
numbered_are P item number (o ∷ os) h =
    ((refl, h.0), numbered_are P item (number + 1) os h.1)

by_flag : (s : Setting) (placed : List ℕ) (item : ℕ) (o : Offer) → IsOffered s placed item true o
    → IsOffered s placed item false o → (reverse : Bool) → IsOffered s placed item reverse o
by_flag s placed item o a b true = a
by_flag s placed item o a b false = b

all_reverses : (s : Setting) (placed : List ℕ) (item : ℕ) → IsNext s placed item
    → (os : List Offer) → AllByRecursion (IsOffered s placed item true) os
    → AllByRecursion (IsOffered s placed item false) os
    → AllByRecursion (λ o. (reverse : Bool) → IsOffered s placed item reverse o) os
all_reverses s placed item n os h k =
    all_both _ _ _ os (λ o a b reverse. by_flag s placed item o a b reverse) h k

-- each of the item's loops is one of an offer
pub offered_loops_are : (s : Setting) (placed : List ℕ) (item : ℕ) → IsNext s placed item
    → AllByRecursion (λ t. (t.item ≡ item) × IsOfferedLoop s placed t) (offered_loops s placed item)
offered_loops_are s placed item n =
    all_map _ _ (offered_loops s placed item)
    (λ t h. (
      h.0,
      subst (λ (i : ℕ). (reverse : Bool) → IsOffered s placed i reverse t.offer) (sym h.0) h.1,
    ))
    (numbered_are _ item 0 (offers s placed item)
    (all_reverses s placed item n (offers s placed item) (offers_are s placed item true n)
    (offers_are s placed item false n)))
