-- Which items a conjunct names that a path consumes: its own item, and items that are placed.
use Rattle.std.specs.List.{AllByRecursion}
use Rattle.std.proofs.Common.{◌≡◌, ◌≢◌, ℕ, true, ◌==◌, List, [], ◌∷◌, ◌++◌}
use Rattle.std.proofs.Common.{Option, Some, None, refl, ap, sym, ◌∙◌, subst, slice_get, inl, inr}
use Rattle.std.proofs.lemmas.Bool.{eq-eqb}
use Rattle.list_laws.proofs.Bools.{or_later, or_first, both_true, and_left, and_right}
use Rattle.list_laws.proofs.Lists.{all_append}
use Rattle.sql_meaning.specs.Values.{Collation, Affinity}
use Rattle.sql_meaning.specs.Rows.{Site}
use Rattle.sql_meaning.specs.Expressions.{Op, IsEqual, IsUnequal, IsBelow, IsAtMost, IsAbove}
use Rattle.sql_meaning.specs.Expressions.{IsAtLeast, BExpr, Column, Rowid, Collate, Cmp, OneOf}
use Rattle.sql_meaning.specs.Expressions.{IsNull, Any, BExprs, Nil, More, names, all_names}
use Rattle.sql_meaning.specs.Expressions.{ColumnRef, plain_column, bare_column}
use Rattle.sql_meaning.specs.Schemas.{Schema}
use Rattle.sql_meaning.specs.Paths.{KeyExpr}
use Rattle.sql_meaning.specs.Terms.{TermKind, Equals, term_keys, kind_of, entry_keys, SideServes}
use Rattle.sql_meaning.specs.Terms.{ComparisonServes, AreEqualities, Serves, Term}
use Rattle.sql_meaning.specs.Statements.{Bound, Conjunct, has_number, all_in}
use Rattle.sql_meaning.specs.Plans.{Loop}
use Rattle.sql_meaning.specs.UsedTerms.{Used, AllOf, AnyOf, Consumes, is_usable, IsTerm}
use Rattle.sql_meaning.specs.Offers.{IsOffer}
use Rattle.sql_meaning.proofs.Terms.{some_is}
use Rattle.sql_meaning.proofs.Links.{all_at}
use Rattle.sql_meaning.proofs.Offers.{usable_names}
use Rattle.sql_meaning.proofs.Plans.{has_all}
use Rattle.sql_meaning.proofs.Means.{has_append}

plain_names : (e : BExpr) (c : ColumnRef) → plain_column e ≡ Some c → names e ≡ c.item ∷ []
plain_names (Column item column) c h = ap (λ (r : ColumnRef). r.item ∷ []) (some_is _ c h)
plain_names (Rowid item) c h = ap (λ (r : ColumnRef). r.item ∷ []) (some_is _ c h)
plain_names e c h = absurd (cc)

pub bare_names : (e : BExpr) (c : ColumnRef) → bare_column e ≡ Some c → names e ≡ c.item ∷ []
bare_names (Collate e collation) c h = plain_names e c h
bare_names e c h = plain_names e c h

-- the items that the keys name are placed
abbrev pub KeysIn : List ℕ → List KeyExpr → Type 0
KeysIn placed keys =
    AllByRecursion (λ k. AllByRecursion (λ i. has_number i placed ≡ true) (names k.expr)) keys

-- these are names of the item, and of items that are placed
pub record NamesItem (item : ℕ) (placed named : List ℕ) : Type 0 where
  pub there : has_number item named ≡ true
  pub inside : all_in named (item ∷ placed) ≡ true

itself : (item : ℕ) (ns : List ℕ) → has_number item (item ∷ ns) ≡ true
itself item ns = rw (eq-eqb item item refl) refl

placed_inside : (item : ℕ) (placed ns : List ℕ)
    → AllByRecursion (λ i. has_number i placed ≡ true) ns → all_in ns (item ∷ placed) ≡ true
placed_inside item placed [] h = refl
placed_inside item placed (n ∷ ns) h =
    both_true _ _ (or_later (n == item) (has_number n placed) h.0)
    (placed_inside item placed ns h.1)

all_in_both : (xs ys ms : List ℕ) → all_in xs ms ≡ true → all_in ys ms ≡ true
    → all_in (xs ++ ys) ms ≡ true
all_in_both [] ys ms h k = k
all_in_both (x ∷ xs) ys ms h k =
    both_true _ _ (and_left (has_number x ms) (all_in xs ms) h)
    (all_in_both xs ys ms (and_right (has_number x ms) (all_in xs ms) h) k)

-- the item's column on the left, and keys on the right; or the other way round
from_left : (item : ℕ) (placed ns : List ℕ) → AllByRecursion (λ i. has_number i placed ≡ true) ns
    → NamesItem item placed (item ∷ ns)
from_left item placed ns h = record {
  there = itself item ns;
  inside = both_true _ _ (itself item placed) (placed_inside item placed ns h);
}

from_right : (item : ℕ) (placed ns : List ℕ) → AllByRecursion (λ i. has_number i placed ≡ true) ns
    → NamesItem item placed (ns ++ item ∷ [])
from_right item placed ns h = record {
  there = has_append item ns (item ∷ []) ∙ or_later (has_number item ns) _ (itself item []);
  inside =
      all_in_both ns (item ∷ []) (item ∷ placed) (placed_inside item placed ns h)
      (both_true _ _ (itself item placed) refl);
}

kind_keys : (op : Op) (key : KeyExpr) (kind : TermKind) → kind_of op key ≡ Some kind
    → term_keys kind ≡ key ∷ []
kind_keys IsEqual key kind h = sym (ap term_keys (some_is _ kind h))
kind_keys IsUnequal key kind h = absurd (cc)
kind_keys IsBelow key kind h = sym (ap term_keys (some_is _ kind h))
kind_keys IsAtMost key kind h = sym (ap term_keys (some_is _ kind h))
kind_keys IsAbove key kind h = sym (ap term_keys (some_is _ kind h))
kind_keys IsAtLeast key kind h = sym (ap term_keys (some_is _ kind h))

other_placed : {item : ℕ} {site : Site} {kind : TermKind} {op : Op} {own other : BExpr}
    {own_conversion other_conversion : Option Affinity} (placed : List ℕ)
    → SideServes item site kind op own other own_conversion other_conversion
    → KeysIn placed (term_keys kind)
    → AllByRecursion (λ i. has_number i placed ≡ true) (names other)
other_placed {kind} {op} {other} {other_conversion} placed s k =
    (subst (KeysIn placed)
    (kind_keys op (record { expr = other; conversion = other_conversion }) kind s.says) k).0

pub comparison_names : (item : ℕ) (site : Site) (collation : Collation) (kind : TermKind)
    (placed : List ℕ) (e : BExpr)
    → ComparisonServes item site collation kind e → KeysIn placed (term_keys kind)
    → NamesItem item placed (names e)
comparison_names item site collation kind placed (Cmp op left right lc rc c) (same, inl s) k =
    subst (λ (ns : List ℕ). NamesItem item placed (ns ++ names right))
    (sym (bare_names left _ s.is_column))
    (from_left item placed (names right) (other_placed placed s k))
comparison_names item site collation kind placed (Cmp op left right lc rc c) (same, inr s) k =
    subst (λ (ns : List ℕ). NamesItem item placed (names left ++ ns))
    (sym (bare_names right _ s.is_column))
    (from_right item placed (names left) (other_placed placed s k))
comparison_names item site collation kind placed e h k = absurd h

entries_placed : (placed : List ℕ) (conversion : Option Affinity) (es : BExprs)
    → KeysIn placed (entry_keys conversion es)
    → AllByRecursion (λ i. has_number i placed ≡ true) (all_names es)
entries_placed placed conversion Nil k = tt
entries_placed placed conversion (More e es) k =
    all_append _ (names e) (all_names es) k.0 (entries_placed placed conversion es k.1)

equalities_inside : (item : ℕ) (site : Site) (collation : Collation) (placed : List ℕ)
    (es : BExprs) (keys : List KeyExpr)
    → AreEqualities item site collation es keys → KeysIn placed keys
    → all_in (all_names es) (item ∷ placed) ≡ true
equalities_inside item site collation placed Nil [] h k = refl
equalities_inside item site collation placed Nil (key ∷ keys) h k = absurd h
equalities_inside item site collation placed (More e es) [] h k = absurd h
equalities_inside item site collation placed (More e es) (key ∷ keys) h k =
    let first = comparison_names item site collation (Equals key) placed e h.0 (k.0, tt) in
    all_in_both (names e) (all_names es) (item ∷ placed) first.inside
    (equalities_inside item site collation placed es keys h.1 k.1)

equalities_there : (item : ℕ) (site : Site) (collation : Collation) (placed : List ℕ)
    (es : BExprs) (keys : List KeyExpr)
    → AreEqualities item site collation es keys → KeysIn placed keys → keys ≢ []
    → has_number item (all_names es) ≡ true
equalities_there item site collation placed es [] h k some = absurd (some refl)
equalities_there item site collation placed Nil (key ∷ keys) h k some = absurd h
equalities_there item site collation placed (More e es) (key ∷ keys) h k some =
    let first = comparison_names item site collation (Equals key) placed e h.0 (k.0, tt) in
    has_append item (names e) (all_names es)
    ∙ or_first (has_number item (names e)) (has_number item (all_names es)) first.there

pub served_names : (item : ℕ) (site : Site) (collation : Collation) (kind : TermKind)
    (placed : List ℕ) (e : BExpr)
    → Serves item site collation kind e → KeysIn placed (term_keys kind)
    → NamesItem item placed (names e)
served_names item site collation kind placed (Cmp op left right lc rc c) h k =
    comparison_names item site collation kind placed (Cmp op left right lc rc c) h k
served_names item site collation kind placed (OneOf negated own entries conversion c) h k =
    subst (λ (ns : List ℕ). NamesItem item placed (ns ++ all_names entries))
    (sym (bare_names own _ h.2.is_column))
    (from_left item placed (all_names entries)
    (entries_placed placed conversion entries
    (subst (λ (z : TermKind). KeysIn placed (term_keys z)) h.2.says k)))
served_names item site collation kind placed (IsNull negated own) h k =
    subst (NamesItem item placed) (sym (bare_names own _ h.1)) (from_left item placed [] tt)
served_names item site collation kind placed (Any es) h k =
    let keys = subst (λ (z : TermKind). KeysIn placed (term_keys z)) h.says k in
    record {
      there = equalities_there item site collation placed es h.keys h.equalities keys h.some;
      inside = equalities_inside item site collation placed es h.keys h.equalities keys;
    }
served_names item site collation kind placed e h k = absurd h

-- a conjunct that an offer consumes names its item, and of the others only placed ones
pub consumed_names : (schema : Schema) (bound : Bound) (placed : List ℕ) (loop : Loop)
    (used : Used) (number : ℕ) (c : Conjunct)
    → IsOffer schema bound placed loop used → has_number number loop.consumed ≡ true
    → slice_get bound.conjuncts number ≡ Some c → NamesItem loop.item placed (names c.expr)
consumed_names schema bound placed loop (AllOf ts) number c o h is =
    let k = has_all (Consumes (AllOf ts)) loop.consumed number o.consumes h in
    direct k.1 k.3 (all_at (IsTerm schema bound loop.item) ts k.0 k.1 o.comes k.2)
    (all_at (λ t. is_usable placed t ≡ true) ts k.0 k.1 o.keys k.2)
  where
    direct : (t : Term) → t.conjunct ≡ Some number → IsTerm schema bound loop.item t
        → is_usable placed t ≡ true → NamesItem loop.item placed (names c.expr)
    direct t numbered (inl d) keys =
        let same : d.number ≡ number = some_is _ _ (sym d.numbered ∙ numbered) in
        let conjunct : d.conjunct ≡ c =
        some_is _ _ (sym d.is ∙ ap (slice_get bound.conjuncts) same ∙ is) in
        subst (λ (z : Conjunct). NamesItem loop.item placed (names z.expr)) conjunct
        (served_names loop.item t.column t.collation t.kind placed d.conjunct.expr d.serves
        (usable_names placed (term_keys t.kind) keys))
    direct t numbered (inr (none, d)) keys =
        absurd (let no : None ≡ Some number = sym none ∙ numbered in cc)
consumed_names schema bound placed loop (AnyOf tss) number c o h is =
    absurd (has_all (Consumes (AnyOf tss)) loop.consumed number o.consumes h)
