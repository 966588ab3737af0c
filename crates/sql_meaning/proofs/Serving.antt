-- What the function answers serves the column.
use Rattle.std.specs.List.{AllByRecursion}
use Rattle.std.specs.Option.{option_or}
use Rattle.std.proofs.Common.{◌≡◌, true, Option, Some, None, refl, Bool, false, not, ◌≢◌, ℕ, ◌||◌}
use Rattle.std.proofs.Common.{◌==◌, List, ◌∷◌, sym, [], cond, ◌&&◌, ap, ◌∙◌, ◌⊎◌, inl, inr, subst}
use Rattle.std.proofs.Common.{slice_get, suc, ◌+◌, arith}
use Rattle.std.proofs.lemmas.Bool.{eq-eqb, eqb-true}
use Rattle.list_laws.proofs.Bools.{not_true, and_left, and_right}
use Rattle.list_laws.proofs.Lists.{all_append}
use Rattle.sql_meaning.specs.Values.{Affinity, Collation}
use Rattle.sql_meaning.specs.Serving.{no_conversion, Served, side_served}
use Rattle.sql_meaning.specs.Serving.{comparison_served, equal_key, key_under, keys_or, keys_under}
use Rattle.sql_meaning.specs.Serving.{within, or_served, null_served, first_served, serving}
use Rattle.sql_meaning.specs.Serving.{numbered_term, if_allowed, direct_terms}
use Rattle.sql_meaning.specs.Statements.{has_number, Conjunct, Bound}
use Rattle.sql_meaning.specs.Expressions.{ColumnRef, Op, BExpr, names, bare_column, Cmp}
use Rattle.sql_meaning.specs.Expressions.{OneOf, IsNull}
use Rattle.sql_meaning.specs.Expressions.{Any, BExprs, Nil, More, all_names}
use Rattle.sql_meaning.specs.Terms.{TermKind, kind_of, SideServes, flipped, ComparisonServes}
use Rattle.sql_meaning.specs.Terms.{Equals, Within, IsNothing, Low, High, AreEqualities, OrServes}
use Rattle.sql_meaning.specs.Terms.{entry_keys, Serves}
use Rattle.sql_meaning.specs.Rows.{Site}
use Rattle.sql_meaning.specs.Paths.{KeyExpr}
use Rattle.sql_meaning.specs.Orders.{same_collation, same_site}
use Rattle.sql_meaning.specs.Conjuncts.{may_serve}
use Rattle.sql_meaning.specs.UsedTerms.{IsDirect}
use Rattle.sql_meaning.proofs.Terms.{some_is}
use Rattle.sql_meaning.proofs.TiedPositions.{collation_is, site_is}

no_conversion_is : (converted : Option Affinity) → no_conversion converted ≡ true → converted ≡ None
no_conversion_is None h = refl
no_conversion_is (Some aff) h = absurd (cc)

-- no item of the list is this one
foreign_case : (item n : ℕ) (ns : List ℕ)
    → (has_number item ns ≡ false → AllByRecursion (λ i. i ≢ item) ns) → (b : Bool)
    → (item == n) ≡ b → (b || has_number item ns) ≡ false → AllByRecursion (λ i. i ≢ item) (n ∷ ns)
foreign_case item n ns ih true e h = absurd (cc)
foreign_case item n ns ih false e h =
    ((λ same. let yes : (item == n) ≡ true = eq-eqb item n (sym same) in absurd (cc)), ih h)

foreign_all : (item : ℕ) (ns : List ℕ) → has_number item ns ≡ false
    → AllByRecursion (λ i. i ≢ item) ns
foreign_all item [] h = tt
foreign_all item (n ∷ ns) h = foreign_case item n ns (foreign_all item ns) (item == n) refl h

-- what a side that serves says
pub record IsSide (item : ℕ) (o : Option ColumnRef) (ok : Bool) (kind : Option TermKind)
    (collation : Collation) (s : Served) : Type 0
  where
    pub column : o ≡ Some (record { item = item; site = s.site })
    pub fine : ok ≡ true
    pub says : kind ≡ Some s.kind
    pub same : collation ≡ s.collation

cond_case : (item : ℕ) (c : ColumnRef) (ok : Bool) (kind : TermKind) (collation : Collation)
    (s : Served) (b : Bool)
    → ((c.item == item) && ok) ≡ b
    → cond b (Some (record { site = c.site; collation = collation; kind = kind })) None ≡ Some s
    → IsSide item (Some c) ok (Some kind) collation s
cond_case item c ok kind collation s true e h =
    let is : record { site = c.site; collation = collation; kind = kind } ≡ s = some_is _ s h in
    record {
      column =
          ap (λ i. Some (record { item = i; site = c.site }))
          (eqb-true c.item item (and_left _ ok e))
          ∙ ap (λ (z : Served). Some (record { item = item; site = z.site })) is;
      fine = and_right (c.item == item) ok e;
      says = ap (λ (z : Served). Some z.kind) is;
      same = ap (λ (z : Served). z.collation) is;
    }
cond_case item c ok kind collation s false e h = absurd (cc)

side_is : (item : ℕ) (o : Option ColumnRef) (ok : Bool) (kind : Option TermKind)
    (collation : Collation) (s : Served)
    → side_served item o ok kind collation ≡ Some s → IsSide item o ok kind collation s
side_is item None ok kind collation s h = absurd (cc)
side_is item (Some c) ok None collation s h = absurd (cc)
side_is item (Some c) ok (Some kind) collation s h =
    cond_case item c ok kind collation s ((c.item == item) && ok) refl h

side_serves : (item : ℕ) (op : Op) (own other : BExpr)
    (own_conversion other_conversion : Option Affinity) (collation : Collation) (s : Served)
    → IsSide item (bare_column own)
    (no_conversion own_conversion && not (has_number item (names other)))
    (kind_of op (record { expr = other; conversion = other_conversion })) collation s
    → SideServes item s.site s.kind op own other own_conversion other_conversion
side_serves item op own other own_conversion other_conversion collation s i = record {
  is_column = i.column;
  unconverted =
      no_conversion_is own_conversion (and_left _ (not (has_number item (names other))) i.fine);
  foreign =
      foreign_all item (names other)
      (not_true _ (and_right (no_conversion own_conversion) _ i.fine));
  says = i.says;
}

or_case : (a b : Option Served) (s : Served) → option_or a b ≡ Some s → (a ≡ Some s) ⊎ (b ≡ Some s)
or_case None b s h = inr h
or_case (Some t) b s h = inl h

comparison_cases : (item : ℕ) (op : Op) (left right : BExpr)
    (left_conversion right_conversion : Option Affinity) (collation : Collation) (s : Served)
    → (side_served item (bare_column left)
    (no_conversion left_conversion && not (has_number item (names right)))
    (kind_of op (record { expr = right; conversion = right_conversion })) collation ≡ Some s)
    ⊎ (side_served item (bare_column right)
    (no_conversion right_conversion && not (has_number item (names left)))
    (kind_of (flipped op) (record { expr = left; conversion = left_conversion })) collation
    ≡ Some s)
    → ComparisonServes item s.site s.collation s.kind
    (Cmp op left right left_conversion right_conversion collation)
comparison_cases item op left right left_conversion right_conversion collation s (inl h) =
    let i = side_is item _ _ _ collation s h in
    (i.same, inl (side_serves item op left right left_conversion right_conversion collation s i))
comparison_cases item op left right left_conversion right_conversion collation s (inr h) =
    let i =
    side_is item _ _ _ collation s h in (
      i.same,
      inr (side_serves item (flipped op) right left right_conversion left_conversion collation s i),
    )

comparison_serves : (item : ℕ) (e : BExpr) (s : Served) → comparison_served item e ≡ Some s
    → ComparisonServes item s.site s.collation s.kind e
comparison_serves item (Cmp op left right left_conversion right_conversion collation) s h =
    comparison_cases item op left right left_conversion right_conversion collation s
    (or_case _ _ s h)
comparison_serves item e s h = absurd (cc)

-- the key of an equality of this column under this collation
pub record IsKey (site : Site) (collation : Collation) (o : Option Served) (key : KeyExpr) : Type 0
  where
    pub served : Served
    pub is : o ≡ Some served
    pub same_site_is : served.site ≡ site
    pub same_collation_is : served.collation ≡ collation
    pub kind_is : served.kind ≡ Equals key

equal_case : (b : Bool) (kind : TermKind) (key : KeyExpr) → equal_key b kind ≡ Some key → (b ≡ true)
    × (kind ≡ Equals key)
equal_case true (Equals k) key h = (refl, ap Equals (some_is k key h))
equal_case true (Within ks) key h = absurd (cc)
equal_case true IsNothing key h = absurd (cc)
equal_case true (Low k i) key h = absurd (cc)
equal_case true (High k i) key h = absurd (cc)
equal_case false kind key h = absurd (no kind h)
  where
    no : (kind : TermKind) → equal_key false kind ≡ Some key → ⊥
    no (Equals k) h = cc
    no (Within ks) h = cc
    no IsNothing h = cc
    no (Low k i) h = cc
    no (High k i) h = cc

pub key_is : (site : Site) (collation : Collation) (o : Option Served) (key : KeyExpr)
    → key_under site collation o ≡ Some key → IsKey site collation o key
key_is site collation None key h = absurd (cc)
key_is site collation (Some s) key h =
    let r =
    equal_case (same_site s.site site && same_collation s.collation collation) s.kind key h in
    record {
      served = s;
      is = refl;
      same_site_is = site_is s.site site (and_left _ (same_collation s.collation collation) r.0);
      same_collation_is =
          collation_is s.collation collation (and_right (same_site s.site site) _ r.0);
      kind_is = r.1;
    }

pub equality_serves : (item : ℕ) (site : Site) (collation : Collation) (e : BExpr) (key : KeyExpr)
    → IsKey site collation (comparison_served item e) key
    → ComparisonServes item site collation (Equals key) e
equality_serves item site collation e key k =
    subst (λ (d : TermKind). ComparisonServes item site collation d e) k.kind_is
    (subst (λ (c : Collation). ComparisonServes item site c k.served.kind e) k.same_collation_is
    (subst (λ (z : Site). ComparisonServes item z k.served.collation k.served.kind e) k.same_site_is
    (comparison_serves item e k.served k.is)))

keys_case : (a : Option KeyExpr) (b : Option (List KeyExpr)) (keys : List KeyExpr)
    → keys_or a b ≡ Some keys → (key : KeyExpr) × (rest : List KeyExpr) × (a ≡ Some key)
    × (b ≡ Some rest) × (key ∷ rest ≡ keys)
keys_case None b keys h = absurd (cc)
keys_case (Some key) None keys h = absurd (cc)
keys_case (Some key) (Some rest) keys h = (key, rest, refl, refl, cc)

equalities_serve : (item : ℕ) (site : Site) (collation : Collation) (es : BExprs)
    (keys : List KeyExpr)
    → keys_under item site collation es ≡ Some keys → AreEqualities item site collation es keys
equalities_serve item site collation Nil keys h =
    subst (AreEqualities item site collation Nil) (some_is [] keys h) tt
equalities_serve item site collation (More e es) keys h =
    let r = keys_case _ _ keys h in
    subst (AreEqualities item site collation (More e es)) r.4 (
      equality_serves item site collation e r.0
          (key_is site collation (comparison_served item e) r.0 r.2),
      equalities_serve item site collation es r.1 r.3,
    )

keys_some : (key : Option KeyExpr) (rest : Option (List KeyExpr)) (keys : List KeyExpr)
    → keys_or key rest ≡ Some keys → keys ≢ []
keys_some None rest keys h = absurd (cc)
keys_some (Some key) None keys h = absurd (cc)
keys_some (Some key) (Some others) keys h =
    λ e. let no : (key ∷ others) ≡ [] = some_is _ keys h ∙ e in cc

within_case : (item : ℕ) (es : BExprs) (site : Site) (collation : Collation)
    (o : Option (List KeyExpr)) (s : Served)
    → ((keys : List KeyExpr) → o ≡ Some keys → keys ≢ [])
    → keys_under item site collation es ≡ o → within site collation o ≡ Some s
    → OrServes item s.site s.collation s.kind es
within_case item es site collation None s f e h = absurd (cc)
within_case item es site collation (Some keys) s f e h =
    subst (λ (z : Served). OrServes item z.site z.collation z.kind es)
    (some_is (record { site = site; collation = collation; kind = Within keys }) s h)
    (record {
      keys = keys;
      some = f keys refl;
      equalities = equalities_serve item site collation es keys e;
      says = refl;
    })

or_is : (item : ℕ) (es : BExprs) (o : Option Served) (s : Served) → first_served item es ≡ o
    → or_served item es o ≡ Some s → OrServes item s.site s.collation s.kind es
or_is item es None s f h = absurd (cc)
or_is item Nil (Some t) s f h = absurd (cc)
or_is item (More e es) (Some t) s f h =
    within_case item (More e es) t.site t.collation
    (keys_under item t.site t.collation (More e es)) s
    (keys_some (key_under t.site t.collation (comparison_served item e))
    (keys_under item t.site t.collation es)) refl h

null_case : (own : Site → Collation) (item : ℕ) (o : Option ColumnRef) (s : Served)
    → null_served own item o ≡ Some s → (o ≡ Some (record { item = item; site = s.site }))
    × (s.kind ≡ IsNothing)
null_case own item None s h = absurd (cc)
null_case own item (Some c) s h = flag (c.item == item) refl h
  where
    flag : (b : Bool) → (c.item == item) ≡ b
        → cond b (Some (record { site = c.site; collation = own c.site; kind = IsNothing })) None
        ≡ Some s
        → (Some c ≡ Some (record { item = item; site = s.site })) × (s.kind ≡ IsNothing)
    flag true e h =
        let is : record { site = c.site; collation = own c.site; kind = IsNothing } ≡ s =
        some_is _ s h in (
          ap (λ i. Some (record { item = i; site = c.site })) (eqb-true c.item item e)
              ∙ ap (λ (z : Served). Some (record { item = item; site = z.site })) is,
          sym (ap (λ (z : Served). z.kind) is),
        )
    flag false e h = absurd (cc)

-- what the function answers serves the column
pub serving_is : (own : Site → Collation) (item : ℕ) (e : BExpr) (s : Served)
    → serving own item e ≡ Some s → Serves item s.site s.collation s.kind e
serving_is own item (Cmp op left right left_conversion right_conversion collation) s h =
    comparison_serves item (Cmp op left right left_conversion right_conversion collation) s h
serving_is own item (OneOf true left entries entry_conversion collation) s h = absurd (cc)
serving_is own item (OneOf false left entries entry_conversion collation) s h =
    let i =
    side_is item (bare_column left) (not (has_number item (all_names entries)))
    (Some (Within (entry_keys entry_conversion entries))) collation s h in (
      refl,
      i.same,
      record {
        is_column = i.column;
        foreign = foreign_all item (all_names entries) (not_true _ i.fine);
        says = sym (some_is _ s.kind i.says);
      },
    )
serving_is own item (IsNull true e) s h = absurd (cc)
serving_is own item (IsNull false e) s h =
    let r = null_case own item (bare_column e) s h in (refl, r.0, r.1)
serving_is own item (Any es) s h = or_is item es (first_served item es) s refl h
serving_is own item e s h = absurd (cc)

one_direct : (own : Site → Collation) (bound : Bound) (item number : ℕ) (c : Conjunct)
    → slice_get bound.conjuncts number ≡ Some c → (b : Bool) → may_serve bound item c ≡ b
    → (o : Option Served) → if_allowed b (serving own item c.expr) ≡ o
    → AllByRecursion (IsDirect bound item) (numbered_term number o)
one_direct own bound item number c is b e None f = tt
one_direct own bound item number c is true e (Some s) f = (
  record {
    number = number;
    conjunct = c;
    is = is;
    allowed = e;
    serves = serving_is own item c.expr s f;
    numbered = refl;
  },
  tt,
)
one_direct own bound item number c is false e (Some s) f = absurd (cc)

-- each direct term is one
pub direct_are : (own : Site → Collation) (bound : Bound) (item number : ℕ) (cs : List Conjunct)
    → ((k : ℕ) (c : Conjunct) → slice_get cs k ≡ Some c
    → slice_get bound.conjuncts (k + number) ≡ Some c)
    → AllByRecursion (IsDirect bound item) (direct_terms own bound item number cs)
direct_are own bound item number [] f = tt
direct_are own bound item number (c ∷ cs) f =
    all_append (IsDirect bound item)
    (numbered_term number (if_allowed (may_serve bound item c) (serving own item c.expr)))
    (direct_terms own bound item (suc number) cs)
    (one_direct own bound item number c (ap (slice_get bound.conjuncts) (plain number) ∙ f 0 c refl)
    (may_serve bound item c) refl
    (if_allowed (may_serve bound item c) (serving own item c.expr)) refl)
    (direct_are own bound item (suc number) cs
    (λ k d e. ap (slice_get bound.conjuncts) (shift k number) ∙ f (suc k) d e))
  where
    plain : (n : ℕ) → n ≡ 0 + n
    plain n = omega arith

    shift : (k n : ℕ) → k + suc n ≡ suc k + n
    shift k n = omega arith
