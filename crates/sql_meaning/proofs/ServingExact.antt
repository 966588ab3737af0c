-- The function finds the term wherever a conjunct serves a column of the item.
use Rattle.std.specs.List.{AllByRecursion}
use Rattle.std.specs.Option.{option_or}
use Rattle.std.proofs.Common.{◌≡◌, ◌≢◌, ℕ, Bool, true, false, cond, not, ◌&&◌, ◌||◌, ◌==◌, List, []}
use Rattle.std.proofs.Common.{◌∷◌, Option, Some, None, refl, ap, sym, ◌∙◌, inl, inr, subst}
use Rattle.std.proofs.lemmas.Bool.{eqb-true, eq-eqb}
use Rattle.list_laws.proofs.Bools.{both_true}
use Rattle.sql_meaning.specs.Values.{Collation, Affinity, Binary, Nocase, Rtrim}
use Rattle.sql_meaning.specs.Rows.{Site, AtRowid, AtColumn}
use Rattle.sql_meaning.specs.Expressions.{Op, BExpr, BExprs, Nil, More, Cmp, OneOf, IsNull, Any}
use Rattle.sql_meaning.specs.Expressions.{names, all_names, ColumnRef, bare_column}
use Rattle.sql_meaning.specs.Paths.{KeyExpr}
use Rattle.sql_meaning.specs.Terms.{TermKind, Equals, Within, IsNothing, SideServes, flipped}
use Rattle.sql_meaning.specs.Terms.{ComparisonServes, AreEqualities, Serves, kind_of}
use Rattle.sql_meaning.specs.Statements.{has_number}
use Rattle.sql_meaning.specs.Orders.{same_site, same_collation}
use Rattle.sql_meaning.specs.Serving.{Served, no_conversion, side_served}
use Rattle.sql_meaning.specs.Serving.{comparison_served, equal_key, key_under, keys_or, keys_under}
use Rattle.sql_meaning.specs.Serving.{within, or_served, first_served, null_served}
use Rattle.sql_meaning.specs.TermLaws.{FindsTheTerm, ServingIsExact}
use Rattle.sql_meaning.proofs.ServedNames.{bare_names}
use Rattle.sql_meaning.proofs.Serving.{serving_is}

not_named : (item : ℕ) (ns : List ℕ) → AllByRecursion (λ i. i ≢ item) ns
    → has_number item ns ≡ false
not_named item [] h = refl
not_named item (n ∷ ns) h = differs (item == n) refl (not_named item ns h.1)
  where
    differs : (b : Bool) → (item == n) ≡ b → has_number item ns ≡ false
        → ((item == n) || has_number item ns) ≡ false
    differs true e k = absurd (h.0 (sym (eqb-true item n e)))
    differs false e k = rw e k

site_itself : (s : Site) → same_site s s ≡ true
site_itself AtRowid = refl
site_itself (AtColumn c) = eq-eqb c c refl

pub collation_itself : (c : Collation) → same_collation c c ≡ true
collation_itself Binary = refl
collation_itself Nocase = refl
collation_itself Rtrim = refl

abbrev found : Site → Collation → TermKind → Option Served
found site collation kind =
    Some (record { site = site; collation = collation; kind = kind })

column_found : (item : ℕ) (o : Option ColumnRef) (ok : Bool) (k : Option TermKind)
    (site : Site) (kind : TermKind) (collation : Collation)
    → o ≡ Some (record { item = item; site = site }) → ok ≡ true → k ≡ Some kind
    → side_served item o ok k collation ≡ found site collation kind
column_found item o ok k site kind collation e f g =
    ap (λ (z : Option ColumnRef). side_served item z ok k collation) e
    ∙ ap (λ b. side_served item (Some (record { item = item; site = site })) b k collation) f
    ∙ ap
    (λ (z : Option TermKind). side_served item (Some (record { item = item; site = site })) true z
    collation) g
    ∙ ap (λ b. cond (b && true) (found site collation kind) None) (eq-eqb item item refl)

side_finds : (item : ℕ) (site : Site) (kind : TermKind) (op : Op) (own other : BExpr)
    (oc tc : Option Affinity) (collation : Collation)
    → SideServes item site kind op own other oc tc
    → side_served item (bare_column own) (no_conversion oc && not (has_number item (names other)))
    (kind_of op (record { expr = other; conversion = tc })) collation
    ≡ found site collation kind
side_finds item site kind op own other oc tc collation s =
    column_found item (bare_column own) _ _ site kind collation s.is_column
    (both_true _ _ (ap no_conversion s.unconverted)
    (ap not (not_named item (names other) s.foreign)))
    s.says

-- a side that names nothing of the item serves nothing
none_found : (item : ℕ) (e : BExpr) (o : Option ColumnRef) (ok : Bool) (k : Option TermKind)
    (collation : Collation)
    → AllByRecursion (λ i. i ≢ item) (names e) → bare_column e ≡ o
    → side_served item o ok k collation ≡ None
none_found item e None ok k collation h f = refl
none_found item e (Some c) ok None collation h f = refl
none_found item e (Some c) ok (Some kind) collation h f =
    ap (λ b. cond (b && ok) (found c.site collation kind) None) (out (c.item == item) refl)
  where
    other : c.item ≢ item
    other = (subst (λ (ns : List ℕ). AllByRecursion (λ i. i ≢ item) ns) (bare_names e c f) h).0

    out : (b : Bool) → (c.item == item) ≡ b → (c.item == item) ≡ false
    out true g = absurd (other (eqb-true c.item item g))
    out false g = g

comparison_finds : (item : ℕ) (site : Site) (collation : Collation) (kind : TermKind) (e : BExpr)
    → ComparisonServes item site collation kind e
    → comparison_served item e ≡ found site collation kind
comparison_finds item site collation kind (Cmp op left right lc rc c) (same, inl s) =
    ap (λ (z : Option Served). option_or z
    (side_served item (bare_column right) (no_conversion rc && not (has_number item (names left)))
    (kind_of (flipped op) (record { expr = left; conversion = lc })) c))
    (side_finds item site kind op left right lc rc c s)
    ∙ ap (λ z. found site z kind) same
comparison_finds item site collation kind (Cmp op left right lc rc c) (same, inr s) =
    ap (λ (z : Option Served). option_or z
    (side_served item (bare_column right) (no_conversion rc && not (has_number item (names left)))
    (kind_of (flipped op) (record { expr = left; conversion = lc })) c))
    (none_found item left (bare_column left) _ _ c s.foreign refl)
    ∙ side_finds item site kind (flipped op) right left rc lc c s
    ∙ ap (λ z. found site z kind) same
comparison_finds item site collation kind e h = absurd h

keys_find : (item : ℕ) (site : Site) (collation : Collation) (es : BExprs) (keys : List KeyExpr)
    → AreEqualities item site collation es keys
    → keys_under item site collation es ≡ Some keys
keys_find item site collation Nil [] h = refl
keys_find item site collation Nil (key ∷ keys) h = absurd h
keys_find item site collation (More e es) [] h = absurd h
keys_find item site collation (More e es) (key ∷ keys) h =
    ap
    (λ (z : Option Served). keys_or (key_under site collation z)
    (keys_under item site collation es))
    (comparison_finds item site collation (Equals key) e h.0)
    ∙ ap (λ b. keys_or (equal_key b (Equals key)) (keys_under item site collation es))
    (both_true _ _ (site_itself site) (collation_itself collation))
    ∙ ap (λ (z : Option (List KeyExpr)). keys_or (Some key) z)
    (keys_find item site collation es keys h.1)

or_finds : (item : ℕ) (site : Site) (collation : Collation) (es : BExprs) (keys : List KeyExpr)
    → keys ≢ [] → AreEqualities item site collation es keys
    → or_served item es (first_served item es) ≡ found site collation (Within keys)
or_finds item site collation es [] some h = absurd (some refl)
or_finds item site collation Nil (key ∷ keys) some h = absurd h
or_finds item site collation (More e es) (key ∷ keys) some h =
    ap (or_served item (More e es)) (comparison_finds item site collation (Equals key) e h.0)
    ∙ ap (within site collation) (keys_find item site collation (More e es) (key ∷ keys) h)

serving_finds : (own : Site → Collation) (item : ℕ) (site : Site) (collation : Collation)
    (kind : TermKind) (e : BExpr)
    → Serves item site collation kind e → FindsTheTerm own item site collation kind e
serving_finds own item site collation kind (Cmp op left right lc rc c) h = record {
  served = record { site = site; collation = collation; kind = kind };
  is = comparison_finds item site collation kind (Cmp op left right lc rc c) h;
  same_column = refl;
  same_kind = refl;
  same_order = inl refl;
}
serving_finds own item site collation kind (OneOf true left entries ec c) h =
    absurd (let no : true ≡ false = h.0 in cc)
serving_finds own item site collation kind (OneOf false left entries ec c) h = record {
  served = record { site = site; collation = c; kind = kind };
  is =
      column_found item (bare_column left) _ _ site kind c h.2.is_column
      (ap not (not_named item (all_names entries) h.2.foreign)) (ap Some (sym h.2.says));
  same_column = refl;
  same_kind = refl;
  same_order = inl h.1;
}
serving_finds own item site collation kind (IsNull true e) h =
    absurd (let no : true ≡ false = h.0 in cc)
serving_finds own item site collation kind (IsNull false e) h = record {
  served = record { site = site; collation = own site; kind = IsNothing };
  is =
      ap (null_served own item) h.1
      ∙ ap (λ b. cond b (found site (own site) IsNothing) None) (eq-eqb item item refl);
  same_column = refl;
  same_kind = sym h.2;
  same_order = inr h.2;
}
serving_finds own item site collation kind (Any es) h = record {
  served = record { site = site; collation = collation; kind = Within h.keys };
  is = or_finds item site collation es h.keys h.some h.equalities;
  same_column = refl;
  same_kind = sym h.says;
  same_order = inl refl;
}
serving_finds own item site collation kind e h = absurd h

pub serving_is_exact : ServingIsExact
serving_is_exact = λ own item e. (
  serving_is own item e,
  λ site collation kind h. serving_finds own item site collation kind e h,
)
