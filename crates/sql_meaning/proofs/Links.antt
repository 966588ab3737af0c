-- Linked columns are equal, and derived terms hold.
use Rattle.std.specs.List.{AllByRecursion, slice_get}
use Rattle.std.specs.declared.cmp.Ordering.{Ordering}
use Rattle.std.specs.declared.cmp.Ordering.TheVariants.{Less, Equal as Ties, Greater}
use Rattle.std.specs.Ordering.{is_eq}
use Rattle.std.proofs.Common.{◌≡◌, ℕ, suc, zero, List, [], ◌∷◌, Some, subst, Bool, true, false}
use Rattle.std.proofs.Common.{◌==◌, cond, ◌||◌, None, refl, ◌∙◌, ap, not, ◌&&◌, sym, ap₂}
use Rattle.std.proofs.lemmas.Cmp.{tied_back}
use Rattle.sql_meaning.specs.Evaluation.{is_true, compares, ev, holds}
use Rattle.sql_meaning.specs.Values.{Value, Collation, value_cmp, is_null, Affinity, Integer, Real}
use Rattle.sql_meaning.specs.Values.{Numeric, TextAffinity, BlobAffinity}
use Rattle.sql_meaning.specs.Conversions.{is_numeric, is_text, side_conversion, converted_by}
use Rattle.sql_meaning.specs.Expressions.{IsEqual, BExpr, Column, Rowid, Collate}
use Rattle.sql_meaning.specs.Expressions.{Cmp, ColumnRef}
use Rattle.sql_meaning.specs.Expressions.{plain_column, bare_column}
use Rattle.sql_meaning.specs.Expressions.{site_expr}
use Rattle.sql_meaning.specs.Schemas.{Schema}
use Rattle.sql_meaning.specs.Items.{Item, own_column, expr_affinity, FitsExpr}
use Rattle.sql_meaning.specs.Links.{affinity_class, Links, Linked, link, back, chain, Derives}
use Rattle.sql_meaning.specs.Links.{by_key, by_column}
use Rattle.sql_meaning.specs.Rows.{Assignment, cell, Site, AtRowid, AtColumn}
use Rattle.sql_meaning.specs.Paths.{key_value}
use Rattle.sql_meaning.specs.Terms.{Equals, Term, term_holds}
use Rattle.sql_meaning.proofs.Terms.{some_is, bare_is, truth_again, serves_is}
use Rattle.sql_meaning.proofs.Order.{value_cmp_total}

pub all_at : {A : Type 0} (P : A → Type 0) (xs : List A) (number : ℕ) (x : A) → AllByRecursion P xs
    → slice_get xs number ≡ Some x → P x
all_at P [] number x h e = absurd (cc)
all_at P (y ∷ ys) zero x h e = subst P (some_is y x e) h.0
all_at P (y ∷ ys) (suc number) x h e = all_at P ys number x h.1 e

pub parts_of : (nv nw : Bool) (o : Ordering)
    → is_true (cond (nv || nw) None (Some (is_eq o))) ≡ true → (nv ≡ false) × (nw ≡ false)
    × (o ≡ Ties)
parts_of true nw o h = absurd (cc)
parts_of false true o h = absurd (cc)
parts_of false false Less h = absurd (cc)
parts_of false false Ties h = (refl, refl, refl)
parts_of false false Greater h = absurd (cc)

from_parts : (nv nw : Bool) (o : Ordering) → nv ≡ false → nw ≡ false → o ≡ Ties
    → is_true (cond (nv || nw) None (Some (is_eq o))) ≡ true
from_parts nv nw o a b e = rw (a, b, e) refl

-- being equal goes both ways, and along
pub equal_back : (collation : Collation) (v w : Value) → compares IsEqual collation v w ≡ true
    → compares IsEqual collation w v ≡ true
equal_back collation v w h =
    let p = parts_of (is_null v) (is_null w) (value_cmp collation v w) h in
    from_parts (is_null w) (is_null v) (value_cmp collation w v) p.1 p.0
    (tied_back (value_cmp_total collation) v w p.2)

pub equal_along : (collation : Collation) (v w x : Value) → compares IsEqual collation v w ≡ true
    → compares IsEqual collation w x ≡ true → compares IsEqual collation v x ≡ true
equal_along collation v w x h k =
    let p = parts_of (is_null v) (is_null w) (value_cmp collation v w) h in
    let q = parts_of (is_null w) (is_null x) (value_cmp collation w x) k in
    from_parts (is_null v) (is_null x) (value_cmp collation v x) p.0 q.1
    ((value_cmp_total collation).congr v w x p.2 ∙ q.2)

plain_affinity : (schema : Schema) (items : List Item) (e : BExpr) (c : ColumnRef)
    → plain_column e ≡ Some c
    → expr_affinity schema items e ≡ Some (own_column schema items c).affinity
plain_affinity schema items (Column i n) c h =
    ap (λ r. Some (own_column schema items r).affinity) (some_is _ c h)
plain_affinity schema items (Rowid i) c h =
    ap (λ r. Some (own_column schema items r).affinity) (some_is _ c h)
plain_affinity schema items e c h = absurd (cc)

bare_affinity : (schema : Schema) (items : List Item) (e : BExpr) (c : ColumnRef)
    → bare_column e ≡ Some c
    → expr_affinity schema items e ≡ Some (own_column schema items c).affinity
bare_affinity schema items (Collate e collation) c h = plain_affinity schema items e c h
bare_affinity schema items e c h = plain_affinity schema items e c h

abbrev numeric_class : Affinity → Bool
numeric_class a = affinity_class a == 0

class_numeric : (a : Affinity) → is_numeric (Some a) ≡ numeric_class a
class_numeric Integer = refl
class_numeric Real = refl
class_numeric Numeric = refl
class_numeric TextAffinity = refl
class_numeric BlobAffinity = refl

no_side : (m n t : Bool) → m ≡ n
    → cond (n && not m) (Some Numeric) (cond (t && false) (Some TextAffinity) None) ≡ None
no_side true true true e = refl
no_side true true false e = refl
no_side true false t e = absurd (cc)
no_side false true t e = absurd (cc)
no_side false false true e = refl
no_side false false false e = refl

-- two affinities of one class convert nothing
pub class_side : (a b : Affinity) → affinity_class a ≡ affinity_class b
    → side_conversion (Some a) (Some b) ≡ None
class_side a b e =
    no_side (is_numeric (Some a)) (is_numeric (Some b)) (is_text (Some b))
    (class_numeric a ∙ ap (λ c. c == 0) e ∙ sym (class_numeric b))

link_is : (schema : Schema) (items : List Item) (env : Assignment) (params : List Value)
    (c d : ColumnRef) (e : BExpr)
    → FitsExpr schema items e → Links schema items c d e → holds env params e ≡ true
    → compares IsEqual (own_column schema items c).collation (cell env c.item c.site)
    (cell env d.item d.site) ≡ true
link_is schema items env params c d
    (Cmp IsEqual left right left_conversion right_conversion collation) f l h =
    let no_left : left_conversion ≡ None = f.0
    ∙ ap₂ side_conversion (bare_affinity schema items left c l.is_c)
    (bare_affinity schema items right d l.is_d)
    ∙ class_side _ _ l.one_class in
    let no_right : right_conversion ≡ None = f.1
    ∙ ap₂ side_conversion (bare_affinity schema items right d l.is_d)
    (bare_affinity schema items left c l.is_c)
    ∙ class_side _ _ (sym l.one_class) in
    let plain : compares IsEqual collation (converted_by left_conversion (ev env params left))
    (converted_by right_conversion (ev env params right)) ≡ true =
    sym (ap is_true (truth_again _)) ∙ h in
    rw (l.own_c, ← bare_is env params left c l.is_c, ← bare_is env params right d l.is_d)
    (rw (no_left, no_right) at plain)
link_is schema items env params c d e f l h = absurd l

link_collation : (schema : Schema) (items : List Item) (c d : ColumnRef) (e : BExpr)
    → Links schema items c d e
    → (own_column schema items c).collation ≡ (own_column schema items d).collation
link_collation schema items c d (Cmp IsEqual left right left_conversion right_conversion collation)
    l = l.own_c ∙ sym l.own_d
link_collation schema items c d e l = absurd l

pub linked_collation : (schema : Schema) (items : List Item) (es : List BExpr) (c d : ColumnRef)
    → Linked schema items es c d
    → (own_column schema items c).collation ≡ (own_column schema items d).collation
linked_collation schema items es _ _ (link c d number e at l) = link_collation schema items c d e l
linked_collation schema items es _ _ (back c d l) = sym (linked_collation schema items es c d l)
linked_collation schema items es _ _ (chain c d e l m) =
    linked_collation schema items es c d l ∙ linked_collation schema items es d e m

-- where all the conjuncts hold, linked columns are equal under their own collation
pub linked_equal : (schema : Schema) (items : List Item) (es : List BExpr) (env : Assignment)
    (params : List Value)
    → AllByRecursion (FitsExpr schema items) es → AllByRecursion (λ e. holds env params e ≡ true) es
    → (c d : ColumnRef) → Linked schema items es c d
    → compares IsEqual (own_column schema items c).collation (cell env c.item c.site)
    (cell env d.item d.site) ≡ true
linked_equal schema items es env params f h _ _ (link c d number e at l) =
    link_is schema items env params c d e (all_at (FitsExpr schema items) es number e f at) l
    (all_at (λ e. holds env params e ≡ true) es number e h at)
linked_equal schema items es env params f h _ _ (back c d l) =
    equal_back (own_column schema items d).collation (cell env c.item c.site)
    (cell env d.item d.site)
    (rw (← linked_collation schema items es c d l)
    (linked_equal schema items es env params f h c d l))
linked_equal schema items es env params f h _ _ (chain c d e l m) =
    equal_along (own_column schema items c).collation (cell env c.item c.site)
    (cell env d.item d.site) (cell env e.item e.site)
    (linked_equal schema items es env params f h c d l)
    (rw (linked_collation schema items es c d l)
    (linked_equal schema items es env params f h d e m))

site_expr_is : (env : Assignment) (params : List Value) (item : ℕ) (site : Site)
    → ev env params (site_expr item site) ≡ cell env item site
site_expr_is env params item AtRowid = refl
site_expr_is env params item (AtColumn column) = refl

-- where all the conjuncts hold, each derived term of the item holds
pub derived_holds : (schema : Schema) (items : List Item) (es : List BExpr) (env : Assignment)
    (params : List Value)
    → AllByRecursion (FitsExpr schema items) es → AllByRecursion (λ e. holds env params e ≡ true) es
    → (item : ℕ) (t : Term) → Derives schema items es item t → term_holds env params item t ≡ true
derived_holds schema items es env params f h item _ (by_key c d number e key is l at s names) =
    let equal : compares IsEqual (own_column schema items c).collation (cell env d.item d.site)
    (key_value env params key) ≡ true =
    sym (serves_is env params d.item d.site (own_column schema items c).collation (Equals key) e s)
    ∙ all_at (λ e. holds env params e ≡ true) es number e h at in
    rw (← is)
    (equal_along (own_column schema items c).collation (cell env c.item c.site)
    (cell env d.item d.site) (key_value env params key)
    (linked_equal schema items es env params f h c d l) equal)
derived_holds schema items es env params f h item _ (by_column c d is other l) =
    rw (← is, site_expr_is env params d.item d.site)
    (linked_equal schema items es env params f h c d l)
