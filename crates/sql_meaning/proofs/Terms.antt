-- A conjunct that serves a column is true exactly where its term is.
use Rattle.std.specs.declared.cmp.Ordering.{Ordering}
use Rattle.std.specs.declared.cmp.Ordering.TheVariants.{Less, Equal as Ties, Greater}
use Rattle.std.specs.Ordering.{ordering_reverse}
use Rattle.std.proofs.Common.{◌≡◌, Some, List, ap, Bool, true, false, Option, None, refl, ◌||◌}
use Rattle.std.proofs.Common.{cond, ◌∙◌, ℕ, inl, inr, map, [], ◌∷◌, sym, ℤ, ◌&&◌, ◌++◌}
use Rattle.list_laws.proofs.Bools.{and_none, and_assoc}
use Rattle.sql_meaning.specs.Values.{Value, Collation, value_cmp, is_null, Affinity, Null, Int, Dec}
use Rattle.sql_meaning.specs.Values.{Text, Blob}
use Rattle.sql_meaning.specs.Truth.{truth3}
use Rattle.sql_meaning.specs.Conversions.{converted_by}
use Rattle.sql_meaning.specs.Rows.{Assignment, cell, Site, Row, AtRowid, AtColumn, site_value}
use Rattle.sql_meaning.specs.Expressions.{BExpr, Column, Rowid, Collate, Cmp}
use Rattle.sql_meaning.specs.Expressions.{OneOf, IsNull, Any, ColumnRef, plain_column}
use Rattle.sql_meaning.specs.Expressions.{bare_column, Op, IsEqual, IsUnequal, IsBelow, IsAtMost}
use Rattle.sql_meaning.specs.Expressions.{IsAbove, IsAtLeast, BExprs, Nil, More}
use Rattle.sql_meaning.specs.Evaluation.{ev, from_truth, or3, is_true, op_holds, compares, holds}
use Rattle.sql_meaning.specs.Evaluation.{one_of3, evs, equals_any, any3}
use Rattle.sql_meaning.specs.Terms.{flipped, TermKind, kind_holds, kind_of, SideServes}
use Rattle.sql_meaning.specs.Terms.{ComparisonServes, entry_keys, Equals, AreEqualities, Serves}
use Rattle.sql_meaning.specs.Terms.{Within, IsNothing, Low, High, IsRowid, Term, MayUse, part_of}
use Rattle.sql_meaning.specs.Terms.{terms_true, EdgeFrom, Carries}
use Rattle.sql_meaning.specs.Paths.{KeyExpr, key_value, EqPart, part_value, Edge, end_value}
use Rattle.sql_meaning.specs.Schemas.{AliasHolds}
use Rattle.sql_meaning.specs.IndexLists.{SortColumn}
use Rattle.sql_meaning.specs.Walks.{End, part_holds, low_holds, high_holds, parts_hold}
use Rattle.sql_meaning.proofs.Order.{value_cmp_total}

pub some_is : {A : Type 0} (x y : A) → Some x ≡ Some y → x ≡ y
some_is x y e = cc

plain_is : (env : Assignment) (params : List Value) (e : BExpr) (c : ColumnRef)
    → plain_column e ≡ Some c → ev env params e ≡ cell env c.item c.site
plain_is env params (Column item column) c h = ap (λ r. cell env r.item r.site) (some_is _ c h)
plain_is env params (Rowid item) c h = ap (λ r. cell env r.item r.site) (some_is _ c h)
plain_is env params e c h = absurd (cc)

-- a bare column is worth what the item's row has there
pub bare_is : (env : Assignment) (params : List Value) (e : BExpr) (c : ColumnRef)
    → bare_column e ≡ Some c → ev env params e ≡ cell env c.item c.site
bare_is env params (Collate e collation) c h = plain_is env params e c h
bare_is env params e c h = plain_is env params e c h

-- the truth of a condition's value
pub truth_again : (t : Option Bool) → truth3 (from_truth t) ≡ t
truth_again None = refl
truth_again (Some true) = refl
truth_again (Some false) = refl

pub or3_true : (a b : Option Bool) → is_true (or3 a b) ≡ (is_true a || is_true b)
or3_true (Some true) b = refl
or3_true (Some false) b = refl
or3_true None (Some true) = refl
or3_true None (Some false) = refl
or3_true None None = refl

flip_holds : (op : Op) (p : Ordering) → op_holds op (ordering_reverse p) ≡ op_holds (flipped op) p
flip_holds IsEqual Less = refl
flip_holds IsEqual Ties = refl
flip_holds IsEqual Greater = refl
flip_holds IsUnequal Less = refl
flip_holds IsUnequal Ties = refl
flip_holds IsUnequal Greater = refl
flip_holds IsBelow Less = refl
flip_holds IsBelow Ties = refl
flip_holds IsBelow Greater = refl
flip_holds IsAtMost Less = refl
flip_holds IsAtMost Ties = refl
flip_holds IsAtMost Greater = refl
flip_holds IsAbove Less = refl
flip_holds IsAbove Ties = refl
flip_holds IsAbove Greater = refl
flip_holds IsAtLeast Less = refl
flip_holds IsAtLeast Ties = refl
flip_holds IsAtLeast Greater = refl

flip_case : (nv nw b c : Bool) → b ≡ c
    → is_true (cond (nw || nv) None (Some b)) ≡ is_true (cond (nv || nw) None (Some c))
flip_case true true b c e = refl
flip_case true false b c e = refl
flip_case false true b c e = refl
flip_case false false b c e = e

-- a comparison from its other side
pub compares_flipped : (op : Op) (collation : Collation) (v w : Value)
    → compares op collation w v ≡ compares (flipped op) collation v w
compares_flipped op collation v w =
    flip_case (is_null v) (is_null w) _ _
    (ap (op_holds op) ((value_cmp_total collation).antisymm w v)
    ∙ flip_holds op (value_cmp collation v w))

kind_is : (env : Assignment) (params : List Value) (op : Op) (collation : Collation) (key : KeyExpr)
    (kind : TermKind) (v : Value)
    → kind_of op key ≡ Some kind
    → compares op collation v (key_value env params key) ≡ kind_holds env params collation kind v
kind_is env params IsEqual collation key kind v h =
    ap (λ k. kind_holds env params collation k v) (some_is _ kind h)
kind_is env params IsUnequal collation key kind v h = absurd (cc)
kind_is env params IsBelow collation key kind v h =
    ap (λ k. kind_holds env params collation k v) (some_is _ kind h)
kind_is env params IsAtMost collation key kind v h =
    ap (λ k. kind_holds env params collation k v) (some_is _ kind h)
kind_is env params IsAbove collation key kind v h =
    ap (λ k. kind_holds env params collation k v) (some_is _ kind h)
kind_is env params IsAtLeast collation key kind v h =
    ap (λ k. kind_holds env params collation k v) (some_is _ kind h)

side_is : (env : Assignment) (params : List Value) (item : ℕ) (site : Site) (collation : Collation)
    (kind : TermKind) (op : Op) (own other : BExpr)
    (own_conversion other_conversion : Option Affinity)
    → SideServes item site kind op own other own_conversion other_conversion
    → compares op collation (converted_by own_conversion (ev env params own))
    (converted_by other_conversion (ev env params other))
    ≡ kind_holds env params collation kind (cell env item site)
side_is env params item site collation kind op own other own_conversion other_conversion s =
    ap
    (λ c. compares op collation (converted_by c (ev env params own))
    (converted_by other_conversion (ev env params other))) s.unconverted
    ∙ ap (λ v. compares op collation v (converted_by other_conversion (ev env params other)))
    (bare_is env params own (record { item = item; site = site }) s.is_column)
    ∙ kind_is env params op collation (record { expr = other; conversion = other_conversion }) kind
    (cell env item site) s.says

comparison_is : (env : Assignment) (params : List Value) (item : ℕ) (site : Site)
    (collation : Collation) (kind : TermKind) (e : BExpr)
    → ComparisonServes item site collation kind e
    → holds env params e ≡ kind_holds env params collation kind (cell env item site)
comparison_is env params item site collation kind
    (Cmp op left right left_conversion right_conversion c) (same, inl s) =
    ap is_true (truth_again _)
    ∙ ap
    (λ c. compares op c (converted_by left_conversion (ev env params left))
    (converted_by right_conversion (ev env params right))) same
    ∙ side_is env params item site collation kind op left right left_conversion right_conversion s
comparison_is env params item site collation kind
    (Cmp op left right left_conversion right_conversion c) (same, inr s) =
    ap is_true (truth_again _)
    ∙ ap
    (λ c. compares op c (converted_by left_conversion (ev env params left))
    (converted_by right_conversion (ev env params right))) same
    ∙ compares_flipped op collation (converted_by right_conversion (ev env params right))
    (converted_by left_conversion (ev env params left))
    ∙ side_is env params item site collation kind
    (flipped op) right left right_conversion left_conversion s
comparison_is env params item site collation kind e h = absurd h

list_is : (env : Assignment) (params : List Value) (collation : Collation)
    (converted : Option Affinity) (v : Value) (es : BExprs)
    → is_true (one_of3 collation v (map (converted_by converted) (evs env params es)))
    ≡ equals_any collation (map (key_value env params) (entry_keys converted es)) v
list_is env params collation converted v Nil = refl
list_is env params collation converted v (More e es) =
    or3_true _ (one_of3 collation v (map (converted_by converted) (evs env params es)))
    ∙ ap (λ b. compares IsEqual collation v (converted_by converted (ev env params e)) || b)
    (list_is env params collation converted v es)

equalities_are : (env : Assignment) (params : List Value) (item : ℕ) (site : Site)
    (collation : Collation) (es : BExprs) (keys : List KeyExpr)
    → AreEqualities item site collation es keys
    → is_true (any3 (evs env params es))
    ≡ equals_any collation (map (key_value env params) keys) (cell env item site)
equalities_are env params item site collation Nil [] h = refl
equalities_are env params item site collation Nil (key ∷ keys) h = absurd h
equalities_are env params item site collation (More e es) [] h = absurd h
equalities_are env params item site collation (More e es) (key ∷ keys) h =
    or3_true _ (any3 (evs env params es))
    ∙ rw (
      comparison_is env params item site collation (Equals key) e h.0,
      equalities_are env params item site collation es keys h.1,
    ) refl

-- a conjunct that serves a column is true exactly where its term is
pub serves_is : (env : Assignment) (params : List Value) (item : ℕ) (site : Site)
    (collation : Collation) (kind : TermKind) (e : BExpr)
    → Serves item site collation kind e
    → holds env params e ≡ kind_holds env params collation kind (cell env item site)
serves_is env params item site collation kind (Cmp op left right left_conversion right_conversion c)
    h =
    comparison_is env params item site collation kind
    (Cmp op left right left_conversion right_conversion c) h
serves_is env params item site collation kind (OneOf true own entries converted c) h =
    absurd (let no : true ≡ false = h.0 in cc)
serves_is env params item site collation kind (OneOf false own entries converted c) h =
    ap is_true (truth_again _)
    ∙ rw (h.1, bare_is env params own _ h.2.is_column)
    (list_is env params collation converted (cell env item site) entries)
    ∙ ap (λ k. kind_holds env params collation k (cell env item site)) (sym h.2.says)
serves_is env params item site collation kind (IsNull true own) h =
    absurd (let no : true ≡ false = h.0 in cc)
serves_is env params item site collation kind (IsNull false own) h =
    ap is_true (truth_again (Some (is_null (ev env params own))))
    ∙ ap is_null (bare_is env params own _ h.1)
    ∙ ap (λ k. kind_holds env params collation k (cell env item site)) (sym h.2)
serves_is env params item site collation kind (Any es) h =
    ap is_true (truth_again _)
    ∙ equalities_are env params item site collation es h.keys h.equalities
    ∙ ap (λ k. kind_holds env params collation k (cell env item site)) (sym h.says)
serves_is env params item site collation kind e h = absurd h

-- an Int compares alike under every collation
int_alike : (a b : Collation) (n : ℤ) (k : Value) → value_cmp a (Int n) k ≡ value_cmp b (Int n) k
int_alike a b n Null = refl
int_alike a b n (Int m) = refl
int_alike a b n (Dec u) = refl
int_alike a b n (Text t) = refl
int_alike a b n (Blob t) = refl

int_compares : (op : Op) (a b : Collation) (n : ℤ) (k : Value)
    → compares op a (Int n) k ≡ compares op b (Int n) k
int_compares op a b n k =
    ap (λ o. is_true (cond (is_null k) None (Some (op_holds op o)))) (int_alike a b n k)

int_equals_any : (a b : Collation) (n : ℤ) (ks : List Value)
    → equals_any a ks (Int n) ≡ equals_any b ks (Int n)
int_equals_any a b n [] = refl
int_equals_any a b n (k ∷ ks) = rw (int_compares IsEqual a b n k, int_equals_any a b n ks) refl

int_kind : (env : Assignment) (params : List Value) (a b : Collation) (kind : TermKind) (n : ℤ)
    → kind_holds env params a kind (Int n) ≡ kind_holds env params b kind (Int n)
int_kind env params a b (Equals key) n = int_compares IsEqual a b n (key_value env params key)
int_kind env params a b (Within keys) n = int_equals_any a b n (map (key_value env params) keys)
int_kind env params a b IsNothing n = refl
int_kind env params a b (Low key inclusive) n =
    int_compares (cond inclusive IsAtLeast IsAbove) a b n (key_value env params key)
int_kind env params a b (High key inclusive) n =
    int_compares (cond inclusive IsAtMost IsBelow) a b n (key_value env params key)

rowid_at : (alias : Option ℕ) (site : Site) (row : Row) → IsRowid alias site → AliasHolds alias row
    → site_value site row ≡ Int row.rowid
rowid_at alias AtRowid row h k = refl
rowid_at alias (AtColumn column) row h k = k column h

null_kind : (env : Assignment) (params : List Value) (a b : Collation) (kind : TermKind) (v : Value)
    → kind ≡ IsNothing → kind_holds env params a kind v ≡ kind_holds env params b kind v
null_kind env params a b kind v e =
    ap (λ k. kind_holds env params a k v) e ∙ sym (ap (λ k. kind_holds env params b k v) e)

-- a term that may be used at a column says of its value what it says of its own column's
pub may_use_is : (env : Assignment) (params : List Value) (alias : Option ℕ) (s : SortColumn)
    (t : Term) (row : Row)
    → MayUse alias s t → AliasHolds alias row
    → kind_holds env params s.collation t.kind (site_value s.site row)
    ≡ kind_holds env params t.collation t.kind (site_value t.column row)
may_use_is env params alias s t row (inl (at, inl same)) k =
    ap (λ z. kind_holds env params s.collation t.kind (site_value z row)) (sym at)
    ∙ ap (λ c. kind_holds env params c t.kind (site_value t.column row)) (sym same)
may_use_is env params alias s t row (inl (at, inr null)) k =
    ap (λ z. kind_holds env params s.collation t.kind (site_value z row)) (sym at)
    ∙ null_kind env params s.collation t.collation t.kind (site_value t.column row) null
may_use_is env params alias s t row (inr (at, is)) k =
    ap (kind_holds env params s.collation t.kind) (rowid_at alias s.site row is k)
    ∙ int_kind env params s.collation t.collation t.kind row.rowid
    ∙ sym (ap (λ z. kind_holds env params t.collation t.kind (site_value z row)) at)

part_is : (env : Assignment) (params : List Value) (collation : Collation) (kind : TermKind)
    (p : EqPart) (v : Value)
    → part_of kind ≡ Some p
    → part_holds collation (part_value env params p) v ≡ kind_holds env params collation kind v
part_is env params collation (Equals key) p v h =
    ap (λ q. part_holds collation (part_value env params q) v) (sym (some_is _ p h))
part_is env params collation (Within keys) p v h =
    ap (λ q. part_holds collation (part_value env params q) v) (sym (some_is _ p h))
part_is env params collation IsNothing p v h =
    ap (λ q. part_holds collation (part_value env params q) v) (sym (some_is _ p h))
part_is env params collation (Low key i) p v h = absurd (cc)
part_is env params collation (High key i) p v h = absurd (cc)

edge_is : (env : Assignment) (params : List Value) (alias : Option ℕ) (s : SortColumn)
    (kind : KeyExpr → Bool → TermKind) (test : Option End → Value → Bool)
    → ((v : Value) → test None v ≡ true)
    → ((e : Edge) (v : Value) → test (end_value env params (Some e)) v
    ≡ kind_holds env params s.collation (kind e.key e.inclusive) v)
    → (edge : Option Edge) (ts : List Term) (row : Row)
    → EdgeFrom kind alias s edge ts → AliasHolds alias row
    → test (end_value env params edge) (site_value s.site row) ≡ terms_true env params ts row
edge_is env params alias s kind test none some None ts row h k =
    none (site_value s.site row) ∙ sym (ap (λ us. terms_true env params us row) h)
edge_is env params alias s kind test none some (Some e) ts row h k =
    some e (site_value s.site row)
    ∙ ap (λ d. kind_holds env params s.collation d (site_value s.site row)) (sym h.3)
    ∙ may_use_is env params alias s h.0 row h.2 k
    ∙ sym (and_none _) ∙ sym (ap (λ us. terms_true env params us row) h.1)

pub true-append : (env : Assignment) (params : List Value) (ts us : List Term) (row : Row)
    → terms_true env params (ts ++ us) row
    ≡ (terms_true env params ts row && terms_true env params us row)
true-append env params [] us row = refl
true-append env params (t ∷ ts) us row =
    rw (true-append env params ts us row)
    (and_assoc (kind_holds env params t.collation t.kind (site_value t.column row))
    (terms_true env params ts row) (terms_true env params us row))

-- what a path carries is true of a row exactly where its used terms are
pub carries_is : (env : Assignment) (params : List Value) (alias : Option ℕ) (ss : List SortColumn)
    (eqs : List EqPart) (low high : Option Edge) (ts : List Term) (row : Row)
    → Carries alias ss eqs low high ts → AliasHolds alias row
    → parts_hold ss (map (part_value env params) eqs) (end_value env params low)
    (end_value env params high) row ≡ terms_true env params ts row
carries_is env params alias [] eqs low high ts row h k =
    sym (ap (λ us. terms_true env params us row) h)
carries_is env params alias (s ∷ ss) [] low high ts row h k =
    rw (
      edge_is env params alias s Low (low_holds s.collation) (λ v. refl) (λ e v. refl) low h.0 row
          h.3 k,
      edge_is env params alias s High (high_holds s.collation) (λ v. refl) (λ e v. refl) high h.1
          row h.4 k,
    )
    (sym (true-append env params h.0 h.1 row) ∙ sym (ap (λ us. terms_true env params us row) h.2))
carries_is env params alias (s ∷ ss) (p ∷ ps) low high [] row h k = absurd h
carries_is env params alias (s ∷ ss) (p ∷ ps) low high (t ∷ ts) row h k =
    rw (
      part_is env params s.collation t.kind p (site_value s.site row) h.1,
      may_use_is env params alias s t row h.0 k,
      carries_is env params alias ss ps low high ts row h.2 k,
    ) refl
