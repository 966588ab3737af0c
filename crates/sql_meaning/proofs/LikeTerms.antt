-- The bounds that a LIKE gives hold where the LIKE does, but for numbers in a column of TEXT, which
-- no database has.
use Rattle.std.specs.List.{AllByRecursion}
use Rattle.std.specs.declared.cmp.Ordering.{Ordering}
use Rattle.std.specs.declared.cmp.Ordering.TheVariants.{Less, Equal as Ties, Greater}
use Rattle.std.specs.Ordering.{is_ge, is_lt}
use Rattle.std.specs.Prelude.{IfSome}
use Rattle.std.proofs.Common.{◌≡◌, ℕ, Bool, true, false, ◌&&◌, ◌||◌, ◌==◌, cond, List, []}
use Rattle.std.proofs.Common.{Option, Some, None, refl, ap, sym, ◌∙◌, subst, slice_get}
use Rattle.std.proofs.lemmas.Bool.{eqb-true}
use Rattle.list_laws.proofs.Bools.{and_left, and_right, or_first, or_later}
use Rattle.list_laws.proofs.Lists.{all_map}
use Rattle.sql_meaning.specs.Values.{Value, Null, Int, Dec, Text, Blob, Nocase, Affinity, Integer}
use Rattle.sql_meaning.specs.Values.{Real, Numeric, TextAffinity, BlobAffinity, value_cmp}
use Rattle.sql_meaning.specs.Conversions.{IsFixed, is_text}
use Rattle.sql_meaning.specs.Rows.{Site, AtRowid, AtColumn, Row, Assignment, cell, site_value}
use Rattle.sql_meaning.specs.Rows.{row_value}
use Rattle.sql_meaning.specs.Likes.{like3, like_bounds, Range}
use Rattle.sql_meaning.specs.Expressions.{BExpr, Lit, Like, ColumnRef, bare_column, IsAtLeast}
use Rattle.sql_meaning.specs.Expressions.{IsBelow}
use Rattle.sql_meaning.specs.Evaluation.{ev, holds, is_true, compares}
use Rattle.sql_meaning.specs.Schemas.{Schema, Table, TableColumn, column_or, column_of_table}
use Rattle.sql_meaning.specs.Schemas.{columns_of, ConformsTo}
use Rattle.sql_meaning.specs.Items.{Item, own_column, table_column}
use Rattle.sql_meaning.specs.Statements.{table_of}
use Rattle.sql_meaning.specs.Orders.{same_collation}
use Rattle.sql_meaning.specs.Terms.{Term, term_holds}
use Rattle.sql_meaning.specs.LikeTerms.{literal_bounds, orders_as_like, below_term, range_terms}
use Rattle.sql_meaning.specs.LikeTerms.{column_range, like_terms}
use Rattle.sql_meaning.specs.TermLaws.{LikeTermsHold}
use Rattle.sql_meaning.proofs.Terms.{bare_is, truth_again}
use Rattle.sql_meaning.proofs.LikeLaws.{likes_stand_in_bounds}

abbrev pub is_number : Value → Bool
is_number (Int n) = true
is_number (Dec u) = true
is_number v = false

-- a number in a column of TEXT
abbrev pub is_misplaced : Schema → List Item → ℕ → Site → Value → Bool
is_misplaced schema items item site v =
    is_text (Some (own_column schema items (record { item = item; site = site })).affinity)
    && is_number v

abbrev pub no_conjunct : Option ℕ → Bool
no_conjunct None = true
no_conjunct (Some number) = false

-- the term holds; or it follows from other conjuncts, and its column holds a misplaced number. On
-- rows of a database it says the same as the term, and it holds on every assignment on which the
-- conjuncts do
abbrev pub term_passes : Schema → List Item → List Value → ℕ → Assignment → Term → Bool
term_passes schema items params item env t =
    term_holds env params item t
    || (no_conjunct t.conjunct && is_misplaced schema items item t.column (cell env item t.column))

-- the row's columns of TEXT hold no numbers
abbrev pub HasNoneMisplaced : Schema → List Item → ℕ → Row → Type 0
HasNoneMisplaced schema items item row =
    (site : Site) → is_misplaced schema items item site (site_value site row) ≡ false

fixed_case : (a : Affinity) (v : Value) → IsFixed a v → (is_text (Some a) && is_number v) ≡ false
fixed_case TextAffinity (Int n) h = absurd (cc)
fixed_case TextAffinity (Dec u) h = absurd (cc)
fixed_case TextAffinity Null h = refl
fixed_case TextAffinity (Text t) h = refl
fixed_case TextAffinity (Blob b) h = refl
fixed_case Integer v h = refl
fixed_case Real v h = refl
fixed_case Numeric v h = refl
fixed_case BlobAffinity v h = refl

column_case : (o : Option TableColumn) (v : Value)
    → ((column : TableColumn) → o ≡ Some column → IsFixed column.affinity v)
    → (is_text (Some (column_or o).affinity) && is_number v) ≡ false
column_case None v f = refl
column_case (Some c) v f = fixed_case c.affinity v (f c refl)

table_case : (t : Option Table) (number : ℕ) (v : Value)
    → ((column : TableColumn) → slice_get (columns_of t) number ≡ Some column
    → IsFixed column.affinity v)
    → (is_text (Some (column_of_table t number).affinity) && is_number v) ≡ false
table_case None number v f = refl
table_case (Some t) number v f = column_case (slice_get t.columns number) v f

item_case : (schema : Schema) (o : Option Item) (number : ℕ) (v : Value)
    → ((column : TableColumn)
    → slice_get (columns_of (slice_get schema.tables (table_of o))) number ≡ Some column
    → IsFixed column.affinity v)
    → (is_text (Some (table_column schema o number).affinity) && is_number v) ≡ false
item_case schema None number v f = refl
item_case schema (Some item) number v f =
    table_case (slice_get schema.tables item.table) number v f

-- a row of a database has no misplaced number
pub none_misplaced : (schema : Schema) (items : List Item) (item : ℕ) (row : Row)
    → ConformsTo (slice_get schema.tables (table_of (slice_get items item))) row
    → HasNoneMisplaced schema items item row
none_misplaced schema items item row c AtRowid = refl
none_misplaced schema items item row c (AtColumn number) =
    item_case schema (slice_get items item) number (site_value (AtColumn number) row)
    (c.fixed number)

or_none : (a b : Bool) → b ≡ false → (a || b) ≡ a
or_none true b h = refl
or_none false b h = h

never : (a b : Bool) → b ≡ false → (a && b) ≡ false
never true b h = h
never false b h = refl

-- where no number is misplaced, a term passes just where it holds
pub passes_is : (schema : Schema) (items : List Item) (params : List Value) (item : ℕ)
    (env : Assignment) (t : Term)
    → is_misplaced schema items item t.column (cell env item t.column) ≡ false
    → term_passes schema items params item env t ≡ term_holds env params item t
passes_is schema items params item env t h =
    or_none (term_holds env params item t) _ (never (no_conjunct t.conjunct) _ h)

-- a direct term passes just where it holds
pub direct_passes : (schema : Schema) (items : List Item) (params : List Value) (item : ℕ)
    (env : Assignment) (t : Term) (number : ℕ)
    → t.conjunct ≡ Some number → term_passes schema items params item env t ≡ true
    → term_holds env params item t ≡ true
direct_passes schema items params item env t number e h =
    sym
    (or_none (term_holds env params item t) _
    (ap
    (λ o. no_conjunct o && is_misplaced schema items item t.column (cell env item t.column)) e))
    ∙ h

at_least : (o : Ordering) → (o ≡ Less → ⊥) → is_ge o ≡ true
at_least Less f = absurd (f refl)
at_least Ties f = refl
at_least Greater f = refl

low_is : (v : Value) (pattern : List ℕ) (range : Range) → is_true (like3 v (Text pattern)) ≡ true
    → like_bounds pattern ≡ Some range
    → (compares IsAtLeast Nocase v (Text range.low) || is_number v) ≡ true
low_is Null pattern range h e = absurd (cc)
low_is (Int n) pattern range h e =
    or_later (compares IsAtLeast Nocase (Int n) (Text range.low)) true refl
low_is (Dec u) pattern range h e =
    or_later (compares IsAtLeast Nocase (Dec u) (Text range.low)) true refl
low_is (Text t) pattern range h e =
    or_first (compares IsAtLeast Nocase (Text t) (Text range.low)) false
    (at_least (value_cmp Nocase (Text t) (Text range.low))
    (likes_stand_in_bounds t pattern range h e).0)
low_is (Blob b) pattern range h e = absurd (cc)

high_is : (v : Value) (pattern : List ℕ) (range : Range) (high : List ℕ)
    → is_true (like3 v (Text pattern)) ≡ true → like_bounds pattern ≡ Some range
    → range.high ≡ Some high → (compares IsBelow Nocase v (Text high) || is_number v) ≡ true
high_is Null pattern range high h e g = absurd (cc)
high_is (Int n) pattern range high h e g =
    or_later (compares IsBelow Nocase (Int n) (Text high)) true refl
high_is (Dec u) pattern range high h e g =
    or_later (compares IsBelow Nocase (Dec u) (Text high)) true refl
high_is (Text t) pattern range high h e g =
    or_first (compares IsBelow Nocase (Text t) (Text high)) false
    (ap is_lt
    (subst (λ (o : Option (List ℕ)). IfSome o (λ z. value_cmp Nocase (Text t) (Text z) ≡ Less)) g
    (likes_stand_in_bounds t pattern range h e).1))
high_is (Blob b) pattern range high h e g = absurd (cc)

-- a term that passes without a conjunct
abbrev pub Passes : Schema → List Item → List Value → ℕ → Assignment → Term → Type 0
Passes schema items params item env t =
    (t.conjunct ≡ None) × (term_passes schema items params item env t ≡ true)

below_passes : (schema : Schema) (items : List Item) (params : List Value) (item : ℕ)
    (env : Assignment) (site : Site) (o : Option (List ℕ))
    → is_text (Some (own_column schema items (record { item = item; site = site })).affinity) ≡ true
    → ((high : List ℕ) → o ≡ Some high
    → (compares IsBelow Nocase (cell env item site) (Text high) || is_number (cell env item site))
    ≡ true)
    → AllByRecursion (Passes schema items params item env) (below_term site o)
below_passes schema items params item env site None text f = tt
below_passes schema items params item env site (Some high) text f = (
  (
    refl,
    ap
        (λ b. compares IsBelow Nocase (cell env item site) (Text high)
        || (b && is_number (cell env item site))) text
        ∙ f high refl,
  ),
  tt,
)

range_passes : (schema : Schema) (items : List Item) (params : List Value) (item : ℕ)
    (env : Assignment) (site : Site) (pattern : List ℕ) (range : Range)
    → is_text (Some (own_column schema items (record { item = item; site = site })).affinity) ≡ true
    → is_true (like3 (cell env item site) (Text pattern)) ≡ true
    → like_bounds pattern ≡ Some range
    → AllByRecursion (Passes schema items params item env) (range_terms site range)
range_passes schema items params item env site pattern range text h e = (
  (
    refl,
    ap
        (λ b. compares IsAtLeast Nocase (cell env item site) (Text range.low)
        || (b && is_number (cell env item site))) text
        ∙ low_is (cell env item site) pattern range h e,
  ),
  below_passes schema items params item env site range.high text
      (λ high g. high_is (cell env item site) pattern range high h e g),
)

-- a pattern with bounds is a text
pattern_is : (e : BExpr) (range : Range) → literal_bounds e ≡ Some range
    → (pattern : List ℕ) × (e ≡ Lit (Text pattern)) × (like_bounds pattern ≡ Some range)
pattern_is (Lit (Text pattern)) range h = (pattern, refl, h)
pattern_is (Lit v) range h = absurd (cc)
pattern_is e range h = absurd (cc)

flag_passes : (schema : Schema) (items : List Item) (params : List Value) (item : ℕ)
    (env : Assignment) (own pattern : BExpr) (c : ColumnRef) (range : Range)
    → bare_column own ≡ Some c → literal_bounds pattern ≡ Some range
    → is_true (like3 (ev env params own) (ev env params pattern)) ≡ true → (b : Bool)
    → ((c.item == item) && orders_as_like (own_column schema items c)) ≡ b
    → AllByRecursion (Passes schema items params item env) (cond b (range_terms c.site range) [])
flag_passes schema items params item env own pattern c range is given h false e = tt
flag_passes schema items params item env own pattern c range is given h true e =
    let same : c.item ≡ item =
    eqb-true c.item item (and_left _ (orders_as_like (own_column schema items c)) e) in
    let text : is_text (Some (own_column schema items c).affinity) ≡ true =
    and_left _ (same_collation (own_column schema items c).collation Nocase)
    (and_right (c.item == item) _ e) in
    let p = pattern_is pattern range given in
    range_passes schema items params item env c.site p.0 range
    (ap
    (λ i. is_text
    (Some (own_column schema items (record { item = i; site = c.site })).affinity)) (sym same)
    ∙ text)
    (ap (λ i. is_true (like3 (cell env i c.site) (Text p.0))) (sym same)
    ∙ ap (λ v. is_true (like3 v (Text p.0))) (sym (bare_is env params own c is))
    ∙ ap (λ z. is_true (like3 (ev env params own) (ev env params z))) (sym p.1)
    ∙ h)
    p.2

found_passes : (schema : Schema) (items : List Item) (params : List Value) (item : ℕ)
    (env : Assignment) (own pattern : BExpr) (o : Option ColumnRef) (r : Option Range)
    → bare_column own ≡ o → literal_bounds pattern ≡ r
    → is_true (like3 (ev env params own) (ev env params pattern)) ≡ true
    → AllByRecursion (Passes schema items params item env) (column_range schema items item o r)
found_passes schema items params item env own pattern None r is given h = tt
found_passes schema items params item env own pattern (Some c) None is given h = tt
found_passes schema items params item env own pattern (Some c) (Some range) is given h =
    flag_passes schema items params item env own pattern c range is given h _ refl

flag_unnumbered : (b : Bool) (site : Site) (range : Range)
    → AllByRecursion (λ t. t.conjunct ≡ None) (cond b (range_terms site range) [])
flag_unnumbered false site range = tt
flag_unnumbered true site range = (refl, below range.high)
  where
    below : (o : Option (List ℕ)) → AllByRecursion (λ t. t.conjunct ≡ None) (below_term site o)
    below None = tt
    below (Some high) = (refl, tt)

found_unnumbered : (schema : Schema) (items : List Item) (item : ℕ) (o : Option ColumnRef)
    (r : Option Range)
    → AllByRecursion (λ t. t.conjunct ≡ None) (column_range schema items item o r)
found_unnumbered schema items item None r = tt
found_unnumbered schema items item (Some c) None = tt
found_unnumbered schema items item (Some c) (Some range) = flag_unnumbered _ c.site range

-- the bounds that a conjunct gives have no conjunct
pub like_unnumbered : (schema : Schema) (items : List Item) (item : ℕ) (e : BExpr)
    → AllByRecursion (λ t. t.conjunct ≡ None) (like_terms schema items item e)
like_unnumbered schema items item (Like false own pattern) =
    found_unnumbered schema items item (bare_column own) (literal_bounds pattern)
like_unnumbered schema items item e = tt

-- where a LIKE holds, the bounds that follow from it pass
pub like_passes : (schema : Schema) (items : List Item) (params : List Value) (item : ℕ)
    (env : Assignment) (e : BExpr) → holds env params e ≡ true
    → AllByRecursion (Passes schema items params item env) (like_terms schema items item e)
like_passes schema items params item env (Like false own pattern) h =
    found_passes schema items params item env own pattern (bare_column own) (literal_bounds pattern)
    refl refl (sym (ap is_true (truth_again _)) ∙ h)
like_passes schema items params item env e h = tt

pub like_terms_hold : LikeTermsHold
like_terms_hold = λ schema items item e env params row c at h.
    all_map _ _ (like_terms schema items item e)
    (λ t p. (
      p.0,
      sym
          (passes_is schema items params item env t
          (ap (λ o. is_misplaced schema items item t.column (row_value t.column o)) at
          ∙ none_misplaced schema items item row c t.column))
          ∙ p.1,
    ))
    (like_passes schema items params item env e h)
