-- Held positions tie along a walk.
use Rattle.std.specs.declared.cmp.Ordering.TheVariants.{Equal as Ties}
use Rattle.std.specs.List.{AllByRecursion, slice_get}
use Rattle.std.proofs.Common.{Bool, cond, not, List, ◌≡◌, refl, ◌∙◌, true, false, ap, ℕ, Option}
use Rattle.std.proofs.Common.{sym, [], ◌∷◌, ap₂, map, subst}
use Rattle.std.proofs.lemmas.Cmp.{tied_back}
use Rattle.std.proofs.lemmas.Bool.{eqb-true}
use Rattle.list_laws.proofs.Bools.{or_cases, and_left, and_right}
use Rattle.sql_meaning.specs.Values.{value_cmp, Int, Collation, Binary, Value, Null, Dec, Text}
use Rattle.sql_meaning.specs.Values.{Blob, is_null, Nocase, Rtrim}
use Rattle.sql_meaning.specs.Rows.{Row, site_value, AtColumn, AtRowid, Assignment, Site}
use Rattle.sql_meaning.specs.IndexLists.{directed, SortColumn}
use Rattle.sql_meaning.specs.OrderState.{Position, is_alias, index_positions, columns_at}
use Rattle.sql_meaning.specs.OrderState.{is_one_key, positions, column_site, part_held, path_held}
use Rattle.sql_meaning.specs.Orders.{same_collation, same_site}
use Rattle.sql_meaning.specs.Schemas.{IndexColumn, AliasHolds, Schema}
use Rattle.sql_meaning.specs.Paths.{EqPart, IndexScan, Path, TableScan, RowidEq, RowidRange}
use Rattle.sql_meaning.specs.Paths.{IndexSeek, Union, carried, OneKey, ManyKeys, NullKey}
use Rattle.sql_meaning.specs.Paths.{part_value, end_value}
use Rattle.sql_meaning.specs.Walks.{part_holds, End, parts_hold}
use Rattle.sql_meaning.proofs.Links.{equal_back, equal_along, parts_of}
use Rattle.sql_meaning.proofs.Order.{value_cmp_total}
use Rattle.sql_meaning.proofs.Rises.{pos_cmp, spot_of, column_site_is, spots_are}

-- what One and Null parts hold
null_is : (v : Value) → is_null v ≡ true → v ≡ Null
null_is Null h = refl
null_is (Int n) h = absurd (cc)
null_is (Dec u) h = absurd (cc)
null_is (Text t) h = absurd (cc)
null_is (Blob b) h = absurd (cc)

not_many : (params : List Value) (env : Assignment) (collation : Collation) (p : EqPart)
    (v w : Value)
    → is_one_key p ≡ true → part_holds collation (part_value env params p) v ≡ true
    → part_holds collation (part_value env params p) w ≡ true → value_cmp collation v w ≡ Ties
not_many params env collation (OneKey key) v w o h k =
    (parts_of (is_null v) (is_null w) (value_cmp collation v w)
    (equal_along collation v _ w h (equal_back collation w _ k))).2
not_many params env collation (ManyKeys keys) v w o h k = absurd (cc)
not_many params env collation NullKey v w o h k =
    ap₂ (value_cmp collation) (null_is v h) (null_is w k)

int_same : (collation : Collation) (alias : Option ℕ) (column : ℕ) (x y : Row) → AliasHolds alias x
    → AliasHolds alias y
    → value_cmp collation (site_value (AtColumn column) x) (site_value (AtColumn column) y)
    ≡ value_cmp collation (site_value (column_site alias column) x)
    (site_value (column_site alias column) y)
int_same collation alias column x y hx hy =
    ap₂ (value_cmp collation) (sym (column_site_is alias column x hx (is_alias alias column) refl))
    (sym (column_site_is alias column y hy (is_alias alias column) refl))

-- a column that a One or Null part holds is the same in all rows of the walk
here_tied : (params : List Value) (env : Assignment) (alias : Option ℕ) (c : IndexColumn)
    (p : EqPart) (x y : Row)
    → AliasHolds alias x → AliasHolds alias y → is_one_key p ≡ true
    → part_holds c.collation (part_value env params p) (site_value (AtColumn c.column) x) ≡ true
    → part_holds c.collation (part_value env params p) (site_value (AtColumn c.column) y) ≡ true
    → value_cmp c.collation (site_value (column_site alias c.column) x)
    (site_value (column_site alias c.column) y) ≡ Ties
here_tied params env alias c p x y hx hy o h k =
    sym (int_same c.collation alias c.column x y hx hy)
    ∙ not_many params env c.collation p (site_value (AtColumn c.column) x)
    (site_value (AtColumn c.column) y) o h k

pub collation_is : (a b : Collation) → same_collation a b ≡ true → a ≡ b
collation_is Binary Binary h = refl
collation_is Nocase Nocase h = refl
collation_is Rtrim Rtrim h = refl
collation_is Binary Nocase h = absurd (cc)
collation_is Binary Rtrim h = absurd (cc)
collation_is Nocase Binary h = absurd (cc)
collation_is Nocase Rtrim h = absurd (cc)
collation_is Rtrim Binary h = absurd (cc)
collation_is Rtrim Nocase h = absurd (cc)

pub site_is : (a b : Site) → same_site a b ≡ true → a ≡ b
site_is AtRowid AtRowid h = refl
site_is (AtColumn c) (AtColumn d) h = ap AtColumn (eqb-true c d h)
site_is AtRowid (AtColumn d) h = absurd (cc)
site_is (AtColumn c) AtRowid h = absurd (cc)

pub part_tied : (params : List Value) (env : Assignment) (alias : Option ℕ) (cs : List IndexColumn)
    (eqs : List EqPart) (low high : Option End) (x y : Row) (site : Site) (collation : Collation)
    → AliasHolds alias x → AliasHolds alias y
    → parts_hold (map spot_of cs) (map (part_value env params) eqs) low high x ≡ true
    → parts_hold (map spot_of cs) (map (part_value env params) eqs) low high y ≡ true
    → part_held alias cs eqs site collation ≡ true
    → value_cmp collation (site_value site x) (site_value site y) ≡ Ties
part_tied params env alias [] eqs low high x y site collation hx hy h k held = absurd (cc)
part_tied params env alias (c ∷ cs) [] low high x y site collation hx hy h k held = absurd (cc)
part_tied params env alias (c ∷ cs) (p ∷ ps) low high x y site collation hx hy h k held =
    or_cases _ _
    (λ e. let same_s : column_site alias c.column ≡ site =
    site_is _ site
    (and_left _ (same_collation c.collation collation) (and_right (is_one_key p) _ e)) in
    let same_c : c.collation ≡ collation =
    collation_is c.collation collation
    (and_right (same_site (column_site alias c.column) site) _ (and_right (is_one_key p) _ e)) in
    sym (ap₂ (λ k s. value_cmp k (site_value s x) (site_value s y)) same_c same_s)
    ∙ here_tied params env alias c p x y hx hy (and_left (is_one_key p) _ e)
    (and_left _ (parts_hold (map spot_of cs) (map (part_value env params) ps) low high x) h)
    (and_left _ (parts_hold (map spot_of cs) (map (part_value env params) ps) low high y) k))
    (λ e. part_tied params env alias cs ps low high x y site collation hx hy
    (and_right
    (part_holds c.collation (part_value env params p) (site_value (AtColumn c.column) x)) _ h)
    (and_right
    (part_holds c.collation (part_value env params p) (site_value (AtColumn c.column) y)) _ k) e)
    held

pub directed_tie : (b : Bool) (collation : Collation) (v w : Value) → value_cmp collation v w ≡ Ties
    → directed b (value_cmp collation) v w ≡ Ties
directed_tie true collation v w h = tied_back (value_cmp_total collation) v w h
directed_tie false collation v w h = h

-- and so is a position that is held
abbrev pub Held : Bool → Row → Row → Position → Type 0
Held d x y p = p.held ≡ true → pos_cmp d p x y ≡ Ties

all_alias : (d : Bool) (x y : Row) (b : Bool) (ps : List Position) → AllByRecursion (Held d x y) ps
    → AllByRecursion (Held d x y) (cond b [] ps)
all_alias d x y true ps h = tt
all_alias d x y false ps h = h

positions_free : (alias : Option ℕ) (cs : List IndexColumn) (d : Bool) (x y : Row)
    → AllByRecursion (Held d x y) (index_positions alias cs [])
positions_free alias [] d x y = ((λ h. absurd (cc)), tt)
positions_free alias (c ∷ cs) d x y = (
  (λ h. absurd (cc)),
  all_alias d x y (is_alias alias c.column) _ (positions_free alias cs d x y),
)

pub positions_tied : (params : List Value) (env : Assignment) (alias : Option ℕ)
    (cs : List IndexColumn) (eqs : List EqPart) (low high : Option End) (d : Bool) (x y : Row)
    → AliasHolds alias x → AliasHolds alias y
    → parts_hold (map spot_of cs) (map (part_value env params) eqs) low high x ≡ true
    → parts_hold (map spot_of cs) (map (part_value env params) eqs) low high y ≡ true
    → AllByRecursion (Held d x y) (index_positions alias cs eqs)
positions_tied params env alias [] eqs low high d x y hx hy h k = ((λ e. absurd (cc)), tt)
positions_tied params env alias (c ∷ cs) [] low high d x y hx hy h k =
    positions_free alias (c ∷ cs) d x y
positions_tied params env alias (c ∷ cs) (p ∷ ps) low high d x y hx hy h k = (
  (λ e. directed_tie (cond d (not c.falling) c.falling) c.collation _ _
      (here_tied params env alias c p x y hx hy e
      (and_left _ (parts_hold (map spot_of cs) (map (part_value env params) ps) low high x) h)
      (and_left _ (parts_hold (map spot_of cs) (map (part_value env params) ps) low high y) k))),
  all_alias d x y (is_alias alias c.column) _
      (positions_tied params env alias cs ps low high d x y hx hy
      (and_right
      (part_holds c.collation (part_value env params p) (site_value (AtColumn c.column) x)) _ h)
      (and_right
      (part_holds c.collation (part_value env params p) (site_value (AtColumn c.column) y)) _ k)),
)

-- for each path that isn't a union: what its parts hold is the same in two rows of its walk
pub path_tied : (schema : Schema) (params : List Value) (env : Assignment) (alias : Option ℕ)
    (path : Path) (x y : Row) (site : Site) (collation : Collation)
    → AliasHolds alias x → AliasHolds alias y → carried schema params path env x ≡ true
    → carried schema params path env y ≡ true → path_held schema alias path site collation ≡ true
    → value_cmp collation (site_value site x) (site_value site y) ≡ Ties
path_tied schema params env alias (IndexSeek index eqs low high) x y site collation hx hy h k held =
    let are = spots_are (slice_get schema.indexes index) in
    part_tied params env alias (columns_at (slice_get schema.indexes index)) eqs
    (end_value env params low) (end_value env params high) x y site collation hx hy
    (subst
    (λ (ss : List SortColumn). parts_hold ss (map (part_value env params) eqs)
    (end_value env params low) (end_value env params high) x ≡ true) are h)
    (subst
    (λ (ss : List SortColumn). parts_hold ss (map (part_value env params) eqs)
    (end_value env params low) (end_value env params high) y ≡ true) are k) held
path_tied schema params env alias TableScan x y site collation hx hy h k held = absurd (cc)
path_tied schema params env alias (RowidEq part) x y site collation hx hy h k held = absurd (cc)
path_tied schema params env alias (RowidRange low high) x y site collation hx hy h k held =
    absurd (cc)
path_tied schema params env alias (IndexScan index) x y site collation hx hy h k held = absurd (cc)
path_tied schema params env alias (Union branches) x y site collation hx hy h k held = absurd (cc)

pub path_positions_tied : (schema : Schema) (params : List Value) (env : Assignment)
    (alias : Option ℕ) (path : Path) (d : Bool) (x y : Row)
    → AliasHolds alias x → AliasHolds alias y → carried schema params path env x ≡ true
    → carried schema params path env y ≡ true
    → AllByRecursion (Held d x y) (positions schema alias path)
path_positions_tied schema params env alias (IndexSeek index eqs low high) d x y hx hy h k =
    let are = spots_are (slice_get schema.indexes index) in
    positions_tied params env alias (columns_at (slice_get schema.indexes index)) eqs
    (end_value env params low) (end_value env params high) d x y hx hy
    (subst
    (λ (ss : List SortColumn). parts_hold ss (map (part_value env params) eqs)
    (end_value env params low) (end_value env params high) x ≡ true) are h)
    (subst
    (λ (ss : List SortColumn). parts_hold ss (map (part_value env params) eqs)
    (end_value env params low) (end_value env params high) y ≡ true) are k)
path_positions_tied schema params env alias TableScan d x y hx hy h k = ((λ e. absurd (cc)), tt)
path_positions_tied schema params env alias (RowidEq part) d x y hx hy h k = (
  (λ e. directed_tie (cond d true false) Binary _ _
      (not_many params env Binary part (Int x.rowid) (Int y.rowid) e (and_left _ true h)
      (and_left _ true k))),
  tt,
)
path_positions_tied schema params env alias (RowidRange low high) d x y hx hy h k =
    ((λ e. absurd (cc)), tt)
path_positions_tied schema params env alias (IndexScan index) d x y hx hy h k =
    positions_free alias (columns_at (slice_get schema.indexes index)) d x y
path_positions_tied schema params env alias (Union branches) d x y hx hy h k = tt
