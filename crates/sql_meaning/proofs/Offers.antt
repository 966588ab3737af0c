-- What a walk has, told by its used terms.
use Rattle.std.specs.List.{AllByRecursion, filter}
use Rattle.std.proofs.Common.{◌≡◌, Bool, true, false, ◌&&◌, refl, ℕ, ◌||◌, ◌==◌, List, ◌∷◌, None}
use Rattle.std.proofs.Common.{get_or, [], ap, ap₂, map, cond, ◌∙◌, ◌≢◌, Option, ◌<◌, Some, length}
use Rattle.std.proofs.Common.{get_or-set_same, sym, reverse}
use Rattle.std.proofs.lemmas.Bool.{eqb-true}
use Rattle.std.proofs.lemmas.List.Sorted.{IsPermutation-reverse}
use Rattle.list_laws.specs.Nest.{Env, Agree, Looks, place}
use Rattle.list_laws.specs.Tally.{SameTally, tally}
use Rattle.list_laws.proofs.Bools.{and_left, and_right}
use Rattle.list_laws.proofs.Lists.{all_map, all_both}
use Rattle.list_laws.proofs.Nests.{place_other}
use Rattle.list_laws.proofs.Tallies.{SameTally-refl, SameTally-sym, SameTally-map}
use Rattle.list_laws.proofs.Permutations.{SameTally-from_permutation}
use Rattle.sql_meaning.specs.Statements.{has_number, all_in, Bound}
use Rattle.sql_meaning.specs.Items.{Item}
use Rattle.sql_meaning.specs.Values.{Value, Collation}
use Rattle.sql_meaning.specs.Conversions.{converted_by}
use Rattle.sql_meaning.specs.Rows.{Assignment, row_value, cell, Row, Site, site_value}
use Rattle.sql_meaning.specs.Expressions.{names, IsEqual, IsBelow, IsAtMost, IsAbove, IsAtLeast}
use Rattle.sql_meaning.specs.Paths.{KeyExpr, key_value, Path, form_of, form_holds, TableScan}
use Rattle.sql_meaning.specs.Paths.{RowidEq, RowidRange, IndexScan, IndexSeek, Union, carried}
use Rattle.sql_meaning.specs.Paths.{is_union, Paths, Nowhere, Then, any_carried, walk}
use Rattle.sql_meaning.specs.Evaluation.{compares, equals_any}
use Rattle.sql_meaning.specs.Terms.{TermKind, Equals, Within, IsNothing, Low, High, term_keys}
use Rattle.sql_meaning.specs.Terms.{kind_holds, Term, term_holds, terms_true, FormCarries}
use Rattle.sql_meaning.specs.UsedTerms.{is_usable, keys_in, AreUsable, all_terms}
use Rattle.sql_meaning.specs.UsedTerms.{any_terms, Used, AllOf, AnyOf}
use Rattle.sql_meaning.specs.UsedTerms.{UsedPlaced, BranchesCarry, PathCarries}
use Rattle.sql_meaning.specs.Schemas.{Schema, AliasHolds, RisingRows}
use Rattle.sql_meaning.specs.Plans.{directed_walk}
use Rattle.sql_meaning.proofs.Evaluation.{ev_same}
use Rattle.sql_meaning.proofs.Terms.{carries_is}
use Rattle.sql_meaning.proofs.LikeTerms.{term_passes, no_conjunct, is_misplaced, passes_is}
use Rattle.sql_meaning.proofs.LikeTerms.{HasNoneMisplaced}
use Rattle.sql_meaning.proofs.PassingTerms.{used_passes, used_are, used_agree}
use Rattle.sql_meaning.proofs.Paths.{walk_same}
use Rattle.sql_meaning.proofs.UsedTerms.{used_holds}

-- the rows of a placed item
agree_step : {X : Type 0} (i m : ℕ) (ms : List ℕ) (env a : Env X) → Agree (m ∷ ms) env a
    → (has_number i ms ≡ true → get_or a i None ≡ get_or env i None) → (b : Bool) → (i == m) ≡ b
    → (b || has_number i ms) ≡ true → get_or a i None ≡ get_or env i None
agree_step i m ms env a h ih true e t = rw (eqb-true i m e) h.0
agree_step i m ms env a h ih false e t = ih t

pub agree_at : {X : Type 0} (placed : List ℕ) (env a : Env X) (i : ℕ) → Agree placed env a
    → has_number i placed ≡ true → get_or a i None ≡ get_or env i None
agree_at [] env a i h e = absurd (cc)
agree_at (m ∷ ms) env a i h e = agree_step i m ms env a h (agree_at ms env a i h.1) (i == m) refl e

pub agree_in : {X : Type 0} (placed : List ℕ) (env a : Env X) (ns : List ℕ) → Agree placed env a
    → AllByRecursion (λ i. has_number i placed ≡ true) ns → Agree ns env a
agree_in placed env a ns h p = all_map _ _ ns (λ i e. agree_at placed env a i h e) p

pub all_in_all : (ns ms : List ℕ) → all_in ns ms ≡ true
    → AllByRecursion (λ i. has_number i ms ≡ true) ns
all_in_all [] ms h = tt
all_in_all (n ∷ ns) ms h = (and_left _ _ h, all_in_all ns ms (and_right (has_number n ms) _ h))

key_same : (params : List Value) (k : KeyExpr) (env a : Assignment) → Agree (names k.expr) env a
    → key_value a params k ≡ key_value env params k
key_same params k env a h = ap (converted_by k.conversion) (ev_same params k.expr env a h)

keys_same : (params : List Value) (ks : List KeyExpr) (env a : Assignment)
    → AllByRecursion (λ k. Agree (names k.expr) env a) ks
    → map (key_value a params) ks ≡ map (key_value env params) ks
keys_same params [] env a h = refl
keys_same params (k ∷ ks) env a h =
    ap₂ (λ v vs. v ∷ vs) (key_same params k env a h.0) (keys_same params ks env a h.1)

-- a term says the same where the items that its keys name have the same rows
pub kind_same : (params : List Value) (collation : Collation) (kind : TermKind) (v : Value)
    (env a : Assignment)
    → AllByRecursion (λ k. Agree (names k.expr) env a) (term_keys kind)
    → kind_holds a params collation kind v ≡ kind_holds env params collation kind v
kind_same params collation (Equals key) v env a h =
    ap (compares IsEqual collation v) (key_same params key env a h.0)
kind_same params collation (Within keys) v env a h =
    ap (λ ks. equals_any collation ks v) (keys_same params keys env a h)
kind_same params collation IsNothing v env a h = refl
kind_same params collation (Low key inclusive) v env a h =
    ap (compares (cond inclusive IsAtLeast IsAbove) collation v) (key_same params key env a h.0)
kind_same params collation (High key inclusive) v env a h =
    ap (compares (cond inclusive IsAtMost IsBelow) collation v) (key_same params key env a h.0)

-- the items that the keys of a usable term name are placed
pub usable_names : (placed : List ℕ) (ks : List KeyExpr) → keys_in placed ks ≡ true
    → AllByRecursion (λ k. AllByRecursion (λ i. has_number i placed ≡ true) (names k.expr)) ks
usable_names placed [] h = tt
usable_names placed (k ∷ ks) h = (
  all_in_all (names k.expr) placed (and_left _ (keys_in placed ks) h),
  usable_names placed ks (and_right (all_in (names k.expr) placed) _ h),
)

term_same : (params : List Value) (item : ℕ) (placed : List ℕ) (t : Term) (env a : Assignment)
    → is_usable placed t ≡ true → Agree (item ∷ placed) env a
    → term_holds a params item t ≡ term_holds env params item t
term_same params item placed t env a p h =
    kind_same params t.collation t.kind (cell a item t.column) env a
    (all_map _ _ (term_keys t.kind) (λ k q. agree_in placed env a (names k.expr) h.1 q)
    (usable_names placed (term_keys t.kind) p))
    ∙ ap (λ o. kind_holds env params t.collation t.kind (row_value t.column o)) h.0

passes_same : (schema : Schema) (items : List Item) (params : List Value) (item : ℕ)
    (placed : List ℕ) (env a : Assignment) (t : Term)
    → Agree (item ∷ placed) env a → is_usable placed t ≡ true
    → term_passes schema items params item a t ≡ term_passes schema items params item env t
passes_same schema items params item placed env a t h p =
    ap₂
    (λ b o. b
    || (no_conjunct t.conjunct
    && is_misplaced schema items item t.column (row_value t.column o)))
    (term_same params item placed t env a p h) h.0

-- the used terms look at the placed items and the loop's own alone
pub used_looks : (schema : Schema) (bound : Bound) (params : List Value) (item : ℕ)
    (placed : List ℕ) (used : Used)
    → UsedPlaced placed used → Looks (item ∷ placed) (used_passes schema bound params item used)
used_looks schema bound params item placed used p env a h =
    used_agree placed _ _ (λ t k. passes_same schema bound.items params item placed env a t h k)
    used p

differs_from : (i item : ℕ) (placed : List ℕ) → has_number item placed ≡ false
    → has_number i placed ≡ true → item ≢ i
differs_from i item placed h k = λ e. let no : has_number i placed ≡ false = rw (← e) h in cc

agree_placed : (placed : List ℕ) (item : ℕ) (env : Assignment) (x : Option Row) (ns : List ℕ)
    → has_number item placed ≡ false → AllByRecursion (λ i. has_number i placed ≡ true) ns
    → Agree ns env (place env item x)
agree_placed placed item env x ns h p =
    all_map _ _ ns (λ i e. place_other env item i x (differs_from i item placed h e)) p

pub cell_placed : (env : Assignment) (item : ℕ) (row : Row) (site : Site) → item < length env
    → cell (place env item (Some row)) item site ≡ site_value site row
cell_placed env item row site lt =
    ap (row_value site) (get_or-set_same env item (Some (Some row)) None lt)

-- a term of the row that stands for the item, for given rows of the placed items
term_placed : (params : List Value) (placed : List ℕ) (item : ℕ) (env : Assignment) (row : Row)
    (t : Term)
    → has_number item placed ≡ false → item < length env → is_usable placed t ≡ true
    → kind_holds env params t.collation t.kind (site_value t.column row)
    ≡ term_holds (place env item (Some row)) params item t
term_placed params placed item env row t h lt p =
    ap (kind_holds env params t.collation t.kind) (sym (cell_placed env item row t.column lt))
    ∙ sym
    (kind_same params t.collation t.kind (cell (place env item (Some row)) item t.column) env
    (place env item (Some row))
    (all_map _ _ (term_keys t.kind)
    (λ k q. agree_placed placed item env (Some row) (names k.expr) h q)
    (usable_names placed (term_keys t.kind) p)))

pub terms_placed : (params : List Value) (placed : List ℕ) (item : ℕ) (env : Assignment) (row : Row)
    (ts : List Term)
    → has_number item placed ≡ false → item < length env → AreUsable placed ts
    → terms_true env params ts row ≡ all_terms (place env item (Some row)) params item ts
terms_placed params placed item env row [] h lt p = refl
terms_placed params placed item env row (t ∷ ts) h lt p =
    ap₂ (λ x y. x && y) (term_placed params placed item env row t h lt p.0)
    (terms_placed params placed item env row ts h lt p.1)

form_true : (schema : Schema) (params : List Value) (alias : Option ℕ) (path : Path)
    (env : Assignment) (row : Row) (ts : List Term)
    → FormCarries alias (form_of schema path) ts → AliasHolds alias row
    → form_holds (form_of schema path) params env row ≡ terms_true env params ts row
form_true schema params alias path env row ts c k =
    carries_is env params alias (form_of schema path).columns (form_of schema path).eqs
    (form_of schema path).low (form_of schema path).high ts row c k

pub plain_true : (schema : Schema) (params : List Value) (alias : Option ℕ) (path : Path)
    (env : Assignment) (row : Row) (ts : List Term)
    → is_union path ≡ false → FormCarries alias (form_of schema path) ts → AliasHolds alias row
    → carried schema params path env row ≡ terms_true env params ts row
plain_true schema params alias TableScan env row ts u c k =
    form_true schema params alias TableScan env row ts c k
plain_true schema params alias (RowidEq part) env row ts u c k =
    form_true schema params alias (RowidEq part) env row ts c k
plain_true schema params alias (RowidRange low high) env row ts u c k =
    form_true schema params alias (RowidRange low high) env row ts c k
plain_true schema params alias (IndexScan index) env row ts u c k =
    form_true schema params alias (IndexScan index) env row ts c k
plain_true schema params alias (IndexSeek index eqs low high) env row ts u c k =
    form_true schema params alias (IndexSeek index eqs low high) env row ts c k
plain_true schema params alias (Union ps) env row ts u c k = absurd (cc)

branches_true : (schema : Schema) (params : List Value) (alias : Option ℕ) (ps : Paths)
    (placed : List ℕ) (item : ℕ) (env : Assignment) (row : Row) (tss : List (List Term))
    → BranchesCarry schema alias ps tss → AliasHolds alias row → has_number item placed ≡ false
    → item < length env → AllByRecursion (AreUsable placed) tss
    → any_carried schema params ps env row ≡ any_terms (place env item (Some row)) params item tss
branches_true schema params alias Nowhere placed item env row [] c k h lt p = refl
branches_true schema params alias Nowhere placed item env row (ts ∷ tss) c k h lt p = absurd c
branches_true schema params alias (Then path ps) placed item env row [] c k h lt p = absurd c
branches_true schema params alias (Then path ps) placed item env row (ts ∷ tss) c k h lt p =
    ap₂ (λ x y. x || y)
    (plain_true schema params alias path env row ts c.0 c.1 k
    ∙ terms_placed params placed item env row ts h lt p.0)
    (branches_true schema params alias ps placed item env row tss c.2 k h lt p.1)

-- what a path carries is true of a row exactly where its used terms hold once the row stands for
-- the item
pub carried_true : (schema : Schema) (params : List Value) (alias : Option ℕ) (path : Path)
    (placed : List ℕ) (item : ℕ) (env : Assignment) (row : Row) (used : Used)
    → PathCarries schema alias path used → AliasHolds alias row → has_number item placed ≡ false
    → item < length env → UsedPlaced placed used
    → carried schema params path env row ≡ used_holds (place env item (Some row)) params item used
carried_true schema params alias (Union ps) placed item env row (AllOf ts) c k h lt p = absurd c
carried_true schema params alias (Union ps) placed item env row (AnyOf tss) c k h lt p =
    branches_true schema params alias ps placed item env row tss c k h lt p
carried_true schema params alias TableScan placed item env row (AllOf ts) c k h lt p =
    plain_true schema params alias TableScan env row ts refl c k
    ∙ terms_placed params placed item env row ts h lt p
carried_true schema params alias (RowidEq part) placed item env row (AllOf ts) c k h lt p =
    plain_true schema params alias (RowidEq part) env row ts refl c k
    ∙ terms_placed params placed item env row ts h lt p
carried_true schema params alias (RowidRange low high) placed item env row (AllOf ts) c k h lt p =
    plain_true schema params alias (RowidRange low high) env row ts refl c k
    ∙ terms_placed params placed item env row ts h lt p
carried_true schema params alias (IndexScan index) placed item env row (AllOf ts) c k h lt p =
    plain_true schema params alias (IndexScan index) env row ts refl c k
    ∙ terms_placed params placed item env row ts h lt p
carried_true schema params alias (IndexSeek index eqs low high) placed item env row (AllOf ts) c k h
    lt p =
    plain_true schema params alias (IndexSeek index eqs low high) env row ts refl c k
    ∙ terms_placed params placed item env row ts h lt p
carried_true schema params alias TableScan placed item env row (AnyOf tss) c k h lt p = absurd c
carried_true schema params alias (RowidEq part) placed item env row (AnyOf tss) c k h lt p =
    absurd c
carried_true schema params alias (RowidRange low high) placed item env row (AnyOf tss) c k h lt p =
    absurd c
carried_true schema params alias (IndexScan index) placed item env row (AnyOf tss) c k h lt p =
    absurd c
carried_true schema params alias (IndexSeek index eqs low high) placed item env row (AnyOf tss) c k
    h lt p = absurd c

-- and there, on a row without misplaced numbers, they pass just where they hold
pub used_placed : (schema : Schema) (bound : Bound) (params : List Value) (placed : List ℕ)
    (item : ℕ) (env : Assignment) (row : Row) (used : Used)
    → item < length env → UsedPlaced placed used → HasNoneMisplaced schema bound.items item row
    → used_holds (place env item (Some row)) params item used
    ≡ used_passes schema bound params item used (place env item (Some row))
used_placed schema bound params placed item env row used lt p good =
    used_are (place env item (Some row)) params item used
    ∙ used_agree placed _ _
    (λ t k. sym
    (passes_is schema bound.items params item (place env item (Some row)) t
    (ap (is_misplaced schema bound.items item t.column) (cell_placed env item row t.column lt)
    ∙ good t.column))) used p

pub filter_on : {X : Type 0} (p q : X → Bool) (xs : List X) → AllByRecursion (λ x. p x ≡ q x) xs
    → filter p xs ≡ filter q xs
filter_on p q [] h = refl
filter_on p q (x ∷ xs) h = rw (h.0, filter_on p q xs h.1) refl

map_cond : {X Y : Type 0} (f : X → Y) (b : Bool) (x : X) (xs : List X)
    → map f (cond b (x ∷ xs) xs) ≡ cond b (f x ∷ map f xs) (map f xs)
map_cond f true x xs = refl
map_cond f false x xs = refl

filter_some : {X Y : Type 0} (f : X → Y) (p : Y → Bool) (xs : List X)
    → map f (filter (λ x. p (f x)) xs) ≡ filter p (map f xs)
filter_some f p [] = refl
filter_some f p (x ∷ xs) =
    map_cond f (p (f x)) x (filter (λ x. p (f x)) xs)
    ∙ ap (λ zs. cond (p (f x)) (f x ∷ zs) zs) (filter_some f p xs)

directed_same : (b : Bool) (xs : List Row) → SameTally (directed_walk b xs) xs
directed_same true xs =
    SameTally-sym xs (reverse xs)
    (SameTally-from_permutation xs (reverse xs) (IsPermutation-reverse xs))
directed_same false xs = SameTally-refl xs

-- for given rows of the placed items a walk has, in some order, the rows on which the used terms
-- pass, each as often
pub walk_used : (schema : Schema) (bound : Bound) (params : List Value) (alias : Option ℕ)
    (path : Path) (back : Bool) (rows : List Row) (placed : List ℕ) (item : ℕ) (env : Assignment)
    (used : Used)
    → RisingRows rows → AllByRecursion (AliasHolds alias) rows
    → AllByRecursion (HasNoneMisplaced schema bound.items item) rows
    → PathCarries schema alias path used
    → has_number item placed ≡ false → item < length env → UsedPlaced placed used
    → SameTally (map Some (directed_walk back (walk schema params path rows env)))
    (filter (λ x. used_passes schema bound params item used (place env item x)) (map Some rows))
walk_used schema bound params alias path back rows placed item env used rising aliased good c h lt p
    = record {
      each = λ f.
          (SameTally-map Some _ _ (directed_same back (walk schema params path rows env))).each f
          ∙ (SameTally-map Some _ _ (walk_same schema params path rows env rising)).each f
          ∙ ap (λ zs. tally f (map Some zs))
          (filter_on _
          (λ row. used_passes schema bound params item used (place env item (Some row))) rows
          (all_both _ _ _ rows
          (λ row k g. carried_true schema params alias path placed item env row used c k h lt p
          ∙ used_placed schema bound params placed item env row used lt p g) aliased good))
          ∙ ap (tally f)
          (filter_some Some
          (λ x. used_passes schema bound params item used (place env item x)) rows);
    }
