-- What holds of the keys of all terms that a path uses holds of the path's own keys.
use Rattle.std.proofs.Common.{◌≡◌, ◌++◌, ℕ, suc, Bool, List, [], ◌∷◌, Option, Some, None}
use Rattle.std.proofs.Common.{refl, sym, ◌∙◌, ap, subst, arith, length, slice_get}
use Rattle.std.proofs.lemmas.List.{length-map}
use Rattle.std.specs.List.{AllByRecursion, flat_map}
use Rattle.list_laws.proofs.Lists.{all_append}
use Rattle.sql_meaning.specs.Schemas.{Schema, Index}
use Rattle.sql_meaning.specs.IndexLists.{SortColumn, index_sort_columns}
use Rattle.sql_meaning.specs.Paths.{KeyExpr, EqPart, OneKey, ManyKeys, NullKey, Edge, Path, Paths}
use Rattle.sql_meaning.specs.Paths.{TableScan, RowidEq, RowidRange, IndexScan, IndexSeek, Union}
use Rattle.sql_meaning.specs.Paths.{Nowhere, Then, form_of}
use Rattle.sql_meaning.specs.Terms.{Term, TermKind, Equals, Within, IsNothing, Low, High, term_keys}
use Rattle.sql_meaning.specs.Terms.{part_of, EdgeFrom, Carries, FormCarries}
use Rattle.sql_meaning.specs.UsedTerms.{Used, AllOf, AnyOf, PathCarries, BranchesCarry}
use Rattle.sql_meaning.specs.OrderState.{columns_at}
use Rattle.sql_meaning.specs.Fitting.{HasColumns, IsSeekOf, AreSeeksOf, FitsTable}
use Rattle.sql_meaning.specs.Fitting.{part_keys, edge_keys, plain_keys, branch_keys, path_keys}
use Rattle.sql_meaning.proofs.Fitting.{no_parts}
use Rattle.sql_meaning.proofs.LinkClosure.{all_front}

abbrev pub TermsHave : (KeyExpr → Type 0) → List Term → Type 0
TermsHave P ts = AllByRecursion (λ t. AllByRecursion P (term_keys t.kind)) ts

abbrev pub UsedHave : (KeyExpr → Type 0) → Used → Type 0
UsedHave P (AllOf ts) = TermsHave P ts
UsedHave P (AnyOf tss) = AllByRecursion (TermsHave P) tss

part_has : (P : KeyExpr → Type 0) (kind : TermKind) (p : EqPart) → part_of kind ≡ Some p
    → AllByRecursion P (term_keys kind) → AllByRecursion P (part_keys p)
part_has P (Equals key) p e h =
    let is : OneKey key ≡ p = cc in subst (λ (q : EqPart). AllByRecursion P (part_keys q)) is h
part_has P (Within keys) p e h =
    let is : ManyKeys keys ≡ p = cc in subst (λ (q : EqPart). AllByRecursion P (part_keys q)) is h
part_has P IsNothing p e h =
    let is : NullKey ≡ p = cc in subst (λ (q : EqPart). AllByRecursion P (part_keys q)) is h
part_has P (Low key inclusive) p e h = absurd (cc)
part_has P (High key inclusive) p e h = absurd (cc)

edge_has : (P : KeyExpr → Type 0) (kind : KeyExpr → Bool → TermKind) (alias : Option ℕ)
    (s : SortColumn)
    → ((key : KeyExpr) (inclusive : Bool) → term_keys (kind key inclusive) ≡ key ∷ [])
    → (edge : Option Edge) (ts : List Term) → EdgeFrom kind alias s edge ts → TermsHave P ts
    → AllByRecursion P (edge_keys edge)
edge_has P kind alias s f None ts h u = tt
edge_has P kind alias s f (Some e) ts h u =
    subst (AllByRecursion P) (ap term_keys h.3 ∙ f e.key e.inclusive)
    (subst (TermsHave P) h.1 u).0

none_left : (parts : ℕ) (low high : Option Edge) → HasColumns 0 (suc parts) low high → ⊥
none_left parts None None h = omega (arith, h)
none_left parts (Some low) high h = omega (arith, h)
none_left parts None (Some high) h = omega (arith, h)

one_less : (columns parts : ℕ) (low high : Option Edge)
    → HasColumns (suc columns) (suc parts) low high → HasColumns columns parts low high
one_less columns parts None None h = omega (arith, h)
one_less columns parts (Some low) high h = omega (arith, h)
one_less columns parts None (Some high) h = omega (arith, h)

seek_has : (P : KeyExpr → Type 0) (alias : Option ℕ) (ss : List SortColumn) (eqs : List EqPart)
    (low high : Option Edge) (ts : List Term)
    → HasColumns (length ss) (length eqs) low high → Carries alias ss eqs low high ts
    → TermsHave P ts
    → AllByRecursion P (flat_map part_keys eqs ++ (edge_keys low ++ edge_keys high))
seek_has P alias [] [] None None ts h c u = tt
seek_has P alias [] [] None (Some e) ts h c u = absurd (omega (arith, h))
seek_has P alias [] [] (Some e) high ts h c u = absurd (omega (arith, h))
seek_has P alias [] (p ∷ ps) low high ts h c u = absurd (none_left (length ps) low high h)
seek_has P alias (s ∷ ss) [] low high ts h (lows, highs, is, l, k) u =
    let both =
    all_front (λ t. AllByRecursion P (term_keys t.kind)) lows highs (subst (TermsHave P) is u) in
    all_append P (edge_keys low) (edge_keys high)
    (edge_has P Low alias s (λ key inclusive. refl) low lows l both.0)
    (edge_has P High alias s (λ key inclusive. refl) high highs k both.1)
seek_has P alias (s ∷ ss) (p ∷ ps) low high [] h c u = absurd c
seek_has P alias (s ∷ ss) (p ∷ ps) low high (t ∷ ts) h c u =
    let ends = edge_keys low ++ edge_keys high in
    let rest =
    all_front P (flat_map part_keys ps) ends
    (seek_has P alias ss ps low high ts (one_less (length ss) (length ps) low high h) c.2 u.1) in
    all_append P (part_keys p ++ flat_map part_keys ps) ends
    (all_append P (part_keys p) (flat_map part_keys ps) (part_has P t.kind p c.1 u.0) rest.0)
    rest.1

form_has : (P : KeyExpr → Type 0) (schema : Schema) (alias : Option ℕ) (path : Path)
    (ts : List Term)
    → HasColumns (length (form_of schema path).columns) (length (form_of schema path).eqs)
    (form_of schema path).low (form_of schema path).high
    → FormCarries alias (form_of schema path) ts → TermsHave P ts
    → AllByRecursion P (plain_keys schema path)
form_has P schema alias path ts h c u =
    let f = form_of schema path in seek_has P alias f.columns f.eqs f.low f.high ts h c u

as_many : (o : Option Index) → length (columns_at o) ≡ length (index_sort_columns o)
as_many None = refl
as_many (Some index) = sym (length-map index.columns _)

seek_columns : (schema : Schema) (table : ℕ) (path : Path) → IsSeekOf schema table path
    → HasColumns (length (form_of schema path).columns) (length (form_of schema path).eqs)
    (form_of schema path).low (form_of schema path).high
seek_columns schema table TableScan h = absurd h
seek_columns schema table (RowidEq part) h = omega arith
seek_columns schema table (RowidRange low high) h = no_parts 0 low high
seek_columns schema table (IndexScan index) h = absurd h
seek_columns schema table (IndexSeek index eqs low high) h =
    subst (λ (n : ℕ). HasColumns n (length eqs) low high)
    (as_many (slice_get schema.indexes index)) h.1
seek_columns schema table (Union paths) h = absurd h

branches_have : (P : KeyExpr → Type 0) (schema : Schema) (table : ℕ) (alias : Option ℕ)
    (paths : Paths) (tss : List (List Term))
    → AreSeeksOf schema table paths → BranchesCarry schema alias paths tss
    → AllByRecursion (TermsHave P) tss → AllByRecursion P (branch_keys schema paths)
branches_have P schema table alias Nowhere tss h c u = tt
branches_have P schema table alias (Then path paths) [] h c u = absurd c
branches_have P schema table alias (Then path paths) (ts ∷ tss) h c u =
    all_append P (plain_keys schema path) (branch_keys schema paths)
    (form_has P schema alias path ts (seek_columns schema table path h.0) c.1 u.0)
    (branches_have P schema table alias paths tss h.1 c.2 u.1)

pub path_has : (P : KeyExpr → Type 0) (schema : Schema) (table : ℕ) (alias : Option ℕ)
    (path : Path) (used : Used)
    → FitsTable schema table path → PathCarries schema alias path used → UsedHave P used
    → AllByRecursion P (path_keys schema path)
path_has P schema table alias TableScan used h c u = tt
path_has P schema table alias (IndexScan index) used h c u = tt
path_has P schema table alias (RowidEq part) (AllOf ts) h c u =
    form_has P schema alias (RowidEq part) ts (omega arith) c u
path_has P schema table alias (RowidEq part) (AnyOf tss) h c u = absurd c
path_has P schema table alias (RowidRange low high) (AllOf ts) h c u =
    form_has P schema alias (RowidRange low high) ts (no_parts 0 low high) c u
path_has P schema table alias (RowidRange low high) (AnyOf tss) h c u = absurd c
path_has P schema table alias (IndexSeek index eqs low high) (AllOf ts) h c u =
    form_has P schema alias (IndexSeek index eqs low high) ts
    (seek_columns schema table (IndexSeek index eqs low high) h) c u
path_has P schema table alias (IndexSeek index eqs low high) (AnyOf tss) h c u = absurd c
path_has P schema table alias (Union paths) (AllOf ts) h c u = absurd c
path_has P schema table alias (Union paths) (AnyOf tss) h c u =
    branches_have P schema table alias paths tss h c u
