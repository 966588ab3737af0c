-- A plan whose loops are offers fits the schema.
use Rattle.std.specs.List.{AllByRecursion, flat_map}
use Rattle.std.specs.List.Sorted.{IsPermutation}
use Rattle.std.proofs.Common.{◌≡◌, ◌≢◌, ◌<◌, ℕ, suc, Bool, true, List, [], ◌∷◌, ◌++◌}
use Rattle.std.proofs.Common.{Option, Some, None, refl, sym, ◌∙◌, ap, subst, arith, length}
use Rattle.std.proofs.Common.{slice_get}
use Rattle.std.proofs.Common.{inl, inr}
use Rattle.std.proofs.lemmas.List.{length-map}
use Rattle.std.proofs.lemmas.Option.{slice_get_within}
use Rattle.std.proofs.lemmas.List.Sorted.{IsPermutation-refl, IsPermutation-trans}
use Rattle.std.proofs.lemmas.List.Sorted.{IsPermutation-append_left, IsPermutation-append_right}
use Rattle.std.proofs.lemmas.List.Sorted.{IsPermutation-append_comm}
use Rattle.list_laws.specs.Nest.{Rearranges, same, next, swapped, after}
use Rattle.list_laws.proofs.Bools.{and_left, and_right, both_true}
use Rattle.list_laws.proofs.Lists.{all_map}
use Rattle.sql_meaning.specs.Schemas.{Schema, Index}
use Rattle.sql_meaning.specs.IndexLists.{SortColumn, index_sort_columns}
use Rattle.sql_meaning.specs.Expressions.{names}
use Rattle.sql_meaning.specs.Paths.{KeyExpr, EqPart, OneKey, ManyKeys, NullKey, Edge, Path, Paths}
use Rattle.sql_meaning.specs.Paths.{TableScan, RowidEq, RowidRange, IndexScan, IndexSeek, Union}
use Rattle.sql_meaning.specs.Paths.{Nowhere, Then, form_of}
use Rattle.sql_meaning.specs.Terms.{Term, TermKind, Equals, Within, IsNothing, Low, High, term_keys}
use Rattle.sql_meaning.specs.Terms.{part_of, EdgeFrom, Carries, FormCarries}
use Rattle.sql_meaning.specs.Statements.{Bound, FitsStatement, all_in, item_alias, table_of}
use Rattle.sql_meaning.specs.Plans.{Loop}
use Rattle.sql_meaning.specs.UsedTerms.{Used, AllOf, AnyOf, AreUsable, UsedPlaced, PathCarries}
use Rattle.sql_meaning.specs.UsedTerms.{BranchesCarry, UsedComes, Consumes, IsTerm, keys_in}
use Rattle.sql_meaning.specs.OrderState.{columns_at}
use Rattle.sql_meaning.specs.Fitting.{HasColumns, IsSeekOf, AreSeeksOf, FitsTable, PathFits}
use Rattle.sql_meaning.specs.Fitting.{part_keys, edge_keys, plain_keys, branch_keys}
use Rattle.sql_meaning.specs.Fitting.{path_keys, KeysArePlaced}
use Rattle.sql_meaning.specs.Offers.{AreOffers}
use Rattle.sql_meaning.specs.PlanLaws.{OfferedPlansFit}
use Rattle.sql_meaning.proofs.Fitting.{no_parts}
use Rattle.sql_meaning.proofs.Links.{all_at}
use Rattle.sql_meaning.proofs.LinkClosure.{all_front}

reorders_permute : {free : ℕ → Bool} (is js : List ℕ) → Rearranges free is js
    → IsPermutation is js
reorders_permute is js (same items) = IsPermutation-refl items
reorders_permute is js (next i xs ys r) =
    IsPermutation-append_right (i ∷ []) xs ys (reorders_permute xs ys r)
reorders_permute is js (swapped i j xs n fi fj) =
    IsPermutation-append_left xs (i ∷ j ∷ []) (j ∷ i ∷ [])
    (IsPermutation-append_comm (i ∷ []) (j ∷ []))
reorders_permute is js (after xs ys zs r s) =
    IsPermutation-trans xs ys zs (reorders_permute xs ys r) (reorders_permute ys zs s)

-- a key that a path carries is one of a used term, so the items that it names are placed
abbrev Placed : List ℕ → List KeyExpr → Type 0
Placed placed ks = keys_in placed ks ≡ true

join : (placed : List ℕ) (ks js : List KeyExpr) → Placed placed ks → Placed placed js
    → Placed placed (ks ++ js)
join placed [] js h k = k
join placed (x ∷ ks) js h k =
    both_true (all_in (names x.expr) placed) (keys_in placed (ks ++ js))
    (and_left (all_in (names x.expr) placed) (keys_in placed ks) h)
    (join placed ks js (and_right (all_in (names x.expr) placed) (keys_in placed ks) h) k)

part_placed : (placed : List ℕ) (kind : TermKind) (p : EqPart) → part_of kind ≡ Some p
    → Placed placed (term_keys kind) → Placed placed (part_keys p)
part_placed placed (Equals key) p e h =
    let is : OneKey key ≡ p = cc in subst (λ (q : EqPart). Placed placed (part_keys q)) is h
part_placed placed (Within keys) p e h =
    let is : ManyKeys keys ≡ p = cc in subst (λ (q : EqPart). Placed placed (part_keys q)) is h
part_placed placed IsNothing p e h =
    let is : NullKey ≡ p = cc in subst (λ (q : EqPart). Placed placed (part_keys q)) is h
part_placed placed (Low key inclusive) p e h = absurd (cc)
part_placed placed (High key inclusive) p e h = absurd (cc)

edge_placed : (placed : List ℕ) (kind : KeyExpr → Bool → TermKind) (alias : Option ℕ)
    (s : SortColumn)
    → ((key : KeyExpr) (inclusive : Bool) → term_keys (kind key inclusive) ≡ key ∷ [])
    → (edge : Option Edge) (ts : List Term) → EdgeFrom kind alias s edge ts → AreUsable placed ts
    → Placed placed (edge_keys edge)
edge_placed placed kind alias s f None ts h u = refl
edge_placed placed kind alias s f (Some e) ts h u =
    subst (Placed placed) (ap term_keys h.3 ∙ f e.key e.inclusive)
    (subst (AreUsable placed) h.1 u).0

-- what is placed of the keys of a seek
record ArePlaced (placed : List ℕ) (eqs : List EqPart) (low high : Option Edge) : Type 0 where
  pub parts : Placed placed (flat_map part_keys eqs)
  pub lower : Placed placed (edge_keys low)
  pub upper : Placed placed (edge_keys high)

none_left : (parts : ℕ) (low high : Option Edge) → HasColumns 0 (suc parts) low high → ⊥
none_left parts None None h = omega (arith, h)
none_left parts (Some low) high h = omega (arith, h)
none_left parts None (Some high) h = omega (arith, h)

one_less : (columns parts : ℕ) (low high : Option Edge)
    → HasColumns (suc columns) (suc parts) low high → HasColumns columns parts low high
one_less columns parts None None h = omega (arith, h)
one_less columns parts (Some low) high h = omega (arith, h)
one_less columns parts None (Some high) h = omega (arith, h)

seek_placed : (placed : List ℕ) (alias : Option ℕ) (ss : List SortColumn) (eqs : List EqPart)
    (low high : Option Edge) (ts : List Term)
    → HasColumns (length ss) (length eqs) low high → Carries alias ss eqs low high ts
    → AreUsable placed ts → ArePlaced placed eqs low high
seek_placed placed alias [] [] None None ts h c u =
    record { parts = refl; lower = refl; upper = refl }
seek_placed placed alias [] [] None (Some e) ts h c u = absurd (omega (arith, h))
seek_placed placed alias [] [] (Some e) high ts h c u = absurd (omega (arith, h))
seek_placed placed alias [] (p ∷ ps) low high ts h c u =
    absurd (none_left (length ps) low high h)
seek_placed placed alias (s ∷ ss) [] low high ts h (lows, highs, is, l, k) u =
    let both = all_front (λ t. keys_in placed (term_keys t.kind) ≡ true) lows highs
    (subst (AreUsable placed) is u) in
    record {
      parts = refl;
      lower = edge_placed placed Low alias s (λ key inclusive. refl) low lows l both.0;
      upper = edge_placed placed High alias s (λ key inclusive. refl) high highs k both.1;
    }
seek_placed placed alias (s ∷ ss) (p ∷ ps) low high [] h c u = absurd c
seek_placed placed alias (s ∷ ss) (p ∷ ps) low high (t ∷ ts) h c u =
    let rest =
    seek_placed placed alias ss ps low high ts (one_less (length ss) (length ps) low high h) c.2
    u.1 in
    record {
      parts =
          join placed (part_keys p) (flat_map part_keys ps) (part_placed placed t.kind p c.1 u.0)
          rest.parts;
      lower = rest.lower;
      upper = rest.upper;
    }

form_placed : (schema : Schema) (placed : List ℕ) (alias : Option ℕ) (path : Path)
    (ts : List Term)
    → HasColumns (length (form_of schema path).columns) (length (form_of schema path).eqs)
    (form_of schema path).low (form_of schema path).high
    → FormCarries alias (form_of schema path) ts → AreUsable placed ts
    → Placed placed (plain_keys schema path)
form_placed schema placed alias path ts h c u =
    let f = form_of schema path in
    let r = seek_placed placed alias f.columns f.eqs f.low f.high ts h c u in
    join placed (flat_map part_keys f.eqs) (edge_keys f.low ++ edge_keys f.high) r.parts
    (join placed (edge_keys f.low) (edge_keys f.high) r.lower r.upper)

as_many : (o : Option Index) → length (columns_at o) ≡ length (index_sort_columns o)
as_many None = refl
as_many (Some index) = sym (length-map index.columns _)

seek_columns : (schema : Schema) (table : ℕ) (path : Path) → IsSeekOf schema table path
    → HasColumns (length (form_of schema path).columns) (length (form_of schema path).eqs)
    (form_of schema path).low (form_of schema path).high
seek_columns schema table TableScan h = absurd h
seek_columns schema table (RowidEq part) h = omega arith
seek_columns schema table (RowidRange low high) h = no_parts 0 low high
seek_columns schema table (IndexScan index) h = absurd h
seek_columns schema table (IndexSeek index eqs low high) h =
    subst (λ (n : ℕ). HasColumns n (length eqs) low high)
    (as_many (slice_get schema.indexes index)) h.1
seek_columns schema table (Union paths) h = absurd h

branches_placed : (schema : Schema) (table : ℕ) (placed : List ℕ) (alias : Option ℕ)
    (paths : Paths) (tss : List (List Term))
    → AreSeeksOf schema table paths → BranchesCarry schema alias paths tss
    → AllByRecursion (AreUsable placed) tss → Placed placed (branch_keys schema paths)
branches_placed schema table placed alias Nowhere tss h c u = refl
branches_placed schema table placed alias (Then path paths) [] h c u = absurd c
branches_placed schema table placed alias (Then path paths) (ts ∷ tss) h c u =
    join placed (plain_keys schema path) (branch_keys schema paths)
    (form_placed schema placed alias path ts (seek_columns schema table path h.0) c.1 u.0)
    (branches_placed schema table placed alias paths tss h.1 c.2 u.1)

keys_placed : (schema : Schema) (table : ℕ) (placed : List ℕ) (alias : Option ℕ) (path : Path)
    (used : Used)
    → FitsTable schema table path → PathCarries schema alias path used → UsedPlaced placed used
    → Placed placed (path_keys schema path)
keys_placed schema table placed alias TableScan used h c u = refl
keys_placed schema table placed alias (IndexScan index) used h c u = refl
keys_placed schema table placed alias (RowidEq part) (AllOf ts) h c u =
    form_placed schema placed alias (RowidEq part) ts (omega arith) c u
keys_placed schema table placed alias (RowidEq part) (AnyOf tss) h c u = absurd c
keys_placed schema table placed alias (RowidRange low high) (AllOf ts) h c u =
    form_placed schema placed alias (RowidRange low high) ts (no_parts 0 low high) c u
keys_placed schema table placed alias (RowidRange low high) (AnyOf tss) h c u = absurd c
keys_placed schema table placed alias (IndexSeek index eqs low high) (AllOf ts) h c u =
    form_placed schema placed alias (IndexSeek index eqs low high) ts
    (seek_columns schema table (IndexSeek index eqs low high) h) c u
keys_placed schema table placed alias (IndexSeek index eqs low high) (AnyOf tss) h c u = absurd c
keys_placed schema table placed alias (Union paths) (AllOf ts) h c u = absurd c
keys_placed schema table placed alias (Union paths) (AnyOf tss) h c u =
    branches_placed schema table placed alias paths tss h c u

-- what is consumed is the conjunct of a direct term
term_within : (schema : Schema) (bound : Bound) (item n : ℕ) (t : Term)
    → IsTerm schema bound item t → t.conjunct ≡ Some n → n < length bound.conjuncts
term_within schema bound item n t (inl d) e =
    let is : Some d.number ≡ Some n = sym d.numbered ∙ e in
    let number : d.number ≡ n = cc in
    subst (λ (m : ℕ). m < length bound.conjuncts) number
    (slice_get_within bound.conjuncts d.number d.conjunct d.is)
term_within schema bound item n t (inr d) e =
    absurd (let none : None ≡ Some n = sym d.0 ∙ e in cc)

consumed_within : (schema : Schema) (bound : Bound) (item n : ℕ) (used : Used)
    → UsedComes schema bound item used → Consumes used n → n < length bound.conjuncts
consumed_within schema bound item n (AllOf ts) c (k, t, at, is) =
    term_within schema bound item n t (all_at (IsTerm schema bound item) ts k t c at) is
consumed_within schema bound item n (AnyOf tss) c h = absurd h

-- what is asked of each loop
record LoopsFit (schema : Schema) (bound : Bound) (placed : List ℕ) (loops : List Loop) : Type 0
  where
    pub paths : AllByRecursion (λ l. PathFits schema bound l.item l.path) loops
    pub keys : KeysArePlaced schema placed loops
    pub consumed : AllByRecursion
        (λ l. AllByRecursion (λ n. n < length bound.conjuncts) l.consumed) loops

loops_fit : (schema : Schema) (bound : Bound) (placed : List ℕ) (loops : List Loop)
    (used : List Used)
    → AreOffers schema bound placed loops used → LoopsFit schema bound placed loops
loops_fit schema bound placed [] used h = record { paths = tt; keys = tt; consumed = tt }
loops_fit schema bound placed (l ∷ ls) [] h = absurd h
loops_fit schema bound placed (l ∷ ls) (u ∷ us) h =
    let rest = loops_fit schema bound (l.item ∷ placed) ls us h.1 in
    record {
      paths = (h.0.path, rest.paths);
      keys = (
        keys_placed schema (table_of (slice_get bound.items l.item)) placed
            (item_alias schema bound l.item) l.path u h.0.path h.0.carries h.0.keys,
        rest.keys,
      );
      consumed = (
        all_map (Consumes u) (λ n. n < length bound.conjuncts) l.consumed
            (λ n c. consumed_within schema bound l.item n u h.0.comes c) h.0.consumes,
        rest.consumed,
      );
    }

first_fits : (schema : Schema) (bound : Bound) (loops : List Loop) (used : List Used)
    → loops ≢ [] → AreOffers schema bound [] loops used → FitsStatement schema bound
first_fits schema bound [] used some h = absurd (some refl)
first_fits schema bound (l ∷ ls) [] some h = absurd h
first_fits schema bound (l ∷ ls) (u ∷ us) some h = h.0.fits

pub offered_plans_fit : OfferedPlansFit
offered_plans_fit = λ schema plan f.
    let each = loops_fit schema plan.bound [] plan.loops f.used f.offered in
    record {
      statement = first_fits schema plan.bound plan.loops f.used f.some f.offered;
      once = reorders_permute _ _ f.once;
      paths = each.paths;
      keys = each.keys;
      consumed = each.consumed;
    }
