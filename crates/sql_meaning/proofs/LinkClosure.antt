-- Visits along the links reach every linked column, and the list rises.
use Rattle.std.specs.List.{AllByRecursion, filter}
use Rattle.std.specs.Ordering.{nat_cmp, is_eq, ordering_then, eq_by_cmp}
use Rattle.std.specs.declared.cmp.Ordering.{Ordering}
use Rattle.std.specs.declared.cmp.Ordering.TheVariants.{Less, Equal, Greater}
use Rattle.std.specs.Cmp.{IsTotalOrder, unsigned_ties}
use Rattle.std.proofs.Common.{◌≡◌, ◌≢◌, ℕ, zero, suc, ◌+◌, ◌≤◌, Bool, true, false, cond, not, ◌&&◌}
use Rattle.std.proofs.Common.{◌||◌, ◌==◌, List, [], ◌∷◌, ◌++◌, Some, refl, ap, ap₂, sym, ◌∙◌, arith}
use Rattle.std.proofs.Common.{length, map, slice_get, subst, Option}
use Rattle.std.proofs.lemmas.Bool.{eqb-true, eq-eqb}
use Rattle.std.proofs.lemmas.Cmp.{on_total, then_total, nat_cmp_total, eq_by_cmp_equiv}
use Rattle.std.proofs.lemmas.List.{length-append, length-map}
use Rattle.list_laws.specs.FirstComing.{has, keep_first}
use Rattle.list_laws.specs.Order.{sort_by}
use Rattle.list_laws.proofs.Bools.{or_later, or_first, or_cases, both_true}
use Rattle.list_laws.proofs.Bools.{alike, or_assoc}
use Rattle.list_laws.proofs.Lists.{all_always}
use Rattle.list_laws.proofs.Orders.{SameTally-sort_by, Ascends-sort_by}
use Rattle.list_laws.proofs.FirstComings.{has_same, has-keep_first, or_none}
use Rattle.list_laws.proofs.FirstComings.{RisesStrictly-keep_first}
use Rattle.sql_meaning.specs.Values.{Collation}
use Rattle.sql_meaning.specs.Rows.{Site, AtRowid, AtColumn}
use Rattle.sql_meaning.specs.Orders.{same_site}
use Rattle.sql_meaning.specs.Expressions.{BExpr, Cmp, IsEqual, ColumnRef, bare_column}
use Rattle.sql_meaning.specs.Schemas.{Schema}
use Rattle.sql_meaning.specs.Items.{Item, own_column}
use Rattle.sql_meaning.specs.Links.{Linked, link, back, chain, Links, affinity_class}
use Rattle.sql_meaning.specs.TermLists.{same_ref, Pair, pair_of, link_pair, has_ref, touches}
use Rattle.sql_meaning.specs.TermLists.{other_end, visits, visited, link_pairs, ref_cmp}
use Rattle.sql_meaning.specs.TermLists.{site_number}
use Rattle.sql_meaning.specs.TermLaws.{ListsHaveTheLinkedColumns}
use Rattle.sql_meaning.proofs.ServingExact.{collation_itself}
use Rattle.sql_meaning.proofs.Terms.{some_is}
use Rattle.sql_meaning.proofs.TiedPositions.{site_is}
use Rattle.sql_meaning.proofs.TermLists.{itself, ref_is, linked_are}

-- both ends of the link are visited, or neither is
abbrev IsClosed : List ColumnRef → Pair → Type 0
IsClosed seen p = has_ref p.first seen ≡ has_ref p.second seen

abbrev AreClosed : List Pair → List ColumnRef → Type 0
AreClosed ps seen = AllByRecursion (IsClosed seen) ps

has_join : (x : ColumnRef) (xs ys : List ColumnRef)
    → has_ref x (xs ++ ys) ≡ (has_ref x xs || has_ref x ys)
has_join x [] ys = refl
has_join x (z ∷ zs) ys =
    ap (λ b. same_ref z x || b) (has_join x zs ys)
    ∙ or_assoc (same_ref z x) (has_ref x zs) (has_ref x ys)

-- a visit takes a column off the list, and each link that it takes puts one on
count_case : (b : Bool) (p : Pair) (taken kept ps : List Pair)
    → length taken + length kept ≡ length ps
    → length (cond b (p ∷ taken) taken) + length (cond (not b) (p ∷ kept) kept) ≡ suc (length ps)
count_case true p taken kept ps h = omega (arith, h)
count_case false p taken kept ps h = omega (arith, h)

count_links : (c : ColumnRef) (ps : List Pair)
    → length (filter (touches c) ps) + length (filter (λ p. not (touches c p)) ps) ≡ length ps
count_links c [] = refl
count_links c (p ∷ ps) =
    count_case (touches c p) p (filter (touches c) ps) (filter (λ p. not (touches c p)) ps) ps
    (count_links c ps)

fewer : (c : ColumnRef) (next : List ColumnRef) (ps : List Pair) (n : ℕ)
    → length (c ∷ next) + length ps ≤ suc n
    → length (map (other_end c) (filter (touches c) ps) ++ next)
    + length (filter (λ p. not (touches c p)) ps) ≤ n
fewer c next ps n h =
    let one : length (map (other_end c) (filter (touches c) ps) ++ next)
    ≡ length (map (other_end c) (filter (touches c) ps)) + length next =
    length-append (map (other_end c) (filter (touches c) ps)) next in
    let two : length (map (other_end c) (filter (touches c) ps)) ≡ length (filter (touches c) ps) =
    length-map (filter (touches c) ps) (other_end c) in
    let all = count_links c ps in omega (arith, one, two, all, h)

-- what is to be visited is visited
visits_have : (x : ColumnRef) (n : ℕ) (next : List ColumnRef) (ps : List Pair)
    → length next + length ps ≤ n → has_ref x next ≡ true → has_ref x (visits n next ps) ≡ true
visits_have x zero [] ps l h = h
visits_have x zero (c ∷ next) ps l h = absurd (omega (arith, l))
visits_have x (suc n) [] ps l h = h
visits_have x (suc n) (c ∷ next) ps l h =
    let ends = map (other_end c) (filter (touches c) ps) in
    or_cases (same_ref c x) (has_ref x next) (λ e. or_first (same_ref c x) _ e)
    (λ e. or_later (same_ref c x) _
    (visits_have x n (ends ++ next) (filter (λ p. not (touches c p)) ps) (fewer c next ps n l)
    (has_join x ends next ∙ or_later (has_ref x ends) (has_ref x next) e))) h

-- a link that touches the visited column has its other end on the list
record Splits (c : ColumnRef) (more : List ColumnRef) (p : Pair) (taken kept : List Pair) : Type 0
  where
    pub closed : IsClosed (c ∷ more) p
    pub rest : AllByRecursion (IsClosed more) kept
    pub ends : (x : ColumnRef) → has_ref x (map (other_end c) taken) ≡ true
        → has_ref x more ≡ true

turn : (c : ColumnRef) (more : List ColumnRef) (p : Pair) (taken kept : List Pair) (a b : Bool)
    → same_ref c p.first ≡ a → same_ref c p.second ≡ b
    → AllByRecursion (IsClosed more) (cond (not (a || b)) (p ∷ kept) kept)
    → ((x : ColumnRef) → has_ref x (map (other_end c) (cond (a || b) (p ∷ taken) taken)) ≡ true
    → has_ref x more ≡ true)
    → Splits c more p taken kept
turn c more p taken kept true b e g h f =
    let there : same_ref (other_end c p) p.second ≡ true = rw e (itself p.second) in
    record {
      closed =
          or_first (same_ref c p.first) (has_ref p.first more) e
          ∙ sym
          (or_later (same_ref c p.second) (has_ref p.second more)
          (f p.second (or_first (same_ref (other_end c p) p.second) _ there)));
      rest = h;
      ends = λ x k. f x (or_later (same_ref (other_end c p) x) _ k);
    }
turn c more p taken kept false true e g h f =
    let there : same_ref (other_end c p) p.first ≡ true = rw e (itself p.first) in
    record {
      closed =
          or_later (same_ref c p.first) (has_ref p.first more)
          (f p.first (or_first (same_ref (other_end c p) p.first) _ there))
          ∙ sym (or_first (same_ref c p.second) (has_ref p.second more) g);
      rest = h;
      ends = λ x k. f x (or_later (same_ref (other_end c p) x) _ k);
    }
turn c more p taken kept false false e g h f = record {
  closed = rw (e, g) h.0;
  rest = h.1;
  ends = f;
}

split_closed : (c : ColumnRef) (more : List ColumnRef) (ps : List Pair)
    → AllByRecursion (IsClosed more) (filter (λ p. not (touches c p)) ps)
    → ((x : ColumnRef) → has_ref x (map (other_end c) (filter (touches c) ps)) ≡ true
    → has_ref x more ≡ true)
    → AreClosed ps (c ∷ more)
split_closed c more [] h f = tt
split_closed c more (p ∷ ps) h f =
    let t =
    turn c more p (filter (touches c) ps) (filter (λ p. not (touches c p)) ps)
    (same_ref c p.first) (same_ref c p.second) refl refl h f in
    (t.closed, split_closed c more ps t.rest t.ends)

visits_close : (n : ℕ) (next : List ColumnRef) (ps : List Pair) → length next + length ps ≤ n
    → AreClosed ps (visits n next ps)
visits_close zero next [] l = tt
visits_close zero next (p ∷ ps) l = absurd (omega (arith, l))
visits_close (suc n) [] ps l = all_always (IsClosed []) ps (λ p. refl)
visits_close (suc n) (c ∷ next) ps l =
    let ends = map (other_end c) (filter (touches c) ps) in
    let kept = filter (λ p. not (touches c p)) ps in
    split_closed c (visits n (ends ++ next) kept) ps
    (visits_close n (ends ++ next) kept (fewer c next ps n l))
    (λ x h. visits_have x n (ends ++ next) kept (fewer c next ps n l)
    (has_join x ends next ∙ or_first (has_ref x ends) (has_ref x next) h))

-- each link of the conjuncts is one of the pairs
differ : (m n : ℕ) (b : Bool) → (m == n) ≡ b → m ≢ n → not b ≡ true
differ m n true e h = absurd (h (eqb-true m n e))
differ m n false e h = refl

chosen_pair : (schema : Schema) (items : List Item) (c d : ColumnRef) (collation : Collation)
    (seen : List ColumnRef) (b : Bool)
    → b ≡ true → AllByRecursion (IsClosed seen) (cond b (record { first = c; second = d } ∷ []) [])
    → has_ref c seen ≡ has_ref d seen
chosen_pair schema items c d collation seen true e h = h.0
chosen_pair schema items c d collation seen false e h = absurd (cc)

pair_closed : (schema : Schema) (items : List Item) (c d : ColumnRef) (collation : Collation)
    (seen : List ColumnRef)
    → c.item ≢ d.item → (own_column schema items c).collation ≡ collation
    → (own_column schema items d).collation ≡ collation
    → affinity_class (own_column schema items c).affinity
    ≡ affinity_class (own_column schema items d).affinity
    → AllByRecursion (IsClosed seen) (pair_of schema items (Some c) (Some d) collation)
    → has_ref c seen ≡ has_ref d seen
pair_closed schema items c d collation seen apart own_c own_d one_class h =
    chosen_pair schema items c d collation seen _
    (both_true _ _ (differ c.item d.item (c.item == d.item) refl apart)
    (both_true _ _ (rw own_c (collation_itself collation))
    (both_true _ _ (rw own_d (collation_itself collation))
    (eq-eqb _ _ one_class)))) h

link_closed : (schema : Schema) (items : List Item) (c d : ColumnRef) (e : BExpr)
    (seen : List ColumnRef)
    → Links schema items c d e → AllByRecursion (IsClosed seen) (link_pair schema items e)
    → has_ref c seen ≡ has_ref d seen
link_closed schema items c d (Cmp IsEqual left right lc rc collation) seen l h =
    pair_closed schema items c d collation seen l.apart l.own_c l.own_d l.one_class
    (subst
    (λ (o : Option ColumnRef). AllByRecursion (IsClosed seen)
    (pair_of schema items (Some c) o collation))
    l.is_d
    (subst
    (λ (o : Option ColumnRef). AllByRecursion (IsClosed seen)
    (pair_of schema items o (bare_column right) collation)) l.is_c h))
link_closed schema items c d e seen l h = absurd l

pub all_front : {A : Type 0} (P : A → Type 0) (xs ys : List A) → AllByRecursion P (xs ++ ys)
    → AllByRecursion P xs × AllByRecursion P ys
all_front P [] ys h = (tt, h)
all_front P (x ∷ xs) ys h = let r = all_front P xs ys h.1 in ((h.0, r.0), r.1)

pairs_at : (schema : Schema) (items : List Item) (es : List BExpr) (number : ℕ) (e : BExpr)
    (P : Pair → Type 0)
    → slice_get es number ≡ Some e → AllByRecursion P (link_pairs schema items es)
    → AllByRecursion P (link_pair schema items e)
pairs_at schema items [] number e P at h = absurd (cc)
pairs_at schema items (f ∷ es) zero e P at h =
    subst (λ (z : BExpr). AllByRecursion P (link_pair schema items z)) (some_is f e at)
    (all_front P (link_pair schema items f) (link_pairs schema items es) h).0
pairs_at schema items (f ∷ es) (suc n) e P at h =
    pairs_at schema items es n e P at
    (all_front P (link_pair schema items f) (link_pairs schema items es) h).1

linked_reached : (schema : Schema) (items : List Item) (es : List BExpr) (c d : ColumnRef)
    (seen : List ColumnRef)
    → Linked schema items es c d → AreClosed (link_pairs schema items es) seen
    → has_ref c seen ≡ has_ref d seen
linked_reached schema items es _ _ seen (link c d number e at l) h =
    link_closed schema items c d e seen l (pairs_at schema items es number e (IsClosed seen) at h)
linked_reached schema items es _ _ seen (back c d l) h =
    sym (linked_reached schema items es c d seen l h)
linked_reached schema items es _ _ seen (chain c d e l m) h =
    linked_reached schema items es c d seen l h ∙ linked_reached schema items es d e seen m h

-- what is not c itself stays when c is left out
others_case : (c d x : ColumnRef) (xs ys : List ColumnRef)
    → (has_ref d xs ≡ true → has_ref d ys ≡ true) → same_ref d c ≡ false → (b : Bool)
    → same_ref x d ≡ b → (b || has_ref d xs) ≡ true
    → has_ref d (cond (not (same_ref x c)) (x ∷ ys) ys) ≡ true
others_case c d x xs ys ih n true e h =
    let same : x ≡ d = ref_is x d e in
    let out : same_ref x c ≡ false = ap (λ (z : ColumnRef). same_ref z c) same ∙ n in
    rw out (or_first (same_ref x d) (has_ref d ys) e)
others_case c d x xs ys ih n false e h = keep (not (same_ref x c)) (ih h)
  where
    keep : (b : Bool) → has_ref d ys ≡ true → has_ref d (cond b (x ∷ ys) ys) ≡ true
    keep true k = or_later (same_ref x d) (has_ref d ys) k
    keep false k = k

others_have : (c d : ColumnRef) (xs : List ColumnRef) → same_ref d c ≡ false → has_ref d xs ≡ true
    → has_ref d (filter (λ x. not (same_ref x c)) xs) ≡ true
others_have c d [] n h = h
others_have c d (x ∷ xs) n h =
    others_case c d x xs (filter (λ y. not (same_ref y c)) xs) (others_have c d xs n) n
    (same_ref x d) refl h

-- by item and column, only the same columns tie
then_ties : (a b : Ordering) → is_eq (ordering_then a b) ≡ (is_eq a && is_eq b)
then_ties Less b = refl
then_ties Equal b = refl
then_ties Greater b = refl

number_is : (s t : Site) → site_number s ≡ site_number t → same_site s t ≡ true
number_is AtRowid AtRowid h = refl
number_is AtRowid (AtColumn n) h = absurd (omega (arith, h))
number_is (AtColumn m) AtRowid h = absurd (omega (arith, h))
number_is (AtColumn m) (AtColumn n) h = eq-eqb m n (omega (arith, h))

site_ties : (s t : Site) → same_site s t ≡ eq_by_cmp nat_cmp (site_number s) (site_number t)
site_ties s t =
    alike (same_site s t) (site_number s == site_number t)
    (λ e. eq-eqb (site_number s) (site_number t) (ap site_number (site_is s t e)))
    (λ e. number_is s t (eqb-true (site_number s) (site_number t) e))
    ∙ unsigned_ties (site_number s) (site_number t)

ref_ties : (c d : ColumnRef) → same_ref c d ≡ eq_by_cmp ref_cmp c d
ref_ties c d =
    ap₂ (λ a b. a && b) (unsigned_ties c.item d.item) (site_ties c.site d.site)
    ∙ sym (then_ties (nat_cmp c.item d.item) (nat_cmp (site_number c.site) (site_number d.site)))

has_tied : (c : ColumnRef) (ds : List ColumnRef)
    → has_ref c ds ≡ has (eq_by_cmp ref_cmp) ds c
has_tied c [] = refl
has_tied c (d ∷ ds) = ap₂ (λ a b. a || b) (ref_ties d c) (has_tied c ds)

ref_total : IsTotalOrder ref_cmp
ref_total =
    then_total (on_total (λ (c : ColumnRef). c.item) nat_cmp_total)
    (on_total (λ (c : ColumnRef). site_number c.site) nat_cmp_total)

sort_has : (d : ColumnRef) (xs : List ColumnRef) → has_ref d xs ≡ true
    → has_ref d (keep_first (eq_by_cmp ref_cmp) [] (sort_by ref_cmp xs)) ≡ true
sort_has d xs h =
    let ys = sort_by ref_cmp xs in
    let E = eq_by_cmp ref_cmp in
    has_tied d (keep_first E [] ys) ∙ sym (or_none (has E (keep_first E [] ys) d))
    ∙ has-keep_first (eq_by_cmp_equiv ref_total) ys [] d ∙ or_none (has E ys d)
    ∙ has_same E ys xs d (SameTally-sort_by ref_cmp xs) ∙ sym (has_tied d xs) ∙ h

pub lists_have_the_linked_columns : ListsHaveTheLinkedColumns
lists_have_the_linked_columns = λ schema items es c.
    let ps = link_pairs schema items es in
    let others = filter (λ x. not (same_ref x c)) (visited c ps) in (
      RisesStrictly-keep_first ref_cmp (sort_by ref_cmp others) []
          (Ascends-sort_by ref_total others),
      linked_are schema items es c,
      λ d l other.
          let here : has_ref c (visited c ps) ≡ true =
          visits_have c (suc (length ps)) (c ∷ []) ps (omega arith)
          (or_first (same_ref c c) false (itself c)) in
          let there : has_ref d (visited c ps) ≡ true =
          sym
          (linked_reached schema items es c d (visited c ps) l
          (visits_close (suc (length ps)) (c ∷ []) ps (omega arith))) ∙ here in
          sort_has d others (others_have c d (visited c ps) other there),
    )
