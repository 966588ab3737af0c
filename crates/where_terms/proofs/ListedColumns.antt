-- A walk over the columns that have a term: those that are passed over have none.
use Rattle.std.proofs.Common.{◌≡◌, ◌≢◌, ◌<◌, ◌≤◌, ◌+◌, ◌-◌, ℕ, Bool, true, false, ◌&&◌, not}
use Rattle.std.proofs.Common.{◌==◌}
use Rattle.std.proofs.Common.{List, [], ◌∷◌, ◌++◌, cond, refl, ap, sym, ◌∙◌, length, get_or, take}
use Rattle.std.proofs.Common.{map}
use Rattle.std.proofs.Common.{zero, suc, arith, add-one}
use Rattle.std.specs.List.{flat_map, filter}
use Rattle.std.proofs.lemmas.List.{take_more}
use Rattle.std.proofs.lemmas.Bool.{ne_eqb, false_from_ne_true, eqb-false}
use Rattle.std.specs.Ordering.{eq_by_cmp}
use Rattle.list_laws.specs.FirstComing.{keep_first}
use Rattle.list_laws.specs.Order.{sort_by}
use Rattle.list_laws.proofs.Bools.{or_false_left, or_false_right}
use Rattle.sql_meaning.specs.Statements.{has_number}
use Rattle.sql_meaning.specs.Rows.{Site, AtRowid, AtColumn}
use Rattle.sql_meaning.specs.Orders.{same_site}
use Rattle.sql_meaning.specs.Expressions.{ColumnRef, BExpr}
use Rattle.sql_meaning.specs.Schemas.{Schema}
use Rattle.sql_meaning.specs.Items.{Item}
use Rattle.sql_meaning.specs.Terms.{Term, TermKind}
use Rattle.sql_meaning.specs.Choices.{ColumnTerms}
use Rattle.sql_meaning.specs.TermLists.{Pair, same_ref, visits, visited, touches, other_end}
use Rattle.sql_meaning.specs.TermLists.{site_number, of_kind, ref_cmp, is_equal, is_within, is_low}
use Rattle.sql_meaning.specs.TermLists.{is_high, has_term, derived_along}
use Rattle.sql_meaning.proofs.TermLists.{ref_is, itself}
use Rattle.schema_model.specs.PlainSchemas.{plain_schema}
use Rattle.sql_bound.specs.Expressions.{expr_of}
use Rattle.sql_bound.specs.Statements.{item_of}
use Rattle.where_terms.specs.declared.gathering.Sources.{Sources}
use Rattle.where_terms.specs.Views.{term_of, link_of}
use Rattle.where_terms.specs.Linked.{linked_in}
use Rattle.where_terms.specs.Derived.{linked_keys}
use Rattle.where_terms.specs.Gathered.{gathered_from}
use Rattle.where_terms.specs.Sites.{site_at, term_numbers, ref_numbers, pair_numbers, candidates}
use Rattle.where_terms.specs.Sites.{listed_from, if_some}
use Rattle.sql_bound.proofs.Named.{named-append}
use Rattle.where_terms.proofs.Steps.{made_more}

-- the search for the next place
pub passed_more : (n start best more : ℕ) (numbers : List ℕ) (i : ℕ) → i < length numbers
    → more ≤ best → (start ≤ get_or numbers i 0 → more ≤ get_or numbers i 0) → start ≤ n → n < more
    → (n < best → has_number n (take i numbers) ≡ false)
    → has_number n (take (i + 1) numbers) ≡ false
passed_more n start best more numbers i below less passed from under before =
    let differ : n ≢ get_or numbers i 0 =
    λ same. (let h : more ≤ get_or numbers i 0 = passed (rw (← same) from) in omega arith) in
    rw (
      take_more numbers i 0 below,
      named-append n (take i numbers) (get_or numbers i 0 ∷ []),
      before (omega arith),
      ne_eqb n (get_or numbers i 0) differ,
    )
    refl

site_differs : (a : Site) (n : ℕ) → (n == site_number a) ≡ false → same_site a (site_at n) ≡ false
site_differs AtRowid zero h = cc
site_differs AtRowid (suc n) h = refl
site_differs (AtColumn c) zero h = refl
site_differs (AtColumn c) (suc n) h =
    ne_eqb c n (λ same. eqb-false (suc n) (c + 1) h (omega arith))

kind_none : (test : TermKind → Bool) (n : ℕ) (ts : List Term)
    → has_number n (term_numbers ts) ≡ false → of_kind test (site_at n) ts ≡ []
kind_none test n [] h = refl
kind_none test n (t ∷ ts) h =
    rw (site_differs t.column n
    (or_false_left (n == site_number t.column) (has_number n (term_numbers ts)) h))
    (kind_none test n ts
    (or_false_right (n == site_number t.column) (has_number n (term_numbers ts)) h))

ref_differs : (same : Bool) (a : Site) (n : ℕ)
    → has_number n (cond same (site_number a ∷ []) []) ≡ false
    → (same && same_site a (site_at n)) ≡ false
ref_differs true a n h = site_differs a n (or_false_left (n == site_number a) false h)
ref_differs false a n h = refl

turned : (c d : ColumnRef) → same_ref d c ≡ false → same_ref c d ≡ false
turned c d h =
    false_from_ne_true (same_ref c d)
    (λ t. (let same : c ≡ d = ref_is c d t in
    let again : same_ref d c ≡ true = rw same (itself d) in
    let clash : true ≡ false = sym again ∙ h in
    cc))

-- no link touches a column at a place that no link names
touch_none : (item n : ℕ) (ps : List Pair)
    → has_number n (flat_map (pair_numbers item) ps) ≡ false
    → filter (touches (record { item = item; site = site_at n })) ps ≡ []
touch_none item n [] h = refl
touch_none item n (p ∷ ps) h =
    let c : ColumnRef = record { item = item; site = site_at n } in
    let both : has_number n (pair_numbers item p) ≡ false =
    or_false_left (has_number n (pair_numbers item p))
    (has_number n (flat_map (pair_numbers item) ps))
    (sym (named-append n (pair_numbers item p) (flat_map (pair_numbers item) ps)) ∙ h) in
    let rest : has_number n (flat_map (pair_numbers item) ps) ≡ false =
    or_false_right (has_number n (pair_numbers item p))
    (has_number n (flat_map (pair_numbers item) ps))
    (sym (named-append n (pair_numbers item p) (flat_map (pair_numbers item) ps)) ∙ h) in
    let halves =
    sym (named-append n (ref_numbers item p.first) (ref_numbers item p.second)) ∙ both in
    let first : same_ref c p.first ≡ false =
    turned c p.first
    (ref_differs (p.first.item == item) p.first.site n
    (or_false_left (has_number n (ref_numbers item p.first))
    (has_number n (ref_numbers item p.second)) halves)) in
    let second : same_ref c p.second ≡ false =
    turned c p.second
    (ref_differs (p.second.item == item) p.second.site n
    (or_false_right (has_number n (ref_numbers item p.first))
    (has_number n (ref_numbers item p.second)) halves)) in
    rw (first, second) (touch_none item n ps rest)

alone : (n : ℕ) (c : ColumnRef) (ps qs : List Pair) → visits n (map (other_end c) [] ++ []) qs ≡ []
alone zero c ps qs = refl
alone (suc n) c ps qs = refl

visited_alone : (c : ColumnRef) (ps : List Pair) → filter (touches c) ps ≡ []
    → visited c ps ≡ c ∷ []
visited_alone c ps none =
    ap
    (λ qs. c ∷ visits (length ps) (map (other_end c) qs ++ []) (filter (λ p. not (touches c p)) ps))
    none
    ∙ ap (λ cs. c ∷ cs) (alone (length ps) c ps (filter (λ p. not (touches c p)) ps))

linked_none : (item n : ℕ) (ps : List Pair)
    → has_number n (flat_map (pair_numbers item) ps) ≡ false
    → linked_in ps (record { item = item; site = site_at n }) ≡ []
linked_none item n ps h =
    let c : ColumnRef = record { item = item; site = site_at n } in
    ap
    (λ ds. keep_first (eq_by_cmp ref_cmp) []
    (sort_by ref_cmp (filter (λ d. not (same_ref d c)) ds)))
    (visited_alone c ps (touch_none item n ps h))
    ∙ ap (λ b. keep_first (eq_by_cmp ref_cmp) [] (sort_by ref_cmp (cond (not b) (c ∷ []) [])))
    (itself c)

pub keys_none : (schema : Schema) (items : List Item) (c : ColumnRef) (es : List BExpr)
    → linked_keys schema items c [] es ≡ []
keys_none schema items c [] = refl
keys_none schema items c (e ∷ es) = keys_none schema items c es

pub no_term : (s : Sources) (item n : ℕ) → has_number n (candidates s item) ≡ false
    → has_term (gathered_from s (record { item = item; site = site_at n })) ≡ false
no_term s item n h =
    let own = map term_of s.own.now in
    let likes = map term_of s.likes.now in
    let ps = map link_of s.links.now in
    let es = map (λ e. expr_of e.now) s.constants.now in
    let c : ColumnRef = record { item = item; site = site_at n } in
    let linked = flat_map (pair_numbers item) ps in
    let halves = sym (named-append n (term_numbers own) (term_numbers likes ++ linked)) ∙ h in
    let mine : has_number n (term_numbers own) ≡ false =
    or_false_left (has_number n (term_numbers own))
    (has_number n (term_numbers likes ++ linked)) halves in
    let others = sym (named-append n (term_numbers likes) linked)
    ∙ or_false_right (has_number n (term_numbers own))
    (has_number n (term_numbers likes ++ linked)) halves in
    let bounds : has_number n (term_numbers likes) ≡ false =
    or_false_left (has_number n (term_numbers likes)) (has_number n linked) others in
    let none : linked_in ps c ≡ [] =
    linked_none item n ps
    (or_false_right (has_number n (term_numbers likes)) (has_number n linked) others) in
    let derived : derived_along (plain_schema s.schema.now) (map item_of s.items.now) es item c
    (linked_in ps c) ≡ [] =
    rw none (rw (keys_none (plain_schema s.schema.now) (map item_of s.items.now) c es) refl) in
    rw (
      kind_none is_equal n own mine,
      derived,
      kind_none is_within n own mine,
      kind_none is_low n own mine,
      kind_none is_low n likes bounds,
      kind_none is_high n own mine,
      kind_none is_high n likes bounds,
    )
    refl

skip_by : (s : Sources) (item d n r : ℕ)
    → ((k : ℕ) → n ≤ k → k < n + d
    → has_term (gathered_from s (record { item = item; site = site_at k })) ≡ false)
    → listed_from s item n (d + r) ≡ listed_from s item (n + d) r
skip_by s item zero n r none =
    let a : zero + r ≡ r = omega arith in
    let b : n + zero ≡ n = omega arith in
    rw (a, b) refl
skip_by s item (suc d) n r none =
    let a : suc d + r ≡ suc (d + r) = omega arith in
    let b : n + suc d ≡ suc n + d = omega arith in
    let first : has_term (gathered_from s (record { item = item; site = site_at n })) ≡ false =
    none n (omega arith) (omega arith) in
    rw (a, b, first) (skip_by s item d (suc n) r (λ k h l. none k (omega arith) (omega arith)))

pub skip : (s : Sources) (item n m e : ℕ) → n ≤ m → m ≤ e
    → ((k : ℕ) → n ≤ k → k < m → has_number k (candidates s item) ≡ false)
    → listed_from s item n (e - n) ≡ listed_from s item m (e - m)
skip s item n m e up within none =
    let a : e - n ≡ (m - n) + (e - m) = omega arith in
    let b : m ≡ n + (m - n) = omega arith in
    rw a
    (skip_by s item (m - n) n (e - m)
    (λ k h l. no_term s item k (none k h (omega arith)))
    ∙ ap (λ k. listed_from s item k (e - m)) (sym b))

front : (c : ColumnTerms) (cs : List ColumnTerms) (b : Bool)
    → cond b (c ∷ cs) cs ≡ cond b (c ∷ []) [] ++ cs
front c cs true = refl
front c cs false = refl

here : (s : Sources) (item n e : ℕ) → n < e
    → listed_from s item n (e - n)
    ≡ if_some (gathered_from s (record { item = item; site = site_at n }))
    ++ listed_from s item (n + 1) (e - (n + 1))
here s item n e below =
    let a : e - n ≡ suc (e - (n + 1)) = omega arith in
    rw (a, add-one)
    (front (gathered_from s (record { item = item; site = site_at n }))
    (listed_from s item (suc n) (e - suc n))
    (has_term (gathered_from s (record { item = item; site = site_at n }))))

pub listed_turn : (s : Sources) (item n m e : ℕ) (made more whole : List ColumnTerms)
    (c : ColumnTerms) → n < e → n + 1 ≤ m → m ≤ e
    → ((k : ℕ) → n + 1 ≤ k → k < m → has_number k (candidates s item) ≡ false)
    → c ≡ gathered_from s (record { item = item; site = site_at n }) → more ≡ made ++ if_some c
    → made ++ listed_from s item n (e - n) ≡ whole → more ++ listed_from s item m (e - m) ≡ whole
listed_turn s item n m e made more whole c below up within none is m-is inv =
    made_more made (if_some c) (listed_from s item m (e - m)) more _ whole m-is
    (here s item n e below
    ∙ ap (λ x. if_some x ++ listed_from s item (n + 1) (e - (n + 1))) (sym is)
    ∙ ap (λ xs. if_some c ++ xs) (skip s item (n + 1) m e up within none)) inv
