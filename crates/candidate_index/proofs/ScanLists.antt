-- The lists of scans, as they are tried one after the other.
use Rattle.std.proofs.Common.{◌≡◌, ℕ, ◌+◌, ◌<◌, ◌≤◌, true, false, List, [], ◌∷◌, ◌++◌, map, length}
use Rattle.std.proofs.Common.{drop}
use Rattle.std.proofs.Common.{get_or, refl, ap, sym, ◌∙◌, subst, ◌==◌, Result, IfErr, IsErrAnd}
use Rattle.std.proofs.lemmas.Result.{err_from_is_err_and}
use Rattle.std.specs.List.{flat_map}
use Rattle.std.proofs.Common.{append_assoc}
use Rattle.std.proofs.lemmas.List.{map-append, append-nil}
use Rattle.sql_meaning.specs.Schemas as plain
use Rattle.plan_choice.specs.Scans.{apart_from}
use Rattle.plan_choice.specs.Scans as asked
use Rattle.plan_choice.specs.Candidates.{add_list, add_lists, with_candidates, lists_from, lists_of}
use Rattle.plan_choice.specs.Candidates.{then_order}
use Rattle.schema_model.specs.PlainSchemas.{plain_index_column}
use Rattle.schema_model.specs.Schemas.{Schema}
use Rattle.schema_model.specs.declared.indexes.IndexColumn.{IndexColumn}
use Rattle.candidate_index.specs.Faults.{IsWhy}
use Rattle.candidate_index.specs.Known.{behind_usable}
use Rattle.candidate_index.specs.Scans.{scan_of, join_of, scans_of}
use Rattle.candidate_index.specs.Starts.{has_column}
use Rattle.candidate_index.specs.declared.asked.JoinColumns.{JoinColumns}
use Rattle.candidate_index.specs.declared.asked.Scan.{Scan}
use Rattle.candidate_index.specs.declared.found.CandidateFault.{CandidateFault}
use Rattle.candidate_index.proofs.Additions.{lists_append, lists_grow, scans_grow, scans_append}
use Rattle.candidate_index.proofs.Additions.{why_grows}
use Rattle.candidate_index.proofs.StartColumns.{seen, apart_there, apart_new}
use Rattle.candidate_index.proofs.TreeWalks.{drop_step}

-- a start with each column of others that it doesn't have
abbrev pub bound_lists : List IndexColumn → List IndexColumn → List (List plain.IndexColumn)
bound_lists start others = map (λ r. seen start ++ r ∷ []) (apart_from (seen start) (seen others))

abbrev pub join_lists : Scan → List JoinColumns → List (List plain.IndexColumn)
join_lists scan joins =
    flat_map (lists_from (scan_of scan))
    (map (λ columns. seen scan.equal ++ columns) (map join_of joins))

abbrev with_last : List IndexColumn → plain.IndexColumn → List plain.IndexColumn
with_last start r = seen start ++ r ∷ []

bounds_cons : (t : ℕ) (start bounds : List IndexColumn) (i : ℕ) (d : IndexColumn)
    (known : List plain.Index) → i < length bounds
    → has_column (get_or bounds i d).column start ≡ false
    → add_lists t (add_list t known (seen (start ++ get_or bounds i d ∷ [])))
    (bound_lists start (drop (i + 1) bounds))
    ≡ add_lists t known (bound_lists start (drop i bounds))
bounds_cons t start bounds i d known l e =
    ap (λ (x : List plain.IndexColumn).
    add_lists t (add_list t known x) (bound_lists start (drop (i + 1) bounds)))
    (map-append plain_index_column start (get_or bounds i d ∷ []))
    ∙ ap (λ (x : List plain.IndexColumn). add_lists t known (map (with_last start) x))
    (sym (apart_new start bounds i d l e))

pub bounds_new : (t : ℕ) (start bounds : List IndexColumn) (i : ℕ) (d : IndexColumn)
    (known more whole : List plain.Index) → i < length bounds
    → has_column (get_or bounds i d).column start ≡ false
    → more ≡ add_list t known (seen (start ++ get_or bounds i d ∷ []))
    → add_lists t known (bound_lists start (drop i bounds)) ≡ whole
    → add_lists t more (bound_lists start (drop (i + 1) bounds)) ≡ whole
bounds_new t start bounds i d known more whole l e f h =
    ap (λ (x : List plain.Index). add_lists t x (bound_lists start (drop (i + 1) bounds))) f
    ∙ bounds_cons t start bounds i d known l e ∙ h

pub bounds_there : (t : ℕ) (start bounds : List IndexColumn) (i : ℕ) (d : IndexColumn)
    (known more whole : List plain.Index) → i < length bounds
    → has_column (get_or bounds i d).column start ≡ true → more ≡ known
    → add_lists t known (bound_lists start (drop i bounds)) ≡ whole
    → add_lists t more (bound_lists start (drop (i + 1) bounds)) ≡ whole
bounds_there t start bounds i d known more whole l e f h =
    ap (λ (x : List plain.Index). add_lists t x (bound_lists start (drop (i + 1) bounds))) f
    ∙ ap (λ (x : List plain.IndexColumn). add_lists t known (map (with_last start) x))
    (sym (apart_there start bounds i d l e))
    ∙ h

-- a fault on the way is one of the whole
pub why_in_lists : (s : Schema) (t : ℕ) (all whole : List plain.Index)
    (lists : List (List plain.IndexColumn)) (fault : CandidateFault)
    → add_lists t all lists ≡ whole → IsWhy (behind_usable s all) fault
    → IsWhy (behind_usable s whole) fault
why_in_lists s t all whole lists fault e h =
    why_grows s all whole fault
    (subst (λ (x : List plain.Index). length all ≤ length x) e (lists_grow t lists all)) h

pub why_in_bounds : (s : Schema) (t : ℕ) (start bounds : List IndexColumn) (i : ℕ)
    (d : IndexColumn) (known whole : List plain.Index) (fault : CandidateFault)
    → i < length bounds → has_column (get_or bounds i d).column start ≡ false
    → add_lists t known (bound_lists start (drop i bounds)) ≡ whole
    → IsWhy (behind_usable s (add_list t known (seen (start ++ get_or bounds i d ∷ [])))) fault
    → IsWhy (behind_usable s whole) fault
why_in_bounds s t start bounds i d known whole fault l e h =
    why_in_lists s t (add_list t known (seen (start ++ get_or bounds i d ∷ []))) whole
    (bound_lists start (drop (i + 1) bounds)) fault
    (bounds_cons t start bounds i d known l e ∙ h)

joins_cons : (scan : Scan) (joins : List JoinColumns) (i : ℕ) (join : JoinColumns)
    → i < length joins → join ≡ get_or joins i join
    → join_lists scan (drop i joins)
    ≡ lists_from (scan_of scan) (seen (scan.equal ++ join.columns))
    ++ join_lists scan (drop (i + 1) joins)
joins_cons scan joins i join l e =
    ap (join_lists scan) (drop_step joins i join l)
    ∙ ap (λ (x : JoinColumns). join_lists scan (x ∷ drop (i + 1) joins)) (sym e)
    ∙ ap (λ (x : List plain.IndexColumn). lists_from (scan_of scan) x
    ++ join_lists scan (drop (i + 1) joins))
    (sym (map-append plain_index_column scan.equal join.columns))

pub joins_next : (scan : Scan) (joins : List JoinColumns) (i : ℕ) (join : JoinColumns) (t : ℕ)
    (known more whole : List plain.Index) (start : List IndexColumn) → i < length joins
    → join ≡ get_or joins i join → start ≡ scan.equal ++ join.columns
    → more ≡ add_lists t known (lists_from (scan_of scan) (seen start))
    → add_lists t known (join_lists scan (drop i joins)) ≡ whole
    → add_lists t more (join_lists scan (drop (i + 1) joins)) ≡ whole
joins_next scan joins i join t known more whole start l e f g h =
    let rest = join_lists scan (drop (i + 1) joins) in
    let all = λ (x : List IndexColumn). lists_from (scan_of scan) (seen x) in
    ap (λ (x : List plain.Index). add_lists t x rest) g
    ∙ ap (λ (x : List IndexColumn). add_lists t (add_lists t known (all x)) rest) f
    ∙ sym (lists_append t (all (scan.equal ++ join.columns)) rest known)
    ∙ ap (λ (x : List (List plain.IndexColumn)). add_lists t known x)
    (sym (joins_cons scan joins i join l e))
    ∙ h

pub scans_next : (scans : List Scan) (i : ℕ) (scan : Scan) (known more whole : List plain.Index)
    → i < length scans → scan ≡ get_or scans i scan
    → more ≡ add_lists scan.table known (lists_of (scan_of scan))
    → with_candidates known (map scan_of (drop i scans)) ≡ whole
    → with_candidates more (map scan_of (drop (i + 1) scans)) ≡ whole
scans_next scans i scan known more whole l e f h =
    let rest = map scan_of (drop (i + 1) scans) in
    ap (λ (x : List plain.Index). with_candidates x rest) f
    ∙ ap (λ (x : Scan). with_candidates known (scan_of x ∷ rest)) e
    ∙ ap (λ (x : List Scan). with_candidates known (map scan_of x)) (sym (drop_step scans i scan l))
    ∙ h

pub why_in_scans : (s : Schema) (all whole : List plain.Index) (scans : List asked.Scan)
    (fault : CandidateFault) → with_candidates all scans ≡ whole
    → IsWhy (behind_usable s all) fault → IsWhy (behind_usable s whole) fault
why_in_scans s all whole scans fault e h =
    why_grows s all whole fault
    (subst (λ (x : List plain.Index). length all ≤ length x) e (scans_grow scans all)) h

pub statements_next : (statements : List (List Scan)) (i : ℕ) (scans : List Scan)
    (known more whole : List plain.Index) → i < length statements
    → scans ≡ get_or statements i scans → more ≡ with_candidates known (map scan_of scans)
    → with_candidates known (scans_of (drop i statements)) ≡ whole
    → with_candidates more (scans_of (drop (i + 1) statements)) ≡ whole
statements_next statements i scans known more whole l e f h =
    let rest = scans_of (drop (i + 1) statements) in
    ap (λ (x : List plain.Index). with_candidates x rest) f
    ∙ sym (scans_append (map scan_of scans) rest known)
    ∙ ap (λ (x : List Scan). with_candidates known (map scan_of x ++ rest)) e
    ∙ ap (λ (x : List (List Scan)). with_candidates known (scans_of x))
    (sym (drop_step statements i scans l))
    ∙ h

-- the exit of a `?`
pub exits : {X : Type 0} (P : CandidateFault → Type 0) (r : Result X CandidateFault)
    (fault : CandidateFault) → IsErrAnd r (λ e. e ≡ fault) → P fault → IfErr r P
exits {X} P r fault is h =
    let e = err_from_is_err_and r is in
    subst (λ (x : Result X CandidateFault). IfErr x P) (sym e.1) (subst P (sym e.2) h)

order_lists : (start order : List IndexColumn) → (length order == 0) ≡ false
    → then_order (seen start) (seen order)
    ≡ (seen start ++ apart_from (seen start) (seen order)) ∷ []
order_lists start [] e = absurd (cc)
order_lists start (c ∷ cs) e = refl

pub order_whole : (t : ℕ) (known : List plain.Index) (start order list : List IndexColumn)
    → (length order == 0) ≡ false
    → seen list ≡ seen start ++ apart_from (seen start) (seen order)
    → add_list t known (seen list)
    ≡ add_lists t known (then_order (seen start) (seen order))
order_whole t known start order list e f =
    ap (λ (x : List plain.IndexColumn). add_list t known x) f
    ∙ sym (ap (λ (x : List (List plain.IndexColumn)). add_lists t known x)
    (order_lists start order e))

-- the lists of a start in three parts
pub start_chain : (t : ℕ) (a b : List (List plain.IndexColumn)) (start alone : List IndexColumn)
    (none one two : List plain.Index) → one ≡ add_lists t none a → two ≡ add_lists t one b
    → alone ≡ start
    → add_list t two (seen alone) ≡ add_lists t none (a ++ (b ++ seen start ∷ []))
start_chain t a b start alone none one two e f g =
    ap (λ (x : List IndexColumn). add_list t two (seen x)) g
    ∙ ap (λ (x : List plain.Index). add_list t x (seen start)) f
    ∙ sym (lists_append t b (seen start ∷ []) one)
    ∙ ap (λ (x : List plain.Index). add_lists t x (b ++ seen start ∷ [])) e
    ∙ sym (lists_append t a (b ++ seen start ∷ []) none)

pub why_first : (s : Schema) (t : ℕ) (a b : List (List plain.IndexColumn))
    (none : List plain.Index) (fault : CandidateFault)
    → IsWhy (behind_usable s (add_lists t none a)) fault
    → IsWhy (behind_usable s (add_lists t none (a ++ b))) fault
why_first s t a b none fault h =
    why_in_lists s t (add_lists t none a) (add_lists t none (a ++ b)) b fault
    (sym (lists_append t a b none)) h

pub why_second : (s : Schema) (t : ℕ) (a b c : List (List plain.IndexColumn))
    (none one : List plain.Index) (fault : CandidateFault) → one ≡ add_lists t none a
    → IsWhy (behind_usable s (add_lists t one b)) fault
    → IsWhy (behind_usable s (add_lists t none (a ++ (b ++ c)))) fault
why_second s t a b c none one fault e h =
    subst (λ (x : List plain.Index). IsWhy (behind_usable s x) fault)
    (ap (λ (x : List plain.Index). add_lists t x (b ++ c)) e ∙ sym (lists_append t a (b ++ c) none))
    (why_first s t b c one fault h)

pub chain_three : (t : ℕ) (a b c : List (List plain.IndexColumn))
    (none one two three : List plain.Index) → one ≡ add_lists t none a → two ≡ add_lists t one b
    → three ≡ add_lists t two c → three ≡ add_lists t none (a ++ (b ++ c))
chain_three t a b c none one two three e f g =
    g ∙ ap (λ (x : List plain.Index). add_lists t x c) f
    ∙ sym (lists_append t b c one)
    ∙ ap (λ (x : List plain.Index). add_lists t x (b ++ c)) e
    ∙ sym (lists_append t a (b ++ c) none)

flat_map_append : {X Y : Type 0} (f : X → List Y) (xs ys : List X)
    → flat_map f (xs ++ ys) ≡ flat_map f xs ++ flat_map f ys
flat_map_append f [] ys = refl
flat_map_append {X} {Y} f (x ∷ xs) ys =
    ap (λ (z : List Y). f x ++ z) (flat_map_append f xs ys)
    ∙ sym (append_assoc (f x) (flat_map f xs) (flat_map f ys))

-- the lists of a scan, by start
pub scan_parts : (scan : Scan) (all : List IndexColumn) → all ≡ scan.equal ++ scan.joined
    → lists_from (scan_of scan) (seen all)
    ++ (join_lists scan scan.by_item ++ lists_from (scan_of scan) (seen scan.equal))
    ≡ lists_of (scan_of scan)
scan_parts scan all e =
    let s = scan_of scan in
    let from = lists_from s in
    let joins = map (λ (columns : List plain.IndexColumn). seen scan.equal ++ columns)
    (map join_of scan.by_item) in
    let rest = join_lists scan scan.by_item ++ from (seen scan.equal) in
    ap (λ (x : List plain.IndexColumn). from x ++ rest)
    (ap seen e ∙ map-append plain_index_column scan.equal scan.joined)
    ∙ ap (λ (x : List (List plain.IndexColumn)). from (seen scan.equal ++ seen scan.joined)
    ++ (flat_map from joins ++ x)) (sym (append-nil (from (seen scan.equal))))
    ∙ ap (λ (x : List (List plain.IndexColumn)). from (seen scan.equal ++ seen scan.joined) ++ x)
    (sym (flat_map_append from joins (seen scan.equal ∷ [])))

pub scan_chain : (scan : Scan) (t : ℕ) (all equal : List IndexColumn)
    (none one two : List plain.Index) → all ≡ scan.equal ++ scan.joined → equal ≡ scan.equal
    → one ≡ add_lists t none (lists_from (scan_of scan) (seen all))
    → two ≡ add_lists t one (join_lists scan scan.by_item)
    → add_lists t two (lists_from (scan_of scan) (seen equal))
    ≡ add_lists t none (lists_of (scan_of scan))
scan_chain scan t all equal none one two e f g h =
    let s = scan_of scan in
    chain_three t (lists_from s (seen all)) (join_lists scan scan.by_item)
    (lists_from s (seen scan.equal)) none one two
    (add_lists t two (lists_from s (seen equal))) g h
    (ap (λ (x : List IndexColumn). add_lists t two (lists_from s (seen x))) f)
    ∙ ap (λ (x : List (List plain.IndexColumn)). add_lists t none x) (scan_parts scan all e)

pub why_in_all : (s : Schema) (scan : Scan) (t : ℕ) (all : List IndexColumn)
    (none : List plain.Index) (fault : CandidateFault) → all ≡ scan.equal ++ scan.joined
    → IsWhy (behind_usable s (add_lists t none (lists_from (scan_of scan) (seen all)))) fault
    → IsWhy (behind_usable s (add_lists t none (lists_of (scan_of scan)))) fault
why_in_all s scan t all none fault e h =
    subst (λ (x : List (List plain.IndexColumn)).
    IsWhy (behind_usable s (add_lists t none x)) fault) (scan_parts scan all e)
    (why_first s t (lists_from (scan_of scan) (seen all))
    (join_lists scan scan.by_item ++ lists_from (scan_of scan) (seen scan.equal)) none fault h)

pub why_in_joins : (s : Schema) (scan : Scan) (t : ℕ) (all : List IndexColumn)
    (none one : List plain.Index) (fault : CandidateFault) → all ≡ scan.equal ++ scan.joined
    → one ≡ add_lists t none (lists_from (scan_of scan) (seen all))
    → IsWhy (behind_usable s (add_lists t one (join_lists scan scan.by_item))) fault
    → IsWhy (behind_usable s (add_lists t none (lists_of (scan_of scan)))) fault
why_in_joins s scan t all none one fault e f h =
    subst (λ (x : List (List plain.IndexColumn)).
    IsWhy (behind_usable s (add_lists t none x)) fault) (scan_parts scan all e)
    (why_second s t (lists_from (scan_of scan) (seen all)) (join_lists scan scan.by_item)
    (lists_from (scan_of scan) (seen scan.equal)) none one fault f h)
