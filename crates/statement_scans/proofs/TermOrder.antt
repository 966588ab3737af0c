-- Terms as they come, seen as plain data, and with the items that their keys name.
use Rattle.std.proofs.Common.{◌≡◌, Bool, true, false, cond, List, [], ◌∷◌, ◌++◌, refl, ap, ap₂, sym}
use Rattle.std.proofs.Common.{◌∙◌, map, ℕ}
use Rattle.std.proofs.lemmas.List.{map-append}
use Rattle.std.proofs.lemmas.List.Elements.{filter-append}
use Rattle.std.specs.List.{AllByRecursion, filter, flat_map}
use Rattle.list_laws.proofs.Lists.{all_append, all_filter, all_flat_map, all_map}
use Rattle.sql_meaning.specs.Schemas.{IndexColumn}
use Rattle.sql_meaning.specs.Terms as plain
use Rattle.sql_meaning.specs.Choices as choices
use Rattle.plan_choice.specs.Scans as meant
use Rattle.where_terms.specs.Marked.{IsMarked, AreMarked}
use Rattle.where_terms.specs.Views.{term_of, column_terms_of}
use Rattle.where_terms.specs.declared.term.Term.{Term}
use Rattle.where_terms.specs.declared.term.ColumnTerms.{ColumnTerms}
use Rattle.statement_scans.specs.Asked.{is_derived, derived_in, appearing}

kept_case : (t : Term) (ts : List Term) (b : Bool)
    → map term_of (cond b (t ∷ ts) ts) ≡ cond b (term_of t ∷ map term_of ts) (map term_of ts)
kept_case t ts true = refl
kept_case t ts false = refl

derived_seen : (ts : List Term)
    → map term_of (filter is_derived ts) ≡ filter meant.is_derived (map term_of ts)
derived_seen [] = refl
derived_seen (t ∷ ts) =
    kept_case t (filter is_derived ts) (is_derived t)
    ∙ ap (λ (us : List plain.Term). cond (is_derived t) (term_of t ∷ us) us) (derived_seen ts)

abbrev all_of : choices.ColumnTerms → List plain.Term
all_of c = c.equals ++ (c.lows ++ c.highs)

column_seen : (c : ColumnTerms)
    → map term_of (derived_in c) ≡ filter meant.is_derived (all_of (column_terms_of c))
column_seen c =
    let equals = filter is_derived c.equals.now in
    let lows = filter is_derived c.lows.now in
    let highs = filter is_derived c.highs.now in
    map-append term_of equals (lows ++ highs)
    ∙ ap (λ ts. map term_of equals ++ ts) (map-append term_of lows highs)
    ∙ ap₂ (λ a b. a ++ b) (derived_seen c.equals.now)
    (ap₂ (λ a b. a ++ b) (derived_seen c.lows.now) (derived_seen c.highs.now))
    ∙ sym
    (filter-append meant.is_derived (map term_of c.equals.now)
    (map term_of c.lows.now ++ map term_of c.highs.now)
    ∙ ap (λ ts. filter meant.is_derived (map term_of c.equals.now) ++ ts)
    (filter-append meant.is_derived (map term_of c.lows.now) (map term_of c.highs.now)))

columns_seen : (cs : List ColumnTerms)
    → map term_of (flat_map derived_in cs)
    ≡ filter meant.is_derived (flat_map all_of (map column_terms_of cs))
columns_seen [] = refl
columns_seen (c ∷ cs) =
    map-append term_of (derived_in c) (flat_map derived_in cs)
    ∙ ap₂ (λ a b. a ++ b) (column_seen c) (columns_seen cs)
    ∙ sym
    (filter-append meant.is_derived (all_of (column_terms_of c))
    (flat_map all_of (map column_terms_of cs)))

pub appearing_seen : (direct : List Term) (cs : List ColumnTerms)
    → map term_of (appearing direct cs)
    ≡ meant.by_appearance (map term_of direct) (map column_terms_of cs)
appearing_seen direct cs =
    map-append term_of direct (flat_map derived_in cs)
    ∙ ap (λ ts. map term_of direct ++ ts) (columns_seen cs)

column_marked : (c : ColumnTerms) → AreMarked c → AllByRecursion IsMarked (derived_in c)
column_marked c m =
    all_append IsMarked (filter is_derived c.equals.now)
    (filter is_derived c.lows.now ++ filter is_derived c.highs.now)
    (all_filter IsMarked is_derived c.equals.now m.equals)
    (all_append IsMarked (filter is_derived c.lows.now) (filter is_derived c.highs.now)
    (all_filter IsMarked is_derived c.lows.now m.lows)
    (all_filter IsMarked is_derived c.highs.now m.highs))

pub appearing_marked : (direct : List Term) (cs : List ColumnTerms)
    → AllByRecursion IsMarked direct → AllByRecursion AreMarked cs
    → AllByRecursion IsMarked (appearing direct cs)
appearing_marked direct cs own marked =
    all_append IsMarked direct (flat_map derived_in cs) own
    (all_flat_map IsMarked derived_in cs
    (all_map AreMarked (λ c. AllByRecursion IsMarked (derived_in c)) cs column_marked marked))

pub scan_same : (table own count all : ℕ) (order : List IndexColumn) (ts us : List plain.Term)
    → table ≡ own → count ≡ all → ts ≡ us
    → meant.scan_of table count order ts ≡ meant.scan_of own all order us
scan_same table own count all order ts us t n e = rw (t, n, e) refl
