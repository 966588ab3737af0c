-- The cheapest seek of a branch, index by index, and the seeks of a union, branch by branch.
use Rattle.std.proofs.Common.{◌≡◌, ◌++◌, ℕ, false, List, [], ◌∷◌, Option, Some, None, refl, ap, sym}
use Rattle.std.proofs.Common.{◌∙◌, map, option_map, append_assoc}
use Rattle.std.specs.List.{flat_map}
use Rattle.std.proofs.lemmas.List.{map-append}
use Rattle.std.proofs.lemmas.Option.{same_Some}
use Rattle.sql_meaning.specs.Paths.{Path}
use Rattle.sql_meaning.specs.Choices.{ColumnTerms, Seek, rowid_offer}
use Rattle.plan_choice.specs.Settings.{Setting, table_for, indexes_on}
use Rattle.plan_choice.specs.Offers.{lightest, option_list, seek_by, branch_seek, branch_seeks}
use Rattle.plan_choice.specs.Offers.{both_or_none}
use Rattle.access_paths.specs.Seeks.{SeenSeek, told_seek}
use Rattle.access_paths.specs.Branches.{lighter_of, seen_run, seek_paths, told_in}
use Rattle.access_paths.proofs.Lightest.{lightest-map, lighter_joined, lightest_behind}

pub map-flat_map : {X Y Z : Type 0} (f : Y → Z) (g : X → List Y) (xs : List X)
    → map f (flat_map g xs) ≡ flat_map (λ x. map f (g x)) xs
map-flat_map f g [] = refl
map-flat_map f g (x ∷ xs) =
    map-append f (g x) (flat_map g xs) ∙ ap (λ l. map f (g x) ++ l) (map-flat_map f g xs)

listed-map : {X Y : Type 0} (f : X → Y) (o : Option X)
    → map f (option_list o) ≡ option_list (option_map f o)
listed-map f None = refl
listed-map f (Some x) = refl

in_each : (s : Setting) (placed : List ℕ) (item : ℕ) (columns : List ColumnTerms) (is : List ℕ)
    → map (told_seek false) (flat_map (λ i. option_list (seek_by s placed item columns i)) is)
    ≡ flat_map (told_in s placed item columns) is
in_each s placed item columns [] = refl
in_each s placed item columns (i ∷ is) =
    map-append (told_seek false) (option_list (seek_by s placed item columns i))
    (flat_map (λ j. option_list (seek_by s placed item columns j)) is)
    ∙ ap (λ l. l ++ map (told_seek false)
    (flat_map (λ j. option_list (seek_by s placed item columns j)) is))
    (listed-map (told_seek false) (seek_by s placed item columns i))
    ∙ ap (λ l. told_in s placed item columns i ++ l) (in_each s placed item columns is)

-- before the first index
pub cheapest_start : (s : Setting) (placed : List ℕ) (item : ℕ) (columns : List ColumnTerms)
    (best : Option SeenSeek) (is : List ℕ)
    → best ≡ option_map (told_seek false) (rowid_offer placed columns)
    → is ≡ indexes_on s.schema (table_for s item)
    → lighter_of (seen_run s item) best
    (lightest (seen_run s item) (flat_map (told_in s placed item columns) is))
    ≡ option_map (told_seek false) (branch_seek s placed item columns)
cheapest_start s placed item columns best is first all =
    ap (λ (b : Option SeenSeek). lighter_of (seen_run s item) b
    (lightest (seen_run s item) (flat_map (told_in s placed item columns) is))) first
    ∙ sym
    (lightest_behind (seen_run s item)
    (option_map (told_seek false) (rowid_offer placed columns))
    (flat_map (told_in s placed item columns) is))
    ∙ ap (λ js. lightest (seen_run s item)
    (option_list (option_map (told_seek false) (rowid_offer placed columns))
    ++ flat_map (told_in s placed item columns) js)) all
    ∙ ap (lightest (seen_run s item))
    (sym
    (map-append (told_seek false) (option_list (rowid_offer placed columns))
    (flat_map (λ i. option_list (seek_by s placed item columns i))
    (indexes_on s.schema (table_for s item)))
    ∙ ap (λ l. l ++ map (told_seek false)
    (flat_map (λ j. option_list (seek_by s placed item columns j))
    (indexes_on s.schema (table_for s item))))
    (listed-map (told_seek false) (rowid_offer placed columns))
    ∙ ap (λ l. option_list (option_map (told_seek false) (rowid_offer placed columns)) ++ l)
    (in_each s placed item columns (indexes_on s.schema (table_for s item)))))
    ∙ sym
    (lightest-map (seen_run s item) (told_seek false) (branch_seeks s placed item columns))

-- an index further
pub cheapest_more : (s : Setting) (placed : List ℕ) (item : ℕ) (columns : List ColumnTerms)
    (best found next whole : Option SeenSeek) (i : ℕ) (is : List ℕ)
    → found ≡ option_map (told_seek false) (seek_by s placed item columns i)
    → next ≡ lighter_of (seen_run s item) best found
    → lighter_of (seen_run s item) best
    (lightest (seen_run s item) (flat_map (told_in s placed item columns) (i ∷ is))) ≡ whole
    → lighter_of (seen_run s item) next
    (lightest (seen_run s item) (flat_map (told_in s placed item columns) is)) ≡ whole
cheapest_more s placed item columns best found next whole i is here step before =
    let rest = lightest (seen_run s item) (flat_map (told_in s placed item columns) is) in
    ap (λ (b : Option SeenSeek). lighter_of (seen_run s item) b rest)
    (step ∙ ap (lighter_of (seen_run s item) best) here)
    ∙ lighter_joined (seen_run s item) best
    (option_map (told_seek false) (seek_by s placed item columns i)) rest
    ∙ ap (lighter_of (seen_run s item) best)
    (sym
    (lightest_behind (seen_run s item)
    (option_map (told_seek false) (seek_by s placed item columns i))
    (flat_map (told_in s placed item columns) is)))
    ∙ before

-- a branch further
branch_case : (made more : List Path) (z : SeenSeek) (k : Seek) (us : Option (List Seek))
    → z ≡ told_seek false k → more ≡ made ++ z.path ∷ []
    → option_map (λ ks. made ++ seek_paths ks) (both_or_none (Some k) us)
    ≡ option_map (λ ks. more ++ seek_paths ks) us
branch_case made more z k None is m = refl
branch_case made more z k (Some ks) is m =
    ap Some
    (sym
    (ap (λ l. l ++ seek_paths ks)
    (m ∙ ap (λ (y : SeenSeek). made ++ y.path ∷ []) is)
    ∙ append_assoc made (k.path ∷ []) (seek_paths ks)))

pub union_more : (made more : List Path) (z : SeenSeek) (o : Option Seek)
    (us : Option (List Seek)) (whole : Option (List Path))
    → Some z ≡ option_map (told_seek false) o → more ≡ made ++ z.path ∷ []
    → option_map (λ ks. made ++ seek_paths ks) (both_or_none o us) ≡ whole
    → option_map (λ ks. more ++ seek_paths ks) us ≡ whole
union_more made more z None us whole e m before = absurd (cc)
union_more made more z (Some k) us whole e m before =
    sym (branch_case made more z k us (same_Some z (told_seek false k) e) m) ∙ before

pub union_stops : (made : List Path) (o : Option Seek) (us : Option (List Seek))
    (whole : Option (List Path)) → ◌≡◌ {A = Option SeenSeek} None (option_map (told_seek false) o)
    → option_map (λ ks. made ++ seek_paths ks) (both_or_none o us) ≡ whole → None ≡ whole
union_stops made None us whole e before = before
union_stops made (Some k) us whole e before = absurd (cc)
