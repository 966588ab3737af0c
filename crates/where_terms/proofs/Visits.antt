-- A turn of the visits. The last column of those that are to be visited comes first, and so do
-- links.
use Rattle.std.proofs.Common.{◌≡◌, ◌<◌, ◌+◌, ◌-◌, ℕ, Bool, true, false, not, List, [], ◌∷◌, ◌++◌}
use Rattle.std.proofs.Common.{cond}
use Rattle.std.proofs.Common.{refl, ap, ap₂, sym, ◌∙◌, length, map, zero, suc, arith, reverse}
use Rattle.std.specs.List.{filter}
use Rattle.std.proofs.lemmas.List.{reverse-append, reverse-reverse, append_assoc, append-nil}
use Rattle.std.proofs.lemmas.List.{length-map}
use Rattle.std.proofs.lemmas.List.Elements.{filter-append}
use Rattle.list_laws.proofs.Turns.{map_reverse}
use Rattle.sql_meaning.specs.Expressions.{ColumnRef}
use Rattle.sql_meaning.specs.TermLists.{Pair, touches, other_end, visits, visited}
use Rattle.sql_bound.specs.Columns.{column_ref_of}
use Rattle.sql_bound.specs.declared.columns.ColumnRef.{ColumnRef as Held}
use Rattle.where_terms.specs.Views.{link_of}
use Rattle.where_terms.specs.declared.links.Link.{Link}

one_back : {X : Type 0} (x : X) (b : Bool) → reverse (cond b (x ∷ []) []) ≡ cond b (x ∷ []) []
one_back x true = refl
one_back x false = refl

front : {X : Type 0} (x : X) (xs : List X) (b : Bool)
    → cond b (x ∷ xs) xs ≡ cond b (x ∷ []) [] ++ xs
front x xs true = refl
front x xs false = refl

pub filter-reverse : {X : Type 0} (p : X → Bool) (xs : List X)
    → filter p (reverse xs) ≡ reverse (filter p xs)
filter-reverse p [] = refl
filter-reverse p (x ∷ xs) =
    ap (filter p) (reverse-append (x ∷ []) xs)
    ∙ filter-append p (reverse xs) (x ∷ [])
    ∙ ap₂ (λ ys zs. ys ++ zs) (filter-reverse p xs) (sym (one_back x (p x)))
    ∙ sym (reverse-append (cond (p x) (x ∷ []) []) (filter p xs))
    ∙ ap reverse (sym (front x (filter p xs) (p x)))

-- what is to be visited and the links are held from the last to the first
pub visit_turn : (n i : ℕ) (c : ColumnRef) (before next more : List ColumnRef)
    (links left : List Pair) (found made whole : List ColumnRef)
    → i < n → before ≡ next ++ c ∷ []
    → more ≡ next ++ map (other_end c) (filter (touches c) links)
    → left ≡ filter (λ p. not (touches c p)) links
    → made ≡ found ++ c ∷ []
    → found ++ visits (n - i) (reverse before) (reverse links) ≡ whole
    → made ++ visits (n - (i + 1)) (reverse more) (reverse left) ≡ whole
visit_turn n i c before next more links left found made whole below b m l d inv =
    let one : n - i ≡ suc (n - (i + 1)) = omega arith in
    let ends : reverse more
    ≡ map (other_end c) (filter (touches c) (reverse links)) ++ reverse next =
    ap reverse m
    ∙ reverse-append next (map (other_end c) (filter (touches c) links))
    ∙ ap (λ xs. xs ++ reverse next)
    (sym (map_reverse (other_end c) (filter (touches c) links))
    ∙ ap (map (other_end c)) (sym (filter-reverse (touches c) links))) in
    let kept : reverse left ≡ filter (λ p. not (touches c p)) (reverse links) =
    ap reverse l ∙ sym (filter-reverse (λ p. not (touches c p)) links) in
    let first : reverse before ≡ c ∷ reverse next = ap reverse b ∙ reverse-append next (c ∷ []) in
    ap (λ xs. xs ++ visits (n - (i + 1)) (reverse more) (reverse left)) d
    ∙ append_assoc found (c ∷ []) (visits (n - (i + 1)) (reverse more) (reverse left))
    ∙ ap₂ (λ ns ps. found ++ c ∷ visits (n - (i + 1)) ns ps) ends kept
    ∙ sym
    (ap₂ (λ k ns. found ++ visits k ns (reverse links)) one first)
    ∙ inv

none_left : (n : ℕ) (ps : List Pair) → visits n [] ps ≡ []
none_left zero ps = refl
none_left (suc n) ps = refl

-- with nothing to visit, all is found
pub visits_end : (n : ℕ) (links : List Pair) (before found whole : List ColumnRef) → before ≡ []
    → found ++ visits n (reverse before) (reverse links) ≡ whole → found ≡ whole
visits_end n links before found whole b inv =
    sym (append-nil found)
    ∙ ap (λ vs. found ++ vs)
    (sym (ap (λ ns. visits n (reverse ns) (reverse links)) b ∙ none_left n (reverse links)))
    ∙ inv

turned_back : {X Y : Type 0} (f : X → Y) (xs : List X) → reverse (map f (reverse xs)) ≡ map f xs
turned_back f xs = ap reverse (map_reverse f xs) ∙ reverse-reverse (map f xs)

pub visits_start : (links held : List Link) (found next : List Held) (c : Held) → found ≡ []
    → next ≡ c ∷ [] → held ≡ reverse links
    → map column_ref_of found
    ++ visits (length links + 1 - 0) (reverse (map column_ref_of next)) (reverse (map link_of held))
    ≡ visited (column_ref_of c) (map link_of links)
visits_start links held found next c f n h =
    let count : length links + 1 - 0 ≡ suc (length (map link_of links)) =
    omega (arith, length-map links link_of) in
    rw (f, n, h, turned_back link_of links, count) refl
