-- What expressions name together, and when a common conjunct is first known.
use Rattle.std.proofs.Common.{◌≡◌, ℕ, Bool, true, false, ◌&&◌, ◌||◌, ◌==◌, List, [], ◌∷◌, ◌++◌}
use Rattle.std.proofs.Common.{refl, ap, sym, ◌∙◌, if◌then◌else◌, None, slice_get, map, IsSomeAnd}
use Rattle.std.proofs.Common.{get_or, length, ◌<◌}
use Rattle.std.proofs.lemmas.Option.{slice_get-map, slice_get-get_or}
use Rattle.std.proofs.lemmas.Bool.{eqb-true, eq-eqb}
use Rattle.list_laws.proofs.Bools.{alike}
use Rattle.sql_meaning.specs.Statements.{has_number, all_in, is_empty}
use Rattle.sql_meaning.specs.Conjuncts.{common_first, first_at}
use Rattle.sql_meaning.specs.Expressions.{names}
use Rattle.sql_bound.specs.declared.statement.Conjunct.{Conjunct}
use Rattle.sql_bound.specs.Expressions.{expr_of}
use Rattle.sql_bound.specs.Statements.{conjunct_of}
use Rattle.sql_bound.specs.declared.serving.Standing.{Standing}
use Rattle.sql_bound.specs.declared.serving.Standing.TheVariants.{Free, Placed, Here, Open}
use Rattle.sql_bound.specs.Naming.{IsPlaced, has_item, farther_of, standing_of, standing_all}
use Rattle.sql_bound.specs.Naming.{known_by}

pub farther_assoc : (a b c : Standing)
    → farther_of (farther_of a b) c ≡ farther_of a (farther_of b c)
farther_assoc Free b c = refl
farther_assoc Open b c = refl
farther_assoc Placed Free c = refl
farther_assoc Placed Placed Free = refl
farther_assoc Placed Placed Placed = refl
farther_assoc Placed Placed Here = refl
farther_assoc Placed Placed Open = refl
farther_assoc Placed Here Free = refl
farther_assoc Placed Here Placed = refl
farther_assoc Placed Here Here = refl
farther_assoc Placed Here Open = refl
farther_assoc Placed Open c = refl
farther_assoc Here Free c = refl
farther_assoc Here Placed Free = refl
farther_assoc Here Placed Placed = refl
farther_assoc Here Placed Here = refl
farther_assoc Here Placed Open = refl
farther_assoc Here Here Free = refl
farther_assoc Here Here Placed = refl
farther_assoc Here Here Here = refl
farther_assoc Here Here Open = refl
farther_assoc Here Open c = refl

pub standing-append : (mask item : ℕ) (xs ys : List ℕ)
    → standing_all mask item (xs ++ ys)
    ≡ farther_of (standing_all mask item xs) (standing_all mask item ys)
standing-append mask item [] ys = refl
standing-append mask item (x ∷ xs) ys =
    ap (farther_of (standing_of mask item x)) (standing-append mask item xs ys)
    ∙ sym
    (farther_assoc (standing_of mask item x) (standing_all mask item xs)
    (standing_all mask item ys))

abbrev is_free : Standing → Bool
is_free Free = true
is_free Placed = false
is_free Here = false
is_free Open = false

abbrev is_closed : Standing → Bool
is_closed Free = true
is_closed Placed = true
is_closed Here = true
is_closed Open = false

abbrev is_here : Standing → Bool
is_here Free = false
is_here Placed = false
is_here Here = true
is_here Open = false

abbrev one : Bool → Bool → Standing
one same there = if same then Here else (if there then Placed else Open)

closed_step : (same there : Bool) (s : Standing)
    → ((same || there) && is_closed s) ≡ is_closed (farther_of (one same there) s)
closed_step true there Free = refl
closed_step true there Placed = refl
closed_step true there Here = refl
closed_step true there Open = refl
closed_step false true Free = refl
closed_step false true Placed = refl
closed_step false true Here = refl
closed_step false true Open = refl
closed_step false false s = refl

closed : (mask item : ℕ) (items : List ℕ) → IsPlaced mask items → (named : List ℕ)
    → all_in named (item ∷ items) ≡ is_closed (standing_all mask item named)
closed mask item items p [] = refl
closed mask item items p (n ∷ ns) =
    ap (λ b. ((n == item) || b) && all_in ns (item ∷ items)) (p.each n)
    ∙ ap (λ b. ((n == item) || has_item mask n) && b) (closed mask item items p ns)
    ∙ closed_step (n == item) (has_item mask n) (standing_all mask item ns)

turned : (m n : ℕ) → (m == n) ≡ (n == m)
turned m n =
    alike (m == n) (n == m) (λ t. eq-eqb n m (sym (eqb-true m n t)))
    (λ t. eq-eqb m n (sym (eqb-true n m t)))

here_step : (same there rest : Bool) (s : Standing) → (is_closed s ≡ true → rest ≡ is_here s)
    → is_closed (farther_of (one same there) s) ≡ true
    → (same || rest) ≡ is_here (farther_of (one same there) s)
here_step true there rest Free f h = refl
here_step true there rest Placed f h = refl
here_step true there rest Here f h = refl
here_step true there rest Open f h = cc
here_step false true rest Free f h = f refl
here_step false true rest Placed f h = f refl
here_step false true rest Here f h = f refl
here_step false true rest Open f h = cc
here_step false false rest s f h = cc

here : (mask item : ℕ) (named : List ℕ) → is_closed (standing_all mask item named) ≡ true
    → has_number item named ≡ is_here (standing_all mask item named)
here mask item [] h = refl
here mask item (n ∷ ns) h =
    ap (λ b. b || has_number item ns) (turned item n)
    ∙ here_step (n == item) (has_item mask n) (has_number item ns) (standing_all mask item ns)
    (here mask item ns) h

free_step : (same there : Bool) (s : Standing) → false ≡ is_free (farther_of (one same there) s)
free_step true there Free = refl
free_step true there Placed = refl
free_step true there Here = refl
free_step true there Open = refl
free_step false true Free = refl
free_step false true Placed = refl
free_step false true Here = refl
free_step false true Open = refl
free_step false false s = refl

free : (mask item : ℕ) (named : List ℕ)
    → is_empty named ≡ is_free (standing_all mask item named)
free mask item [] = refl
free mask item (n ∷ ns) =
    free_step (n == item) (has_item mask n) (standing_all mask item ns)

known_step : (s : Standing) (first named all none : Bool) → all ≡ is_closed s
    → (is_closed s ≡ true → named ≡ is_here s) → none ≡ is_free s
    → known_by first s ≡ ((named && all) || (none && first))
known_step Free first named all none c h f = rw (h refl, f) refl
known_step Placed first named all none c h f = rw (h refl, f) refl
known_step Here first named all none c h f = rw (h refl, c) refl
known_step Open first true all none c h f = rw (c, f) refl
known_step Open first false all none c h f = rw f refl

pub first_known : (mask item : ℕ) (items named : List ℕ) → IsPlaced mask items
    → known_by (mask == 0) (standing_all mask item named) ≡ common_first items item named
first_known mask item items named p =
    known_step (standing_all mask item named) (mask == 0) (has_number item named)
    (all_in named (item ∷ items)) (is_empty named) (closed mask item items p named)
    (here mask item named) (free mask item named)
    ∙ ap
    (λ b. (has_number item named && all_in named (item ∷ items)) || (is_empty named && b))
    (sym p.none)

-- a common conjunct of the statement
pub common_known : (conjuncts : List Conjunct) (number mask item : ℕ) (d : Conjunct)
    → number < length conjuncts → (get_or conjuncts number d).owner ≡ None
    → (items : List ℕ) → IsPlaced mask items
    → IsSomeAnd (slice_get (map conjunct_of conjuncts) number)
    (λ c. known_by (mask == 0)
    (standing_all mask item (names (expr_of (get_or conjuncts number d).expr.now)))
    ≡ first_at items item c)
common_known conjuncts number mask item d below owner items p =
    rw
    (slice_get-map conjunct_of conjuncts number, slice_get-get_or conjuncts number d below, owner)
    (first_known mask item items (names (expr_of (get_or conjuncts number d).expr.now)) p)
