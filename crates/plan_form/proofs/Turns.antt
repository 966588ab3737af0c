-- Loops over lists of places, one list further.
use Rattle.std.proofs.Common.{◌≡◌, ◌≤◌, ℕ, Some, List, [], ◌∷◌, ◌++◌, refl, ap, sym, ◌∙◌}
use Rattle.std.proofs.Common.{map, length, drop, append_assoc, append-nil}
use Rattle.std.specs.Prelude.{slice_index_or}
use Rattle.std.specs.List.{flat_map, slice_get}
use Rattle.list_laws.proofs.Turns.{past_end}
use Rattle.sql_meaning.specs.Rows.{Row, Assignment}
use Rattle.sql_meaning.specs.Schemas.{Database}
use Rattle.sql_eval.specs.declared.environment.Place.{Place}
use Rattle.bound_rows.specs.Places.{assignments, rows_at}

pub flat_turn : {X Y : Type 0} (f : X → List Y) (x : X) (xs rest : List X) (old new all : List Y)
    → new ≡ old ++ f x → xs ≡ x ∷ rest → old ++ flat_map f xs ≡ all
    → new ++ flat_map f rest ≡ all
flat_turn f x xs rest old new all e split h =
    ap (λ l. l ++ flat_map f rest) e ∙ append_assoc old (f x) (flat_map f rest)
    ∙ ap (λ l. old ++ flat_map f l) (sym split) ∙ h

numbers_seen : (database : Database) (table : ℕ) (numbers : List ℕ)
    → rows_at database table (map Some numbers)
    ≡ map (slice_get (slice_index_or database table [])) numbers
numbers_seen database table [] = refl
numbers_seen database table (n ∷ numbers) =
    ap (λ l. slice_get (slice_index_or database table []) n ∷ l)
    (numbers_seen database table numbers)

pub numbered : (database : Database) (table : ℕ) (rows : List Row) (numbers : List ℕ)
    → rows ≡ slice_index_or database table []
    → rows_at database table (map Some numbers) ≡ map (slice_get rows) numbers
numbered database table rows numbers e =
    numbers_seen database table numbers ∙ ap (λ rs. map (slice_get rs) numbers) (sym e)

pub nothing_left : (database : Database) (f : Assignment → List Assignment)
    (lists : List (List Place)) (i : ℕ) (before : List Assignment) → length lists ≤ i
    → before ≡ before ++ flat_map f (assignments database (drop i lists))
nothing_left database f lists i before h =
    sym (append-nil before)
    ∙ ap (λ l. before ++ flat_map f (assignments database l)) (sym (past_end lists i h))
