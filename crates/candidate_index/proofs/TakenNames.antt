-- Names that are taken, as the code looks them up and as they are meant.
use Rattle.std.proofs.Common.{◌≡◌, ℕ, zero, suc, ◌+◌, ◌%◌, ◌^◌, Bool, true, false, cond, ◌||◌, List}
use Rattle.std.proofs.Common.{[], ◌∷◌, ◌++◌, ◌<◌, map, length, reverse, slice_get, Some}
use Rattle.std.proofs.Common.{rules, refl, ap, sym, ◌∙◌, arith}
use Rattle.std.specs.Prelude.{slice_index_or}
use Rattle.std.specs.List.{list_any}
use Rattle.std.specs.Ordering.{nat_cmp, eq_by_cmp}
use Rattle.std.specs.Cmp.Lexicographic.{slice_cmp}
use Rattle.std.specs.Str.{bytes_eq}
use Rattle.std.proofs.lemmas.List.{length-map, length-append, length-reverse, reverse-append}
use Rattle.std.proofs.lemmas.List.Folds.{list_any-append}
use Rattle.std.proofs.lemmas.Slice.Eq.{bytes_eq-Decides}
use Rattle.std.proofs.lemmas.Map.Text.{is_eq-slice_cmp}
use mathlib.Core.List.{reverse-cons}
use Rattle.list_laws.specs.FirstComing.{has}
use Rattle.list_laws.proofs.Bools.{alike, or_false_left}
use Rattle.sql_meaning.specs.Letters.{folded_bytes}
use Rattle.plan_choice.specs.CandidateNames.{name_of_sum, free_name, candidate_name, Naming}
use Rattle.plan_choice.proofs.FreeNames.{candidate_names_are_free}
use Rattle.sql_meaning.specs.Schemas as plain
use Rattle.sql_value.specs.View.{plain_collation}
use Rattle.sql_value.specs.declared.values.Collation.{Collation}
use Rattle.sql_value.specs.declared.values.Collation.TheVariants.{Binary, Nocase, Rtrim}
use Rattle.schema_model.specs.Names.{is_name, has_name}
use Rattle.schema_model.specs.PlainSchemas.{plain_index_column}
use Rattle.schema_model.specs.Schemas.{Schema, table_names, unread_names, index_names, is_taken}
use Rattle.schema_model.specs.Schemas.{size, all_names}
use Rattle.schema_model.specs.declared.indexes.IndexColumn.{IndexColumn}
use Rattle.schema_model.specs.declared.indexes.Index.{Index}
use Rattle.schema_model.specs.declared.tables.Table.{Table}
use Rattle.candidate_index.specs.Naming.{collation_of, column_of, taken_with, naming}

abbrev same : List ℕ → List ℕ → Bool
same = eq_by_cmp (slice_cmp nat_cmp)

bytes_are : (xs ys : List ℕ) → bytes_eq xs ys ≡ true → xs ≡ ys
bytes_are xs ys e = search (rules, bytes_eq-Decides xs ys, e)

are_bytes : (xs ys : List ℕ) → xs ≡ ys → bytes_eq xs ys ≡ true
are_bytes xs ys e = search (rules, bytes_eq-Decides xs ys, e)

same_name : (a b : List ℕ) → same a b ≡ is_name b a
same_name a b =
    is_eq-slice_cmp a b
    ∙ alike (bytes_eq a b) (is_name b a) (λ e. are_bytes b a (sym (bytes_are a b e)))
    (λ e. are_bytes a b (sym (bytes_are b a e)))

has_is : (names : List (List ℕ)) (n : List ℕ) → has same names n ≡ has_name n names
has_is [] n = refl
has_is (y ∷ ys) n =
    ap (λ b. b || has same ys n) (same_name y n) ∙ ap (λ b. is_name n y || b) (has_is ys n)

turned : (a b : Bool) → (a || (b || false)) ≡ (b || a)
turned true true = refl
turned true false = refl
turned false true = refl
turned false false = refl

any_reversed : {X : Type 0} (p : X → Bool) (xs : List X) → list_any p (reverse xs) ≡ list_any p xs
any_reversed p [] = refl
any_reversed {X} p (x ∷ xs) =
    ap (λ (ys : List X). list_any p ys) (reverse-cons x xs)
    ∙ list_any-append p (reverse xs) (x ∷ [])
    ∙ ap (λ b. b || (p x || false)) (any_reversed p xs)
    ∙ turned (list_any p xs) (p x)

pub taken_is : (s : Schema) (made : List (List ℕ)) (n : List ℕ)
    → (has_name n made || is_taken s n) ≡ has same (taken_with s made) n
taken_is s made n =
    let p = is_name n in
    let t = table_names s.tables in
    let u = unread_names s.unread in
    let i = index_names s.indexes in
    sym (has_is (taken_with s made) n
    ∙ list_any-append p (reverse made) (t ++ (u ++ i))
    ∙ ap (λ b. b || list_any p (t ++ (u ++ i))) (any_reversed p made)
    ∙ ap (λ b. list_any p made || b) (list_any-append p t (u ++ i))
    ∙ ap (λ b. list_any p made || (list_any p t || b)) (list_any-append p u i))

pub taken_length : (s : Schema) (made : List (List ℕ))
    → length (taken_with s made) ≡ size s + length made
taken_length s made =
    let whole = length-append (reverse made) (all_names s) in
    let turns = length-reverse made in
    let first = length-append (table_names s.tables)
    (unread_names s.unread ++ index_names s.indexes) in
    let second = length-append (unread_names s.unread) (index_names s.indexes) in
    let t = length-map s.tables (λ (x : Table). folded_bytes x.name) in
    let u = length-map s.unread folded_bytes in
    let i = length-map s.indexes (λ (x : Index). folded_bytes x.name) in
    omega (arith, whole, turns, first, second, t, u, i)

pub taken_next : (s : Schema) (made : List (List ℕ)) (n : List ℕ)
    → taken_with s (made ++ n ∷ []) ≡ n ∷ taken_with s made
taken_next s made n = ap (λ (xs : List (List ℕ)). xs ++ all_names s) (reverse_push made n)
  where
    reverse_push : (xs : List (List ℕ)) (x : List ℕ) → reverse (xs ++ x ∷ []) ≡ x ∷ reverse xs
    reverse_push xs x = search (rules, reverse-append)

-- where a name is taken the next one is tried
pub this_name : (p : List ℕ → Bool) (table : List ℕ) (m n h : ℕ) → m ≡ suc n
    → p (name_of_sum table h) ≡ false → free_name p table m h ≡ name_of_sum table h
this_name p table m n h e free =
    ap (λ k. free_name p table k h) e
    ∙ ap (λ b. cond b (free_name p table n ((h + 1) % 2 ^ 32)) (name_of_sum table h)) free

pub next_name : (p : List ℕ → Bool) (table : List ℕ) (m n h : ℕ) → m ≡ suc n
    → p (name_of_sum table h) ≡ true
    → free_name p table m h ≡ free_name p table n ((h + 1) % 2 ^ 32)
next_name p table m n h e taken =
    ap (λ k. free_name p table k h) e
    ∙ ap (λ b. cond b (free_name p table n ((h + 1) % 2 ^ 32)) (name_of_sum table h)) taken

pub name_at : (tables : List Table) (n : ℕ) (t : Table) → slice_get tables n ≡ Some t
    → slice_index_or (map (λ (x : Table). x.name) tables) n [] ≡ t.name
name_at [] n t e = absurd (cc)
name_at (x ∷ xs) zero t e = let same : x ≡ t = cc in ap (λ (y : Table). y.name) same
name_at (x ∷ xs) (suc n) t e = name_at xs n t e

collation_back : (c : Collation) → collation_of (plain_collation c) ≡ c
collation_back Binary = refl
collation_back Nocase = refl
collation_back Rtrim = refl

column_back : (c : IndexColumn) → column_of (plain_index_column c) ≡ c
column_back c =
    let with_collation : Collation → IndexColumn =
    λ k. record { column = c.column; coll = k; desc = c.desc } in
    ap with_collation (collation_back c.coll)

pub columns_back : (cs : List IndexColumn) → map column_of (map plain_index_column cs) ≡ cs
columns_back [] = refl
columns_back (c ∷ cs) = let one = column_back c in let rest = columns_back cs in cc

-- the name of a candidate is none of those that were made
pub not_made : (s : Schema) (made : List (List ℕ)) (index : plain.Index)
    → size s + length made + 1 < 2 ^ 32
    → has_name (folded_bytes (candidate_name (naming s) (taken_with s made) index)) made ≡ false
not_made s made index few =
    let name = candidate_name (naming s) (taken_with s made) index in
    let names : Naming = record {
      tables = (naming s).tables;
      taken = taken_with s made;
      text = (naming s).text;
    } in
    let long = taken_length s made in
    let free = candidate_names_are_free names (index ∷ []) (omega (arith, long, few)) in
    or_false_left (has_name (folded_bytes name) made) (is_taken s (folded_bytes name))
    (taken_is s made (folded_bytes name) ∙ free.0)
