-- The names of candidates: the table's name, `_idx_`, and a sum over the text of the columns.
use Rattle.std.specs.Prelude.{ℕ, zero, suc, ◌+◌, ◌*◌, ◌/◌, ◌%◌, ◌^◌, Bool, cond, nat_lt, List, []}
use Rattle.std.specs.Prelude.{◌∷◌, ◌++◌, codes, length, slice_index_or}
use Rattle.std.specs.Ordering.{nat_cmp, eq_by_cmp}
use Rattle.std.specs.Cmp.Lexicographic.{slice_cmp}
use Rattle.list_laws.specs.FirstComing.{has}
use Rattle.sql_meaning.specs.Letters.{folded_bytes}
use Rattle.sql_meaning.specs.Schemas.{Index, IndexColumn}

-- with each byte the sum becomes 9 times what it was, and the byte, modulo 2 ^ 32
abbrev pub sum_from : ℕ → List ℕ → ℕ
sum_from h [] = h
sum_from h (b ∷ bs) = sum_from ((9 * h + b) % 2 ^ 32) bs

abbrev pub name_sum : List ℕ → ℕ
name_sum text = sum_from 0 text

abbrev pub hex_digit : ℕ → ℕ
hex_digit d = cond (nat_lt d 10) (48 + d) (87 + d)

-- the last n hexadecimal digits of h, with small letters
abbrev pub hex_digits : ℕ → ℕ → List ℕ
hex_digits zero h = []
hex_digits (suc n) h = hex_digits n (h / 16) ++ hex_digit (h % 16) ∷ []

abbrev pub name_of_sum : List ℕ → ℕ → List ℕ
name_of_sum table h = table ++ (codes "_idx_" ++ hex_digits 8 h)

-- the first name from h on that isn't taken; of one name more than are taken, one isn't
abbrev pub free_name : (List ℕ → Bool) → List ℕ → ℕ → ℕ → List ℕ
free_name is_taken table zero h = name_of_sum table h
free_name is_taken table (suc tries) h =
    let later = free_name is_taken table tries ((h + 1) % 2 ^ 32)
    in cond (is_taken (name_of_sum table h)) later (name_of_sum table h)

-- the tables' names, all names that are taken, folded, and how columns of a table are written
pub record Naming : Type 0 where
  pub tables : List (List ℕ)
  pub taken : List (List ℕ)
  pub text : ℕ → List IndexColumn → List ℕ

abbrev pub is_taken : List (List ℕ) → List ℕ → Bool
is_taken taken name = has (eq_by_cmp (slice_cmp nat_cmp)) taken (folded_bytes name)

abbrev pub candidate_name : Naming → List (List ℕ) → Index → List ℕ
candidate_name n taken index =
    free_name (is_taken taken) (slice_index_or n.tables index.table []) (length taken)
    (name_sum (n.text index.table index.columns))

-- the name of each candidate is taken for those behind it
abbrev pub names_from : Naming → List (List ℕ) → List Index → List (List ℕ)
names_from n taken [] = []
names_from n taken (index ∷ indexes) =
    let name = candidate_name n taken index
    in name ∷ names_from n (folded_bytes name ∷ taken) indexes

abbrev pub candidate_names : Naming → List Index → List (List ℕ)
candidate_names n indexes = names_from n n.taken indexes
