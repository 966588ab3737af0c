-- What rows of sqlite_stat1 give, one row further.
use Rattle.std.specs.List.{AllByRecursion}
use Rattle.std.proofs.Common.{◌≡◌, ℕ, zero, suc, ◌+◌, ◌-◌, ◌^◌, ◌<◌, Bool, true, false, cond}
use Rattle.std.proofs.Common.{refl, arith}
use Rattle.std.proofs.Common.{ap, sym, ◌∙◌, List, [], ◌∷◌, ◌++◌, length, map, Option, Some, None}
use Rattle.std.proofs.Common.{slice_get, slice_index_or, get_or, ◌==◌, take, drop, ◌≤◌, ◌&&◌}
use Rattle.std.proofs.Common.{nat_lt, set}
use Rattle.sql_meaning.specs.Schemas.{Index}
use Rattle.sql_meaning.specs.Numbers.{digits_up_to}
use Rattle.plan_choice.specs.Logarithms.{log_est}
use Rattle.plan_choice.specs.GivenFigures.{Given, Names, Counts, or_before, last_counts}
use Rattle.plan_choice.specs.GivenFigures.{index_counts}
use Rattle.plan_choice.specs.GivenFigures.{given_of_index, given_of_indexes, first_of_table}
use Rattle.plan_choice.specs.GivenFigures.{table_or, table_counts, given_tables, read_counts}
use Rattle.plan_choice.specs.GivenFigures.{words_of, with_number, is_of_index, same_name}
use Rattle.schema_model.specs.declared.given.Given as held
use Rattle.std.specs.Option.{option_map, is_some}
use Rattle.std.proofs.lemmas.Option.{slice_get-map}
use Rattle.std.proofs.lemmas.Bool.Decides.{nat_tests}
use Rattle.schema_model.specs.Schemas.{Schema}
use Rattle.schema_model.specs.PlainSchemas.{plain_index, plain_index_column, plain_schema}
use Rattle.schema_model.specs.declared.tables.Table as held_table
use Rattle.std.proofs.lemmas.List.{length-map}
use Rattle.stat_figures.proofs.Lists.{seen_get}
use Rattle.stat_figures.specs.GivenCounts.{plain_counts, plain_slots}
use Rattle.stat_figures.specs.declared.given_counts.GivenCounts.{GivenCounts}
use Rattle.plan_choice.specs.GivenFigures.{is_of_table}
use Rattle.schema_model.specs.declared.indexes.Index as held_index
use Rattle.stat_figures.specs.GivenCounts.{said_of, said_at, is_number, HasNumbers}
use Rattle.stat_figures.specs.Requests.{names_of, plain_given}

pub last_more : (read : Given → Option Counts) (before : Option Counts) (rows : List Given)
    (row : Given)
    → last_counts read before (rows ++ row ∷ [])
    ≡ or_before (read row) (last_counts read before rows)
last_more read before [] row = refl
last_more read before (first ∷ rows) row = last_more read (or_before (read first) before) rows row

-- what rows give of an index, if it has a name
abbrev pub given_at : Names → List Given → Option Index → Option (List ℕ) → Option Counts
given_at names rows None name = None
given_at names rows (Some index) None = None
given_at names rows (Some index) (Some name) = given_of_index names rows index name

at_case : (b : Bool) (row before more : Option Counts) → more ≡ or_before row before
    → cond b None more ≡ or_before (cond b None row) (cond b None before)
at_case true row before more h = refl
at_case false row before more h = h

pub given_more : (names : Names) (rows : List Given) (row : held.Given) (index : Option Index)
    (name : Option (List ℕ))
    → given_at names (rows ++ plain_given row ∷ []) index name
    ≡ or_before (said_of names row index name) (given_at names rows index name)
given_more names rows row None name = refl
given_more names rows row (Some index) None = refl
given_more names rows row (Some index) (Some name) =
    at_case (length index.columns == 0) (index_counts names index name (plain_given row))
    (last_counts (index_counts names index name) None rows) _
    (last_more (index_counts names index name) None rows (plain_given row))

no_case : (b : Bool) → ◌≡◌ {A = Option Counts} (cond b None None) None
no_case true = refl
no_case false = refl

pub given_none : (names : Names) (index : Option Index) (name : Option (List ℕ))
    → given_at names [] index name ≡ None
given_none names None name = refl
given_none names (Some index) None = refl
given_none names (Some index) (Some name) = no_case (length index.columns == 0)

pub given_length : (names : Names) (rows : List Given) (indexes : List Index)
    (own : List (List ℕ)) → length (given_of_indexes names rows indexes own) ≡ length indexes
given_length names rows [] own = refl
given_length names rows (index ∷ indexes) [] = ap suc (given_length names rows indexes [])
given_length names rows (index ∷ indexes) (name ∷ own) =
    ap suc (given_length names rows indexes own)

pub given_is : (names : Names) (rows : List Given) (indexes : List Index) (own : List (List ℕ))
    (k : ℕ) → k < length indexes
    → slice_index_or (given_of_indexes names rows indexes own) k None
    ≡ given_at names rows (slice_get indexes k) (slice_get own k)
given_is names rows [] own k h = absurd (omega arith)
given_is names rows (index ∷ indexes) [] zero h = refl
given_is names rows (index ∷ indexes) [] (suc k) h =
    given_is names rows indexes [] k (omega arith)
given_is names rows (index ∷ indexes) (name ∷ own) zero h = refl
given_is names rows (index ∷ indexes) (name ∷ own) (suc k) h =
    given_is names rows indexes own k (omega arith)

-- what is given has a number
number_case : (o : Option ℕ) (counts : Option Counts) → HasNumbers (with_number o counts)
number_case None counts = tt
number_case (Some k) None = tt
number_case (Some k) (Some counts) = omega arith

some_read : (n : ℕ) (words : List (List ℕ)) → HasNumbers (read_counts (suc n) words)
some_read n [] = tt
some_read n (word ∷ words) =
    number_case (digits_up_to (2 ^ 63 - 1) word) (read_counts n words)

or_has : (o before : Option Counts) → HasNumbers o → HasNumbers before
    → HasNumbers (or_before o before)
or_has None before h k = k
or_has (Some counts) before h k = h

last_has : (read : Given → Option Counts) → ((row : Given) → HasNumbers (read row))
    → (before : Option Counts) → HasNumbers before → (rows : List Given)
    → HasNumbers (last_counts read before rows)
last_has read f before h [] = h
last_has read f before h (row ∷ rows) =
    last_has read f (or_before (read row) before) (or_has (read row) before (f row) h) rows

cond_has : (b : Bool) (o p : Option Counts) → HasNumbers o → HasNumbers p
    → HasNumbers (cond b o p)
cond_has true o p h k = h
cond_has false o p h k = k

pub given_has : (names : Names) (rows : List Given) (indexes : List Index) (own : List (List ℕ))
    → AllByRecursion HasNumbers (given_of_indexes names rows indexes own)
given_has names rows [] own = tt
given_has names rows (index ∷ indexes) [] = (tt, given_has names rows indexes [])
given_has names rows (index ∷ indexes) (name ∷ own) = (
  cond_has (length index.columns == 0) None _ tt
      (last_has (index_counts names index name)
      (λ row. cond_has (is_of_index (slice_index_or names.tables index.table []) name row row.index)
      _ None (some_read (length index.columns) (words_of row.stat)) tt) None tt rows),
  given_has names rows indexes own,
)

-- a table, by its number
pub tables_are : (names : Names) (rows : List Given) (indexes : List Index)
    (given : List (Option Counts)) (table : ℕ) (ns : List ℕ) (k : ℕ) → k < length ns
    → get_or (given_tables names rows indexes given table ns) k 0
    ≡ table_or (last_counts (table_counts names (table + k)) None rows)
    (first_of_table (table + k) indexes given (get_or ns k 0))
tables_are names rows indexes given table [] k h = absurd (omega arith)
tables_are names rows indexes given table (n ∷ ns) zero h =
    ap
    (λ t. table_or (last_counts (table_counts names t) None rows)
    (first_of_table t indexes given n)) (none_more table)
  where
    none_more : (t : ℕ) → t ≡ t + 0
    none_more t = omega arith
tables_are names rows indexes given table (n ∷ ns) (suc k) h =
    tables_are names rows indexes given (suc table) ns k (omega arith)
    ∙ ap
    (λ t. table_or (last_counts (table_counts names t) None rows)
    (first_of_table t indexes given (get_or ns k 0))) (one_more table k)
  where
    one_more : (t k : ℕ) → suc t + k ≡ t + suc k
    one_more t k = omega arith

-- a row further
pub table_more : (o before : Option Counts) (n : ℕ)
    → table_or (or_before o before) n ≡ table_or o (table_or before n)
table_more None before n = refl
table_more (Some counts) before n = refl

below : (k own : ℕ) → nat_lt k own ≡ true → k < own
below k own h = grind (arith, nat_tests)

past : (k own : ℕ) → nat_lt k own ≡ false → own ≤ k
past k own h = grind (arith, nat_tests)

-- what a row says of the index of a number
abbrev pub counts_said : held_index.Index → held.Given → Option Counts
counts_said index row =
    cond (length (plain_index index).columns == 0) None
    (read_counts (suc (length (plain_index index).columns)) (words_of row.stat))

get_first : {X : Type 0} (xs : List X) (n k : ℕ) → k < n → slice_get (take n xs) k ≡ slice_get xs k
get_first [] zero k h = refl
get_first [] (suc n) k h = refl
get_first (x ∷ xs) zero k h = absurd (omega arith)
get_first (x ∷ xs) (suc n) zero h = refl
get_first (x ∷ xs) (suc n) (suc k) h = get_first xs n k (omega arith)

get_later : {X : Type 0} (xs : List X) (n k : ℕ) → n ≤ k → slice_get (take n xs) k ≡ None
get_later [] zero k h = refl
get_later [] (suc n) k h = refl
get_later (x ∷ xs) zero k h = refl
get_later (x ∷ xs) (suc n) zero h = absurd (omega arith)
get_later (x ∷ xs) (suc n) (suc k) h = get_later xs n k (omega arith)

own_case : (b c : Bool) (o : Option Counts)
    → cond b None (cond c o None) ≡ cond c (cond b None o) None
own_case true true o = refl
own_case true false o = refl
own_case false c o = refl

said_case : (schema : Schema) (own : ℕ) (row : held.Given) (k : ℕ) (index : held_index.Index)
    → slice_get schema.indexes k ≡ Some index → (b : Bool) → nat_lt k own ≡ b
    → said_at schema own row k
    ≡ cond
    (b
    && is_of_index (slice_index_or (names_of schema 0).tables index.table []) index.name
    (plain_given row) row.index)
    (counts_said index row) None
said_case schema own row k index e true l =
    let names = names_of schema own in
    let name : slice_get names.indexes k ≡ Some index.name =
    get_first (map (λ i. i.name) schema.indexes) own k (below k own l)
    ∙ slice_get-map (λ i. i.name) schema.indexes k ∙ ap (option_map (λ i. i.name)) e in
    let it : slice_get (plain_schema schema).indexes k ≡ Some (plain_index index) =
    slice_get-map plain_index schema.indexes k ∙ ap (option_map plain_index) e in
    ap (λ o. said_of names row o (slice_get names.indexes k)) it
    ∙ ap (said_of names row (Some (plain_index index))) name
    ∙ own_case (length (plain_index index).columns == 0)
    (is_of_index (slice_index_or names.tables index.table []) index.name (plain_given row)
    row.index)
    (read_counts (suc (length (plain_index index).columns)) (words_of row.stat))
said_case schema own row k index e false l =
    let names = names_of schema own in
    let name : slice_get names.indexes k ≡ None =
    get_later (map (λ i. i.name) schema.indexes) own k (past k own l) in
    let it : slice_get (plain_schema schema).indexes k ≡ Some (plain_index index) =
    slice_get-map plain_index schema.indexes k ∙ ap (option_map plain_index) e in
    ap (λ o. said_of names row o (slice_get names.indexes k)) it
    ∙ ap (said_of names row (Some (plain_index index))) name

pub row_says : (schema : Schema) (own : ℕ) (row : held.Given) (found : Option ℕ) (k : ℕ)
    (index : held_index.Index)
    → slice_get schema.indexes k ≡ Some index
    → is_number k found
    ≡ (nat_lt k own
    && is_of_index (slice_index_or (names_of schema 0).tables index.table []) index.name
    (plain_given row) row.index)
    → said_at schema own row k ≡ cond (is_number k found) (counts_said index row) None
row_says schema own row found k index e h =
    said_case schema own row k index e (nat_lt k own) refl
    ∙ ap (λ b. cond b (counts_said index row) None) (sym h)

pub nothing_said : (said old : Option Counts) → said ≡ None → old ≡ or_before said old
nothing_said said old e = sym (ap (λ s. or_before s old) e)

same_place : (number k : ℕ) → (number == k) ≡ true → number ≡ k
same_place number k h = grind (arith, nat_tests)

same_index : (indexes : List held_index.Index) (number k : ℕ) (at index : held_index.Index)
    → slice_get indexes number ≡ Some at → slice_get indexes k ≡ Some index → number ≡ k
    → at ≡ index
same_index indexes number k at index e f g =
    let both : Some at ≡ Some index = sym e ∙ ap (slice_get indexes) g ∙ f in cc

read_case : (at : held_index.Index) (row : held.Given) (b : Bool)
    → (length (plain_index at).columns == 0) ≡ b → (length at.columns ≡ 0 → ⊥)
    → cond b None (read_counts (suc (length (plain_index at).columns)) (words_of row.stat))
    ≡ read_counts (length at.columns + 1) (words_of row.stat)
read_case at row true e h = absurd (h (none_left at e))
  where
    none_left : (at : held_index.Index) → (length (plain_index at).columns == 0) ≡ true
        → length at.columns ≡ 0
    none_left at e =
        sym (length-map at.columns plain_index_column)
        ∙ same_place (length (plain_index at).columns) 0 e
read_case at row false e h =
    ap (λ n. read_counts n (words_of row.stat))
    (ap suc (length-map at.columns plain_index_column) ∙ one_more (length at.columns))
  where
    one_more : (n : ℕ) → suc n ≡ n + 1
    one_more n = omega arith

number_said_case : (indexes : List held_index.Index) (row : held.Given) (number k : ℕ)
    (at index : held_index.Index) (o : Option Counts) → slice_get indexes number ≡ Some at
    → slice_get indexes k ≡ Some index → counts_said at row ≡ o → (b : Bool)
    → (number == k) ≡ b → cond b (counts_said index row) None ≡ cond b o None
number_said_case indexes row number k at index o e f g true h =
    ap (λ i. counts_said i row)
    (sym (same_index indexes number k at index e f (same_place number k h))) ∙ g
number_said_case indexes row number k at index o e f g false h = refl

-- of the index that a row names
pub number_said : (indexes : List held_index.Index) (row : held.Given) (number k : ℕ)
    (at index : held_index.Index) (o : Option Counts) → slice_get indexes number ≡ Some at
    → slice_get indexes k ≡ Some index → (length at.columns ≡ 0 → ⊥)
    → o ≡ read_counts (length at.columns + 1) (words_of row.stat)
    → cond (number == k) (counts_said index row) None ≡ cond (number == k) o None
number_said indexes row number k at index o e f h g =
    number_said_case indexes row number k at index o e f
    (read_case at row (length (plain_index at).columns == 0) refl h ∙ sym g) (number == k) refl

empty_case : (at : held_index.Index) (row : held.Given) → length at.columns ≡ 0
    → counts_said at row ≡ None
empty_case at row h =
    ap
    (λ n. cond (n == 0) None
    (read_counts (suc (length (plain_index at).columns)) (words_of row.stat)))
    (length-map at.columns plain_index_column ∙ h)

pub nothing_case : (b : Bool) → ◌≡◌ {A = Option Counts} (cond b None None) None
nothing_case b = no_case b

pub empty_said : (indexes : List held_index.Index) (row : held.Given) (number k : ℕ)
    (at index : held_index.Index) → slice_get indexes number ≡ Some at
    → slice_get indexes k ≡ Some index → length at.columns ≡ 0
    → cond (number == k) (counts_said index row) None ≡ None
empty_said indexes row number k at index e f h =
    number_said_case indexes row number k at index None e f (empty_case at row h) (number == k) refl
    ∙ no_case (number == k)

zero_not : (k : ℕ) → (0 == suc k) ≡ false
zero_not k = grind (arith, nat_tests)

suc_not : (n : ℕ) → (suc n == 0) ≡ false
suc_not n = grind (arith, nat_tests)

suc_same : (n k : ℕ) → (suc n == suc k) ≡ (n == k)
suc_same n k = grind (arith, nat_tests)

-- where one is put
pub put_at : {X : Type 0} (xs : List X) (i k : ℕ) (x d : X) → i < length xs
    → get_or (set xs i x) k d ≡ cond (i == k) x (get_or xs k d)
put_at [] i k x d h = absurd (omega arith)
put_at (y ∷ ys) zero zero x d h = refl
put_at (y ∷ ys) zero (suc k) x d h = sym (ap (λ b. cond b x (get_or ys k d)) (zero_not k))
put_at (y ∷ ys) (suc i) zero x d h = sym (ap (λ b. cond b x y) (suc_not i))
put_at (y ∷ ys) (suc i) (suc k) x d h =
    put_at ys i k x d (omega arith) ∙ sym (ap (λ b. cond b x (get_or ys k d)) (suc_same i k))

slot_case : (b : Bool) (counts : Counts) (old : Option Counts)
    → cond b (Some counts) old ≡ or_before (cond b (Some counts) None) old
slot_case true counts old = refl
slot_case false counts old = refl

map_put : {X Z : Type 0} (f : X → Z) (xs : List X) (i : ℕ) (x : X)
    → map f (set xs i x) ≡ set (map f xs) i (f x)
map_put f [] i x = refl
map_put f (y ∷ ys) zero x = refl
map_put f (y ∷ ys) (suc i) x = ap (λ zs. f y ∷ zs) (map_put f ys i x)

pub slot_put : (slots : List (Option GivenCounts)) (number k : ℕ) (counts : GivenCounts)
    → number < length slots
    → slice_index_or (plain_slots (set slots number (Some counts))) k None
    ≡ or_before (cond (number == k) (Some (plain_counts counts)) None)
    (slice_index_or (plain_slots slots) k None)
slot_put slots number k counts h =
    ap (λ os. slice_index_or os k None)
    (map_put (option_map plain_counts) slots number (Some counts))
    ∙ put_at (plain_slots slots) number k (Some (plain_counts counts)) None
    (simp length-map (omega arith))
    ∙ slot_case (number == k) (plain_counts counts) (slice_index_or (plain_slots slots) k None)

-- tables by the indexes behind a number
drop_get : {X : Type 0} (xs : List X) (n : ℕ) (x : X) → slice_get xs n ≡ Some x
    → drop n xs ≡ x ∷ drop (n + 1) xs
drop_get [] n x e = absurd (cc)
drop_get (y ∷ ys) zero x e = let same : Some y ≡ Some x = e in let it : y ≡ x = cc in
    ap (λ z. z ∷ ys) it
drop_get (y ∷ ys) (suc n) x e = drop_get ys n x e ∙ ap (λ m. x ∷ drop m (y ∷ ys)) (shift n)
  where
    shift : (n : ℕ) → suc (n + 1) ≡ suc n + 1
    shift n = omega arith

pub first_some : (indexes : List Index) (given : List (Option Counts)) (n k d : ℕ)
    (index : Index) (counts : Counts) → slice_get indexes n ≡ Some index
    → slice_get given n ≡ Some (Some counts)
    → first_of_table k (drop n indexes) (drop n given) d
    ≡ cond (index.table == k) (log_est (slice_index_or counts.numbers 0 0))
    (first_of_table k (drop (n + 1) indexes) (drop (n + 1) given) d)
first_some indexes given n k d index counts e f =
    rw (drop_get indexes n index e, drop_get given n (Some counts) f) refl

pub first_none : (indexes : List Index) (given : List (Option Counts)) (n k d : ℕ)
    (index : Index) → slice_get indexes n ≡ Some index → slice_get given n ≡ Some None
    → first_of_table k (drop n indexes) (drop n given) d
    ≡ first_of_table k (drop (n + 1) indexes) (drop (n + 1) given) d
first_none indexes given n k d index e f =
    rw (drop_get indexes n index e, drop_get given n None f) refl

-- what a row says of a table
pub table_said : (schema : Schema) (row : held.Given) (k : ℕ) (table : held_table.Table) (b : Bool)
    → slice_get schema.tables k ≡ Some table → row.index ≡ None
    → same_name table.name row.table ≡ b
    → table_counts (names_of schema 0) k (plain_given row)
    ≡ cond b (read_counts 1 (words_of row.stat)) None
table_said schema row k table b e f h =
    ap
    (λ o. cond
    (is_of_table (slice_index_or (names_of schema 0).tables k []) (plain_given row) o)
    (read_counts 1 (words_of row.stat)) None) f
    ∙ ap
    (λ name. cond (same_name name row.table) (read_counts 1 (words_of row.stat)) None)
    (seen_get (λ t. t.name) schema.tables k table [] e)
    ∙ ap (λ c. cond c (read_counts 1 (words_of row.stat)) None) h

pub table_nothing : (said : Option Counts) (old : ℕ) → said ≡ None → old ≡ table_or said old
table_nothing said old e = sym (ap (λ s. table_or s old) e)

table_case : (b : Bool) (counts : Counts) (old : ℕ)
    → cond b (log_est (slice_index_or counts.numbers 0 0)) old
    ≡ table_or (cond b (Some counts) None) old
table_case true counts old = refl
table_case false counts old = refl

pub table_put : (tables : List ℕ) (number k value : ℕ) (counts : Counts) (said : Option Counts)
    → number < length tables
    → value ≡ log_est (slice_index_or counts.numbers 0 0)
    → said ≡ cond (number == k) (Some counts) None
    → get_or (set tables number value) k 0 ≡ table_or said (get_or tables k 0)
table_put tables number k value counts said h e f =
    put_at tables number k value 0 h
    ∙ ap (λ v. cond (number == k) v (get_or tables k 0)) e
    ∙ table_case (number == k) counts (get_or tables k 0)
    ∙ ap (λ s. table_or s (get_or tables k 0)) (sym f)

pub none_of : {X : Type 0} (o : Option X) → is_some o ≡ false → o ≡ None
none_of None e = refl
none_of (Some x) e = absurd (cc)

-- one index before
pub index_some : (indexes : List Index) (given : List (Option Counts))
    (n m o k d value : ℕ) (index : Index) (counts : Counts) (tables : List ℕ)
    → slice_get indexes n ≡ Some index → slice_get given n ≡ Some (Some counts) → m ≡ n
    → o ≡ n + 1 → index.table < length tables
    → value ≡ log_est (slice_index_or counts.numbers 0 0)
    → get_or tables k 0 ≡ first_of_table k (drop o indexes) (drop o given) d
    → get_or (set tables index.table value) k 0
    ≡ first_of_table k (drop m indexes) (drop m given) d
index_some indexes given n m o k d value index counts tables e f before behind within log old =
    let first = λ (j : ℕ). first_of_table k (drop j indexes) (drop j given) d in
    put_at tables index.table k value 0 within
    ∙ ap (λ v. cond (index.table == k) v (get_or tables k 0)) log
    ∙ ap (cond (index.table == k) (log_est (slice_index_or counts.numbers 0 0)))
    (old ∙ ap first behind)
    ∙ sym (first_some indexes given n k d index counts e f) ∙ ap first (sym before)

pub index_none : (indexes : List Index) (given : List (Option Counts))
    (n m o k d : ℕ) (index : Index) (tables : List ℕ)
    → slice_get indexes n ≡ Some index → slice_get given n ≡ Some None → m ≡ n → o ≡ n + 1
    → get_or tables k 0 ≡ first_of_table k (drop o indexes) (drop o given) d
    → get_or tables k 0 ≡ first_of_table k (drop m indexes) (drop m given) d
index_none indexes given n m o k d index tables e f before behind old =
    let first = λ (j : ℕ). first_of_table k (drop j indexes) (drop j given) d in
    old ∙ ap first behind ∙ sym (first_none indexes given n k d index e f)
    ∙ ap first (sym before)
