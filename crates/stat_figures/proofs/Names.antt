-- A name stands at one place of names that differ.
use Rattle.std.specs.List.{list_any, position, position_or_len}
use Rattle.std.specs.Cmp.Lexicographic.{slice_cmp, texts_ties}
use Rattle.std.specs.Ordering.{eq_by_cmp, nat_cmp}
use Rattle.std.proofs.Common.{◌≡◌, ℕ, zero, suc, ◌+◌, ◌<◌, ◌≤◌, Bool, true, false, not}
use Rattle.std.proofs.Common.{◌==◌, cond, refl, arith}
use Rattle.std.proofs.Common.{ap, sym, ◌∙◌, List, [], ◌∷◌, ◌++◌, length, Option, Some, None}
use Rattle.std.proofs.Common.{slice_get, option_map, nat_lt, nat_eq, ◌&&◌, if◌then◌else◌}
use Rattle.std.proofs.lemmas.Bool.Decides.{nat_tests}
use Rattle.std.proofs.lemmas.Cmp.{eq_by_cmp_equiv, nat_list_cmp_total}
use Rattle.std.proofs.lemmas.List.{length-map}
use Rattle.std.proofs.lemmas.Option.{slice_get-map}
use Rattle.list_laws.proofs.Bools.{or_false_left, or_false_right, neither}
use Rattle.sql_meaning.specs.Letters.{folded, folded_bytes}
use Rattle.plan_choice.specs.GivenFigures.{Given, is_of_index, same_name}
use Rattle.schema_model.specs.Names.{is_name, has_name, Differ}
use Rattle.schema_model.specs.Schemas.{Schema, IsSchema, found_index, found_table, found_or}
use Rattle.schema_model.specs.Schemas.{table_names, unread_names, index_names}
use Rattle.schema_model.specs.declared.indexes.Index.{Index}
use Rattle.schema_model.specs.declared.tables.Table.{Table}
use Rattle.schema_model.specs.declared.tables.Found.{Found}
use Rattle.schema_model.specs.declared.tables.Found.TheVariants.{Read, Unread, Missing}
use Rattle.stat_figures.specs.GivenCounts.{is_number}

same_bytes : (a b : List ℕ) → is_name a b ≡ eq_by_cmp (slice_cmp nat_cmp) a b
same_bytes a b = texts_ties a b

turned : (a b : List ℕ) → is_name a b ≡ is_name b a
turned a b =
    same_bytes a b ∙ (eq_by_cmp_equiv nat_list_cmp_total).symm a b ∙ sym (same_bytes b a)

congruent : (a b c : List ℕ) → is_name a b ≡ true → is_name a c ≡ is_name b c
congruent a b c h =
    same_bytes a c
    ∙ (eq_by_cmp_equiv nat_list_cmp_total).congr a b c (sym (same_bytes a b) ∙ h)
    ∙ sym (same_bytes b c)

pub name_is : (name held : List ℕ)
    → same_name held name ≡ is_name (folded_bytes name) (folded_bytes held)
name_is name held =
    sym (same_bytes (folded_bytes held) (folded_bytes name))
    ∙ turned (folded_bytes held) (folded_bytes name)

none_at : (f : List ℕ) (names : List (List ℕ)) (k : ℕ) (x : List ℕ) → has_name f names ≡ false
    → slice_get names k ≡ Some x → is_name f x ≡ false
none_at f [] k x h e = absurd (cc)
none_at f (y ∷ ys) zero x h e =
    let same : Some y ≡ Some x = e in
    let it : y ≡ x = cc in
    ap (is_name f) (sym it) ∙ or_false_left (is_name f y) (list_any (is_name f) ys) h
none_at f (y ∷ ys) (suc k) x h e =
    none_at f ys k x (or_false_right (is_name f y) (list_any (is_name f) ys) h) e

-- the place of the first, by recursion
abbrev place_in : (f : List ℕ) → List (List ℕ) → Option ℕ
place_in f [] = None
place_in f (y ∷ ys) = cond (is_name f y) (Some 0) (option_map suc (place_in f ys))

zero_below : (n : ℕ) → nat_lt 0 (suc n) ≡ true
zero_below n = grind (arith, nat_tests)

shift_below : (m n : ℕ) → nat_lt (1 + m) (suc n) ≡ nat_lt m n
shift_below m n = grind (arith, nat_tests)

one_more : (m : ℕ) → 1 + m ≡ suc m
one_more m = omega arith

shift_case : (m : ℕ) (b c : Bool) → c ≡ b
    → cond c (Some (1 + m)) None ≡ option_map suc (cond b (Some m) None)
shift_case m true c e = rw e (ap Some (one_more m))
shift_case m false c e = rw e refl

position_step : (b : Bool) (m n : ℕ)
    → cond (nat_lt (cond (not b) (1 + m) 0) (suc n)) (Some (cond (not b) (1 + m) 0)) None
    ≡ cond b (Some 0) (option_map suc (cond (nat_lt m n) (Some m) None))
position_step true m n = ap (λ b. cond b (Some 0) None) (zero_below n)
position_step false m n = shift_case m (nat_lt m n) (nat_lt (1 + m) (suc n)) (shift_below m n)

place_is : (f : List ℕ) (names : List (List ℕ)) → position (is_name f) names ≡ place_in f names
place_is f [] = refl
place_is f (y ∷ ys) =
    position_step (is_name f y) (position_or_len (is_name f) ys) (length ys)
    ∙ ap (λ o. cond (is_name f y) (Some 0) (option_map suc o)) (place_is f ys)

suc_eq : (n k : ℕ) → (n == k) ≡ (suc n == suc k)
suc_eq n k = grind (arith, nat_tests)

shifted : (k : ℕ) (o : Option ℕ) → is_number k o ≡ is_number (suc k) (option_map suc o)
shifted k None = refl
shifted k (Some n) = suc_eq n k

zero_not : (k : ℕ) → (0 == suc k) ≡ false
zero_not k = grind (arith, nat_tests)

suc_not : (n : ℕ) → (suc n == 0) ≡ false
suc_not n = grind (arith, nat_tests)

not_first : (o : Option ℕ) → is_number 0 (option_map suc o) ≡ false
not_first None = refl
not_first (Some n) = suc_not n

place_case : (f y : List ℕ) (ys : List (List ℕ)) (k : ℕ) (x : List ℕ) (o : Option ℕ)
    → has_name y ys ≡ false → slice_get (y ∷ ys) k ≡ Some x
    → ((j : ℕ) → slice_get ys j ≡ Some x → is_name f x ≡ is_number j o) → (b : Bool)
    → is_name f y ≡ b → is_name f x ≡ is_number k (cond b (Some 0) (option_map suc o))
place_case f y ys zero x o d e ih true h =
    let same : Some y ≡ Some x = e in
    let it : y ≡ x = cc in
    ap (is_name f) (sym it) ∙ h
place_case f y ys (suc k) x o d e ih true h =
    congruent f y x h ∙ none_at y ys k x d e ∙ sym (zero_not k)
place_case f y ys zero x o d e ih false h =
    let same : Some y ≡ Some x = e in
    let it : y ≡ x = cc in
    ap (is_name f) (sym it) ∙ h ∙ sym (not_first o)
place_case f y ys (suc k) x o d e ih false h = ih k e ∙ shifted k o

placed : (f : List ℕ) (names : List (List ℕ)) (k : ℕ) (x : List ℕ) → Differ names
    → slice_get names k ≡ Some x → is_name f x ≡ is_number k (place_in f names)
placed f [] k x d e = absurd (cc)
placed f (y ∷ ys) k x d e =
    place_case f y ys k x (place_in f ys) d.0 e (λ j q. placed f ys j x d.1 q) (is_name f y) refl

-- of names that differ just the one at its position is the name that is looked for
pub named_by_position : (name : List ℕ) (names : List (List ℕ)) (k : ℕ) (held : List ℕ)
    → Differ names → slice_get names k ≡ Some (folded_bytes held)
    → same_name held name ≡ is_number k (position (is_name (folded_bytes name)) names)
named_by_position name names k held d e =
    name_is name held ∙ placed (folded_bytes name) names k (folded_bytes held) d e
    ∙ ap (is_number k) (sym (place_is (folded_bytes name) names))

any_first : (p : List ℕ → Bool) (xs ys : List (List ℕ)) → list_any p (xs ++ ys) ≡ false
    → list_any p xs ≡ false
any_first p [] ys h = refl
any_first p (x ∷ xs) ys h =
    neither (p x) (list_any p xs) (or_false_left (p x) (list_any p (xs ++ ys)) h)
    (any_first p xs ys (or_false_right (p x) (list_any p (xs ++ ys)) h))

pub differ_first : (xs ys : List (List ℕ)) → Differ (xs ++ ys) → Differ xs
differ_first [] ys d = tt
differ_first (x ∷ xs) ys d = (any_first (is_name x) xs ys d.0, differ_first xs ys d.1)

pub differ_second : (xs ys : List (List ℕ)) → Differ (xs ++ ys) → Differ ys
differ_second [] ys d = d
differ_second (x ∷ xs) ys d = differ_second xs ys d.1

-- two names of different length
and_false : (b : Bool) → (b && false) ≡ false
and_false true = refl
and_false false = refl

apart_long : (a b : List ℕ) → (length a ≡ length b → ⊥)
    → is_name (folded_bytes a) (folded_bytes b) ≡ false
apart_long [] [] h = absurd (h refl)
apart_long [] (y ∷ ys) h = refl
apart_long (x ∷ xs) [] h = refl
apart_long (x ∷ xs) (y ∷ ys) h =
    rw (apart_long xs ys (λ e. h (ap suc e))) (and_false (nat_eq (folded x) (folded y)))

pub not_same : (a b : List ℕ) → (length a ≡ length b → ⊥) → false ≡ same_name a b
not_same a b h =
    sym (apart_long a b h) ∙ same_bytes (folded_bytes a) (folded_bytes b)

pub index_is_named : (schema : Schema) → IsSchema schema → (name : List ℕ) (o : Option ℕ)
    → o ≡ found_index schema (folded_bytes name) → (k : ℕ) (index : Index)
    → slice_get schema.indexes k ≡ Some index → same_name index.name name ≡ is_number k o
index_is_named schema ok name o found k index e =
    named_by_position name (index_names schema.indexes) k index.name
    (differ_second (unread_names schema.unread) (index_names schema.indexes)
    (differ_second (table_names schema.tables)
    (unread_names schema.unread ++ index_names schema.indexes) ok.differ))
    (slice_get-map (λ (i : Index). folded_bytes i.name) schema.indexes k
    ∙ ap (option_map (λ (i : Index). folded_bytes i.name)) e)
    ∙ ap (is_number k) (sym found)

read_case : (unread : Bool) (o : Option ℕ) (number : ℕ) → Read number ≡ found_or unread o
    → Some number ≡ o
read_case unread None number e = absurd (no_read unread e)
  where
    no_read : (unread : Bool) → Read number ≡ (if unread then Unread else Missing) → ⊥
    no_read true e = cc
    no_read false e = cc
read_case unread (Some n) number e = cc

not_case : (unread : Bool) (o : Option ℕ) (k : ℕ) (found : Found)
    → found ≡ found_or unread o → ((number : ℕ) → found ≡ Read number → ⊥)
    → is_number k o ≡ false
not_case unread None k found e h = refl
not_case unread (Some n) k found e h = absurd (h n e)

table_names_at : (schema : Schema) → IsSchema schema → (name : List ℕ) (k : ℕ) (table : Table)
    → slice_get schema.tables k ≡ Some table
    → same_name table.name name
    ≡ is_number k (position (is_name (folded_bytes name)) (table_names schema.tables))
table_names_at schema ok name k table e =
    named_by_position name (table_names schema.tables) k table.name
    (differ_first (table_names schema.tables)
    (unread_names schema.unread ++ index_names schema.indexes) ok.differ)
    (slice_get-map (λ (t : Table). folded_bytes t.name) schema.tables k
    ∙ ap (option_map (λ (t : Table). folded_bytes t.name)) e)

pub table_is_named : (schema : Schema) → IsSchema schema → (name : List ℕ) (number : ℕ)
    → Read number ≡ found_table schema (folded_bytes name) → (k : ℕ) (table : Table)
    → slice_get schema.tables k ≡ Some table → same_name table.name name ≡ (number == k)
table_is_named schema ok name number found k table e =
    table_names_at schema ok name k table e
    ∙ ap (is_number k)
    (sym
    (read_case (has_name (folded_bytes name) (unread_names schema.unread))
    (position (is_name (folded_bytes name)) (table_names schema.tables)) number found))

pub no_table_is_named : (schema : Schema) → IsSchema schema → (name : List ℕ) (found : Found)
    → found ≡ found_table schema (folded_bytes name)
    → ((number : ℕ) → found ≡ Read number → ⊥) → (k : ℕ) (table : Table)
    → slice_get schema.tables k ≡ Some table → same_name table.name name ≡ false
no_table_is_named schema ok name found f h k table e =
    table_names_at schema ok name k table e
    ∙ not_case (has_name (folded_bytes name) (unread_names schema.unread))
    (position (is_name (folded_bytes name)) (table_names schema.tables)) k found f h

-- what a row names
one_place : (number k : ℕ) → (number == k) ≡ true → number ≡ k
one_place number k h = grind (arith, nat_tests)

off : (a b c : Bool) → c ≡ false → (a && (b && c)) ≡ false
off true true c h = h
off true false c h = refl
off false b c h = refl

pub none_named : (own k : ℕ) (table index : List ℕ) (row : Given) (o : Option (List ℕ))
    (given : List ℕ) → o ≡ Some given → same_name index given ≡ false
    → false ≡ (nat_lt k own && is_of_index table index row o)
none_named own k table index row o given e h =
    sym
    (ap (λ (p : Option (List ℕ)). nat_lt k own && is_of_index table index row p) e
    ∙ off (nat_lt k own) (same_name table row.table) (same_name index given) h)

some_case : (a b c n : Bool) → c ≡ n → (n ≡ true → a ≡ true) → (n ≡ true → b ≡ true)
    → n ≡ (a && (b && c))
some_case a b c true e f g = rw (f refl, g refl, e) refl
some_case a b c false e f g = sym (off a b c e)

pub some_named : (own number k : ℕ) (table index : List ℕ) (row : Given) (o : Option (List ℕ))
    (given : List ℕ) → o ≡ Some given → same_name index given ≡ (number == k) → number < own
    → (number ≡ k → same_name table row.table ≡ true)
    → (number == k) ≡ (nat_lt k own && is_of_index table index row o)
some_named own number k table index row o given e h l g =
    some_case (nat_lt k own) (same_name table row.table) (same_name index given) (number == k) h
    (λ t. below number k own l (one_place number k t)) (λ t. g (one_place number k t))
    ∙ sym (ap (λ (p : Option (List ℕ)). nat_lt k own && is_of_index table index row p) e)
  where
    below : (number k own : ℕ) → number < own → number ≡ k → nat_lt k own ≡ true
    below number k own l e = grind (arith, nat_tests)

else_case : (a b c n : Bool) → c ≡ n → (n ≡ true → (a && b) ≡ false) → false ≡ (a && (b && c))
else_case true true c true e f = absurd (let h = f refl in cc)
else_case true false c true e f = refl
else_case false b c true e f = refl
else_case a b c false e f = sym (off a b c e)

pub else_named : (own number k : ℕ) (table index : List ℕ) (row : Given) (o : Option (List ℕ))
    (given : List ℕ) → o ≡ Some given → same_name index given ≡ (number == k)
    → (number ≡ k → (nat_lt k own && same_name table row.table) ≡ false)
    → false ≡ (nat_lt k own && is_of_index table index row o)
else_named own number k table index row o given e h g =
    else_case (nat_lt k own) (same_name table row.table) (same_name index given) (number == k) h
    (λ t. g (one_place number k t))
    ∙ sym (ap (λ (p : Option (List ℕ)). nat_lt k own && is_of_index table index row p) e)

pub not_own : (own number k : ℕ) (b : Bool) → own ≤ number → number ≡ k
    → (nat_lt k own && b) ≡ false
not_own own number k b l e = rw (past number k own l e) refl
  where
    past : (number k own : ℕ) → own ≤ number → number ≡ k → nat_lt k own ≡ false
    past number k own l e = grind (arith, nat_tests)

pub not_table : (a b : Bool) → b ≡ false → (a && b) ≡ false
not_table true b h = h
not_table false b h = refl

later_within : (n m : ℕ) (o : Option ℕ) → ((k : ℕ) → Some k ≡ o → k < m)
    → Some n ≡ option_map suc o → n < suc m
later_within n m None f e = absurd (cc)
later_within n m (Some k) f e =
    let below : k < m = f k refl in let same : n ≡ suc k = cc in omega (arith, below, same)

within_case : (b : Bool) (n m : ℕ) (o : Option ℕ) → ((k : ℕ) → Some k ≡ o → k < m)
    → Some n ≡ cond b (Some 0) (option_map suc o) → n < suc m
within_case true n m o f e = let same : n ≡ 0 = cc in omega (arith, same)
within_case false n m o f e = later_within n m o f e

place_within : (f : List ℕ) (names : List (List ℕ)) (n : ℕ) → Some n ≡ place_in f names
    → n < length names
place_within f [] n e = absurd (cc)
place_within f (y ∷ ys) n e =
    within_case (is_name f y) n (length ys) (place_in f ys) (λ k q. place_within f ys k q) e

pub found_within : (schema : Schema) (f : List ℕ) (number : ℕ) → Read number ≡ found_table schema f
    → number < length schema.tables
found_within schema f number e =
    let at : Some number ≡ position (is_name f) (table_names schema.tables) =
    read_case (has_name f (unread_names schema.unread))
    (position (is_name f) (table_names schema.tables)) number e in
    let within = place_within f (table_names schema.tables) number
    (at ∙ place_is f (table_names schema.tables)) in
    let long = length-map schema.tables (λ (t : Table). folded_bytes t.name) in
    omega (arith, within, long)
