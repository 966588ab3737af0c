-- What a plan that fits a schema gives to the walks of its paths.
use Rattle.std.proofs.Common.{◌≡◌, ◌<◌, ◌≤◌, ℕ, zero, suc, true, Option, None, Some, List, []}
use Rattle.std.proofs.Common.{◌∷◌, ◌++◌, ◌+◌, refl, sym, length, map, arith, subst}
use Rattle.std.specs.List.{AllByRecursion, flat_map, slice_get}
use Rattle.std.specs.List.Sorted.{IsPermutation}
use Rattle.std.proofs.lemmas.List.{length-map}
use Rattle.std.proofs.lemmas.List.Elements.{All-from_recursion, recursion_from_All}
use Rattle.std.proofs.lemmas.List.Sorted.{All-permutation, IsPermutation-sym}
use Rattle.list_laws.proofs.Lists.{all_map, all_first}
use Rattle.sql_meaning.specs.Items.{Item}
use Rattle.sql_meaning.specs.Schemas.{Schema, Database, Index}
use Rattle.sql_meaning.specs.IndexLists.{index_sort_columns}
use Rattle.sql_meaning.specs.OrderState.{columns_at}
use Rattle.sql_meaning.specs.Statements.{numbers_from}
use Rattle.sql_meaning.specs.Plans.{Loop}
use Rattle.sql_meaning.specs.Offers.{loop_items}
use Rattle.sql_meaning.specs.Paths.{KeyExpr, Path, Paths, SeekForm}
use Rattle.sql_meaning.specs.Paths.{TableScan, RowidEq, RowidRange, IndexScan, IndexSeek, Union}
use Rattle.sql_meaning.specs.Paths.{Nowhere, Then}
use Rattle.sql_meaning.specs.Fitting.{part_keys, edge_keys, form_keys, plain_keys, branch_keys}
use Rattle.sql_meaning.specs.Fitting.{path_keys, FitsTable, IsSeekOf, AreSeeksOf}
use Rattle.sql_meaning.specs.Fitting.{is_usable_on}
use Rattle.sql_bound.specs.Statements.{item_of}
use Rattle.sql_bound.specs.declared.statement.BItem.{BItem}
use Rattle.sql_eval.specs.declared.environment.Place.{Place}
use Rattle.bound_rows.specs.Places.{FitPlaces}
use Rattle.bound_rows.specs.Readable.{IsReadable}
use Rattle.plan_form.specs.Seeks.{AllGive, AreReadableKeys, FormGives, HasIndex, IsReadableForm}
use Rattle.plan_form.specs.Seeks.{keys_form, paths_of, walked_paths}
use Rattle.plan_form.proofs.IndexColumns.{parts_fit}

all_back : {X : Type 0} (P : X → Type 0) (xs ys : List X) → AllByRecursion P (xs ++ ys)
    → AllByRecursion P ys
all_back P [] ys h = h
all_back P (x ∷ xs) ys h = all_back P xs ys h.1

all_parts : {X Y : Type 0} (P : Y → Type 0) (f : X → List Y) (xs : List X)
    → AllByRecursion P (flat_map f xs) → AllByRecursion (λ x. AllByRecursion P (f x)) xs
all_parts P f [] h = tt
all_parts P f (x ∷ xs) h =
    (all_first P (f x) (flat_map f xs) h, all_parts P f xs (all_back P (f x) (flat_map f xs) h))

-- the keys of a form, taken apart
form_readable : (database : Database) (items : List Item) (f : SeekForm)
    → AreReadableKeys database items (form_keys f) → IsReadableForm database items f
form_readable database items f h =
    let P : KeyExpr → Type 0 = λ k. IsReadable database items k.expr in
    let eqs = flat_map part_keys f.eqs in
    let ends = edge_keys f.low ++ edge_keys f.high in
    let behind = all_back P eqs ends h in
    record {
      eqs = all_parts P part_keys f.eqs (all_first P eqs ends h);
      low = all_first P (edge_keys f.low) (edge_keys f.high) behind;
      high = all_back P (edge_keys f.low) (edge_keys f.high) behind;
    }

same_keys : (schema : Schema) (path : Path) → plain_keys schema path ≡ form_keys (keys_form path)
same_keys schema TableScan = refl
same_keys schema (RowidEq part) = refl
same_keys schema (RowidRange low high) = refl
same_keys schema (IndexScan index) = refl
same_keys schema (IndexSeek index eqs low high) = refl
same_keys schema (Union branches) = refl

path_readable : (database : Database) (items : List Item) (schema : Schema) (path : Path)
    → AreReadableKeys database items (plain_keys schema path)
    → IsReadableForm database items (keys_form path)
path_readable database items schema path h =
    form_readable database items (keys_form path)
    (subst (λ (ks : List KeyExpr). AreReadableKeys database items ks) (same_keys schema path) h)

branches_readable : (database : Database) (items : List Item) (schema : Schema) (paths : Paths)
    → AreReadableKeys database items (branch_keys schema paths)
    → AllByRecursion (λ path. IsReadableForm database items (keys_form path)) (paths_of paths)
branches_readable database items schema Nowhere h = tt
branches_readable database items schema (Then path paths) h =
    let P : KeyExpr → Type 0 = λ k. IsReadable database items k.expr in (
      path_readable database items schema path
          (all_first P (plain_keys schema path) (branch_keys schema paths) h),
      branches_readable database items schema paths
          (all_back P (plain_keys schema path) (branch_keys schema paths) h),
    )

pub paths_readable : (database : Database) (items : List Item) (schema : Schema) (path : Path)
    → AreReadableKeys database items (path_keys schema path)
    → AllByRecursion (λ path. IsReadableForm database items (keys_form path)) (walked_paths path)
paths_readable database items schema TableScan h =
    (path_readable database items schema TableScan h, tt)
paths_readable database items schema (RowidEq part) h =
    (path_readable database items schema (RowidEq part) h, tt)
paths_readable database items schema (RowidRange low high) h =
    (path_readable database items schema (RowidRange low high) h, tt)
paths_readable database items schema (IndexScan index) h =
    (path_readable database items schema (IndexScan index) h, tt)
paths_readable database items schema (IndexSeek index eqs low high) h =
    (path_readable database items schema (IndexSeek index eqs low high) h, tt)
paths_readable database items schema (Union branches) h =
    branches_readable database items schema branches h

give : (database : Database) (items : List Item) (places : List Place) (keys : List KeyExpr)
    → FitPlaces database items places → AreReadableKeys database items keys
    → AllGive database places keys
give database items places keys fit h =
    all_map _ _ keys (λ k readable. readable.gives places fit) h

pub forms_give : (database : Database) (items : List Item) (places : List Place) (paths : List Path)
    → FitPlaces database items places
    → AllByRecursion (λ path. IsReadableForm database items (keys_form path)) paths
    → AllByRecursion (λ path. FormGives database places (keys_form path)) paths
forms_give database items places paths fit h =
    all_map _ _ paths
    (λ path readable. record {
      eqs = all_map _ _ (keys_form path).eqs
          (λ part keys. give database items places (part_keys part) fit keys) readable.eqs;
      low = give database items places (edge_keys (keys_form path).low) fit readable.low;
      high = give database items places (edge_keys (keys_form path).high) fit readable.high;
    }) h

some_below : (indexes : List Index) (n table : ℕ)
    → is_usable_on table (slice_get indexes n) ≡ true → n < length indexes
some_below [] n table h = absurd (cc)
some_below (i ∷ indexes) zero table h = omega arith
some_below (i ∷ indexes) (suc n) table h =
    let lt : n < length indexes = some_below indexes n table h in omega (arith, lt)

same_length : (o : Option Index) → length (columns_at o) ≡ length (index_sort_columns o)
same_length None = refl
same_length (Some index) = sym (length-map index.columns _)

seek_index : (schema : Schema) (table : ℕ) (path : Path) → IsSeekOf schema table path
    → HasIndex schema path
seek_index schema table TableScan h = tt
seek_index schema table (RowidEq part) h = tt
seek_index schema table (RowidRange low high) h = tt
seek_index schema table (IndexScan index) h = absurd h
seek_index schema table (IndexSeek index eqs low high) h = (
  some_below schema.indexes index table h.0,
  subst (λ (n : ℕ). length eqs ≤ n) (same_length (slice_get schema.indexes index))
      (parts_fit (length (columns_at (slice_get schema.indexes index))) (length eqs) low high h.1),
)
seek_index schema table (Union branches) h = tt

branch_indexes : (schema : Schema) (table : ℕ) (paths : Paths) → AreSeeksOf schema table paths
    → AllByRecursion (HasIndex schema) (paths_of paths)
branch_indexes schema table Nowhere h = tt
branch_indexes schema table (Then path paths) h =
    (seek_index schema table path h.0, branch_indexes schema table paths h.1)

pub paths_indexed : (schema : Schema) (table : ℕ) (path : Path) → FitsTable schema table path
    → AllByRecursion (HasIndex schema) (walked_paths path)
paths_indexed schema table TableScan h = (tt, tt)
paths_indexed schema table (RowidEq part) h = (tt, tt)
paths_indexed schema table (RowidRange low high) h = (tt, tt)
paths_indexed schema table (IndexScan index) h = (some_below schema.indexes index table h, tt)
paths_indexed schema table (IndexSeek index eqs low high) h =
    (seek_index schema table (IndexSeek index eqs low high) h, tt)
paths_indexed schema table (Union branches) h = branch_indexes schema table branches h

numbers_below : (start n total : ℕ) → start + n ≤ total
    → AllByRecursion (λ j. j < total) (numbers_from start n)
numbers_below start zero total h = tt
numbers_below start (suc n) total h = (omega arith, numbers_below (start + 1) n total (omega arith))

item_at : (loops : List Loop) (i total : ℕ) (l : Loop) → slice_get loops i ≡ Some l
    → AllByRecursion (λ j. j < total) (loop_items loops) → l.item < total
item_at [] i total l e h = absurd (cc)
item_at (m ∷ loops) zero total l e h =
    subst (λ (z : Loop). z.item < total) (let both : Some m ≡ Some l = e in some_is m l both) h.0
  where
    some_is : (a b : Loop) → Some a ≡ Some b → a ≡ b
    some_is a b e = cc
item_at (m ∷ loops) (suc i) total l e h = item_at loops i total l e h.1

-- each loop's item is one of the statement
pub item_below : (loops : List Loop) (i total : ℕ) (l : Loop) → slice_get loops i ≡ Some l
    → IsPermutation (loop_items loops) (numbers_from 0 total) → l.item < total
item_below loops i total l e h =
    item_at loops i total l e
    (recursion_from_All (λ j. j < total) (loop_items loops)
    (All-permutation (λ j. j < total) (numbers_from 0 total) (loop_items loops)
    (IsPermutation-sym (loop_items loops) (numbers_from 0 total) h)
    (All-from_recursion (λ j. j < total) (numbers_from 0 total)
    (numbers_below 0 total total (omega arith)))))

pub item_there : (loops : List Loop) (i : ℕ) (l : Loop) (items : List BItem)
    → slice_get loops i ≡ Some l
    → IsPermutation (loop_items loops) (numbers_from 0 (length (map item_of items)))
    → l.item < length items
item_there loops i l items e h =
    let below : l.item < length (map item_of items) =
    item_below loops i (length (map item_of items)) l e h in
    omega (arith, below, length-map items item_of)
