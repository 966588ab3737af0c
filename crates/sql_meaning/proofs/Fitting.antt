-- The paths that are chosen of terms fit their table.
use Rattle.std.proofs.Common.{◌≡◌, ℕ, suc, false, List, [], ◌∷◌, length, Option, Some, None, refl}
use Rattle.std.proofs.Common.{subst, arith, slice_get}
use Rattle.sql_meaning.specs.Schemas.{Schema, IndexColumn}
use Rattle.sql_meaning.specs.Terms.{Term}
use Rattle.sql_meaning.specs.Paths.{Edge, Path, TableScan, RowidEq, RowidRange, IndexScan}
use Rattle.sql_meaning.specs.Paths.{IndexSeek, Union, is_union}
use Rattle.sql_meaning.specs.OrderState.{columns_at}
use Rattle.sql_meaning.specs.Fitting.{IsIndexOf, HasColumns, IsSeekOf, FitsTable}
use Rattle.sql_meaning.specs.Choices.{Seek, ColumnTerms, Taken, seek_terms, take_equal}
use Rattle.sql_meaning.specs.Choices.{take_bounds, edge_of, seek_of, seek_offer, rowid_offer}
use Rattle.sql_meaning.specs.Choices.{rowid_equal, rowid_range}

pub no_parts : (columns : ℕ) (low high : Option Edge) → HasColumns (suc columns) 0 low high
no_parts columns None None = omega arith
no_parts columns (Some low) high = omega arith
no_parts columns None (Some high) = omega arith

one_part : (columns parts : ℕ) (low high : Option Edge) → HasColumns columns parts low high
    → HasColumns (suc columns) (suc parts) low high
one_part columns parts None None h = omega (arith, h)
one_part columns parts (Some low) high h = omega (arith, h)
one_part columns parts None (Some high) h = omega (arith, h)

abbrev TakesOf : ℕ → Taken → Type 0
TakesOf columns taken = HasColumns columns (length taken.eqs) taken.low taken.high

equal_case : (columns : ℕ) (o : Option Term) (rest : Taken) (low high : Option Term)
    → TakesOf columns rest → TakesOf (suc columns) (take_equal o rest (take_bounds low high))
equal_case columns (Some t) rest low high h =
    one_part columns (length rest.eqs) rest.low rest.high h
equal_case columns None rest low high h = no_parts columns (edge_of low) (edge_of high)

-- a seek takes a part of each column until a column has none, and then its bounds
takes : (placed : List ℕ) (alias : Option ℕ) (columns : List ColumnTerms) (cs : List IndexColumn)
    → TakesOf (length cs) (seek_terms placed alias columns cs)
takes placed alias columns [] = omega arith
takes placed alias columns (c ∷ cs) =
    equal_case (length cs) _ (seek_terms placed alias columns cs) _ _
    (takes placed alias columns cs)

seek_case : (schema : Schema) (table index : ℕ) (taken : Taken) (ts : List Term) (k : Seek)
    → IsIndexOf schema table index
    → TakesOf (length (columns_at (slice_get schema.indexes index))) taken
    → seek_of index taken ts ≡ Some k → IsSeekOf schema table k.path
seek_case schema table index taken [] k h t e = absurd (cc)
seek_case schema table index taken (u ∷ us) k h t e =
    let is : record { path = IndexSeek index taken.eqs taken.low taken.high; used = u ∷ us } ≡ k =
    cc in subst (λ (q : Seek). IsSeekOf schema table q.path) is (h, t)

-- a seek in an index of the table
pub seek_fits : (schema : Schema) (table : ℕ) (placed : List ℕ) (alias : Option ℕ)
    (columns : List ColumnTerms) (index : ℕ) (k : Seek)
    → IsIndexOf schema table index
    → seek_offer placed alias columns index (columns_at (slice_get schema.indexes index)) ≡ Some k
    → IsSeekOf schema table k.path
seek_fits schema table placed alias columns index k h e =
    let cs = columns_at (slice_get schema.indexes index) in
    seek_case schema table index (seek_terms placed alias columns cs)
    (seek_terms placed alias columns cs).used k h (takes placed alias columns cs) e

-- the seek, where there is one
abbrev IsSeekIn : Schema → ℕ → Option Seek → Type 0
IsSeekIn schema table None = Unit {0}
IsSeekIn schema table (Some k) = IsSeekOf schema table k.path

range_case : (schema : Schema) (table : ℕ) (low high : Option Term) (k : Seek)
    → rowid_range low high ≡ Some k → IsSeekOf schema table k.path
range_case schema table None None k e = absurd (cc)
range_case schema table (Some l) high k e =
    subst (λ (o : Option Seek). IsSeekIn schema table o) e tt
range_case schema table None (Some h) k e =
    subst (λ (o : Option Seek). IsSeekIn schema table o) e tt

rowid_case : (schema : Schema) (table : ℕ) (o : Option Term) (low high : Option Term) (k : Seek)
    → rowid_equal o (rowid_range low high) ≡ Some k → IsSeekOf schema table k.path
rowid_case schema table (Some t) low high k e =
    subst (λ (o : Option Seek). IsSeekIn schema table o) e tt
rowid_case schema table None low high k e = range_case schema table low high k e

-- a seek by rowid
pub rowid_fits : (schema : Schema) (table : ℕ) (placed : List ℕ) (columns : List ColumnTerms)
    (k : Seek)
    → rowid_offer placed columns ≡ Some k → IsSeekOf schema table k.path
rowid_fits schema table placed columns k e = rowid_case schema table _ _ _ k e

-- a seek is a path of the table, and no union
pub seek_is_path : (schema : Schema) (table : ℕ) (path : Path) → IsSeekOf schema table path
    → FitsTable schema table path
seek_is_path schema table TableScan h = tt
seek_is_path schema table (RowidEq part) h = tt
seek_is_path schema table (RowidRange low high) h = tt
seek_is_path schema table (IndexScan index) h = absurd h
seek_is_path schema table (IndexSeek index eqs low high) h = h
seek_is_path schema table (Union paths) h = absurd h

pub seek_is_plain : (schema : Schema) (table : ℕ) (path : Path) → IsSeekOf schema table path
    → is_union path ≡ false
seek_is_plain schema table TableScan h = refl
seek_is_plain schema table (RowidEq part) h = refl
seek_is_plain schema table (RowidRange low high) h = refl
seek_is_plain schema table (IndexScan index) h = refl
seek_is_plain schema table (IndexSeek index eqs low high) h = refl
seek_is_plain schema table (Union paths) h = absurd h
