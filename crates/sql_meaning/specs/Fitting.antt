-- Which paths fit a schema: each index that a path names is a usable one of the loop's table, and
-- has a column for each part; and which keys a path has.
use Rattle.std.specs.Prelude.{◌≡◌, ◌<◌, ◌≤◌, ℕ, Bool, true, false, not, ◌&&◌, ◌==◌, List, length}
use Rattle.std.specs.Prelude.{Option, Some, None, slice_get, [], ◌∷◌, ◌++◌}
use Rattle.std.specs.List.{AllByRecursion, flat_map}
use Rattle.sql_meaning.specs.Schemas.{Schema, Index}
use Rattle.sql_meaning.specs.Paths.{Edge, Path, TableScan, RowidEq, RowidRange, IndexScan}
use Rattle.sql_meaning.specs.Paths.{IndexSeek, Union, Paths, Nowhere, Then, KeyExpr, EqPart}
use Rattle.sql_meaning.specs.Paths.{OneKey, ManyKeys, NullKey, SeekForm, form_of}
use Rattle.sql_meaning.specs.Statements.{Bound, table_of}
use Rattle.sql_meaning.specs.Plans.{Loop, Plan}
use Rattle.sql_meaning.specs.UsedTerms.{keys_in}
use Rattle.sql_meaning.specs.OrderState.{columns_at}

-- an index that isn't usable, being partial or of expressions, has no columns here
abbrev pub is_usable_on : ℕ → Option Index → Bool
is_usable_on table None = false
is_usable_on table (Some index) = (index.table == table) && not (length index.columns == 0)

abbrev pub IsIndexOf : Schema → ℕ → ℕ → Type 0
IsIndexOf schema table index = is_usable_on table (slice_get schema.indexes index) ≡ true

-- a column for each equality part, and one more where there are bounds
abbrev pub HasColumns : ℕ → ℕ → Option Edge → Option Edge → Type 0
HasColumns columns parts None None = parts ≤ columns
HasColumns columns parts (Some low) high = parts < columns
HasColumns columns parts None (Some high) = parts < columns

-- a path that may be a branch of a union: a seek
abbrev pub IsSeekOf : Schema → ℕ → Path → Type 0
IsSeekOf schema table TableScan = ⊥
IsSeekOf schema table (RowidEq part) = Unit {0}
IsSeekOf schema table (RowidRange low high) = Unit {0}
IsSeekOf schema table (IndexScan index) = ⊥
IsSeekOf schema table (IndexSeek index eqs low high) =
    IsIndexOf schema table index
    × HasColumns (length (columns_at (slice_get schema.indexes index))) (length eqs) low high
IsSeekOf schema table (Union paths) = ⊥

abbrev pub AreSeeksOf : Schema → ℕ → Paths → Type 0
AreSeeksOf schema table Nowhere = Unit {0}
AreSeeksOf schema table (Then path paths) =
    IsSeekOf schema table path × AreSeeksOf schema table paths

abbrev pub FitsTable : Schema → ℕ → Path → Type 0
FitsTable schema table TableScan = Unit {0}
FitsTable schema table (RowidEq part) = Unit {0}
FitsTable schema table (RowidRange low high) = Unit {0}
FitsTable schema table (IndexScan index) = IsIndexOf schema table index
FitsTable schema table (IndexSeek index eqs low high) =
    IsSeekOf schema table (IndexSeek index eqs low high)
FitsTable schema table (Union paths) = AreSeeksOf schema table paths

-- of an item
abbrev pub PathFits : Schema → Bound → ℕ → Path → Type 0
PathFits schema bound item path =
    FitsTable schema (table_of (slice_get bound.items item)) path

abbrev pub part_keys : EqPart → List KeyExpr
part_keys (OneKey key) = key ∷ []
part_keys (ManyKeys keys) = keys
part_keys NullKey = []

abbrev pub edge_keys : Option Edge → List KeyExpr
edge_keys None = []
edge_keys (Some e) = e.key ∷ []

abbrev pub form_keys : SeekForm → List KeyExpr
form_keys f = flat_map part_keys f.eqs ++ (edge_keys f.low ++ edge_keys f.high)

-- the keys of a path that isn't a union, those of the branches of one, and those of any path
abbrev pub plain_keys : Schema → Path → List KeyExpr
plain_keys schema path = form_keys (form_of schema path)

abbrev pub branch_keys : Schema → Paths → List KeyExpr
branch_keys schema Nowhere = []
branch_keys schema (Then path paths) = plain_keys schema path ++ branch_keys schema paths

abbrev pub path_keys : Schema → Path → List KeyExpr
path_keys schema (Union paths) = branch_keys schema paths
path_keys schema path = plain_keys schema path

-- each key names items of earlier loops alone
abbrev pub KeysArePlaced : Schema → List ℕ → List Loop → Type 0
KeysArePlaced schema placed [] = Unit {0}
KeysArePlaced schema placed (l ∷ ls) =
    (keys_in placed (path_keys schema l.path) ≡ true) × KeysArePlaced schema (l.item ∷ placed) ls

-- the path of each loop fits the table of its item
abbrev pub FitsTables : Schema → Plan → Type 0
FitsTables schema plan =
    AllByRecursion (λ l. PathFits schema plan.bound l.item l.path) plan.loops
