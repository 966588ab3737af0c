-- What a path seeks by, and which of its keys can be evaluated.
use Rattle.std.specs.Prelude.{◌<◌, ◌≤◌, Option, None, Some, List, [], ◌∷◌, length, map}
use Rattle.std.specs.List.{AllByRecursion}
use Rattle.sql_value.specs.View.{plain_value}
use Rattle.sql_meaning.specs.Schemas.{Schema, Database}
use Rattle.sql_meaning.specs.Items.{Item}
use Rattle.sql_meaning.specs.Walks as walks
use Rattle.sql_meaning.specs.IndexLists.{sort_columns}
use Rattle.sql_meaning.specs.Paths.{KeyExpr, Path, Paths, SeekForm, form_of}
use Rattle.sql_meaning.specs.Paths.{TableScan, RowidEq, RowidRange, IndexScan, IndexSeek, Union}
use Rattle.sql_meaning.specs.Paths.{Nowhere, Then}
use Rattle.sql_meaning.specs.Fitting.{part_keys, edge_keys}
use Rattle.sql_eval.specs.Environments.{HasRows}
use Rattle.sql_eval.specs.declared.environment.Place.{Place}
use Rattle.bound_rows.specs.Readable.{IsReadable}
use Rattle.path_walks.specs.declared.ends.End.{End}
use Rattle.plan_form.specs.Paths.{path_of}
use Rattle.plan_form.specs.declared.path.Path.{Path as BorrowedPath}
use denote.Ref.{Bor}

-- an end that is owned, if there is one
abbrev pub owned_end : Option End → Option walks.End
owned_end None = None
owned_end (Some e) = Some (record { key = plain_value e.key; inclusive = e.inclusive })

-- what a path seeks by, whatever it goes along
abbrev pub keys_form : Path → SeekForm
keys_form = form_of (record { tables = []; indexes = [] })

-- the rows that the keys need stand at the places
abbrev pub AllGive : Database → List Place → List KeyExpr → Type 0
AllGive database places keys = AllByRecursion (λ k. HasRows database places k.expr) keys

pub record FormGives (database : Database) (places : List Place) (f : SeekForm) : Type 0 where
  pub eqs : AllByRecursion (λ part. AllGive database places (part_keys part)) f.eqs
  pub low : AllGive database places (edge_keys f.low)
  pub high : AllGive database places (edge_keys f.high)

abbrev pub AreReadableKeys : Database → List Item → List KeyExpr → Type 0
AreReadableKeys database items keys = AllByRecursion (λ k. IsReadable database items k.expr) keys

pub record IsReadableForm (database : Database) (items : List Item) (f : SeekForm) : Type 0 where
  pub eqs : AllByRecursion (λ part. AreReadableKeys database items (part_keys part)) f.eqs
  pub low : AreReadableKeys database items (edge_keys f.low)
  pub high : AreReadableKeys database items (edge_keys f.high)

-- the index that a path names is there, and has a column for each part
abbrev pub HasIndex : Schema → Path → Type 0
HasIndex schema TableScan = Unit {0}
HasIndex schema (RowidEq part) = Unit {0}
HasIndex schema (RowidRange low high) = Unit {0}
HasIndex schema (IndexScan index) = index < length schema.indexes
HasIndex schema (IndexSeek index eqs low high) =
    (index < length schema.indexes) × (length eqs ≤ length (sort_columns schema index))
HasIndex schema (Union branches) = Unit {0}

abbrev pub paths_of : Paths → List Path
paths_of Nowhere = []
paths_of (Then path paths) = path ∷ paths_of paths

-- the paths that are walked in turn: the branches of a union, or the path itself
abbrev pub walked_paths : Path → List Path
walked_paths TableScan = TableScan ∷ []
walked_paths (RowidEq part) = RowidEq part ∷ []
walked_paths (RowidRange low high) = RowidRange low high ∷ []
walked_paths (IndexScan index) = IndexScan index ∷ []
walked_paths (IndexSeek index eqs low high) = IndexSeek index eqs low high ∷ []
walked_paths (Union branches) = paths_of branches

-- paths that are lent
abbrev pub lent_paths : List (Bor BorrowedPath) → List Path
lent_paths list = map (λ path. path_of path.now) list
