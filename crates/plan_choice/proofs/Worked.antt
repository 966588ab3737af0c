-- Words for requests and for the advice on them, so that worked rows can be read.
use Rattle.std.specs.Prelude.{ℕ, Bool, true, false, List, [], ◌∷◌, map, Option, Some, None}
use Rattle.sql_meaning.specs.Values.{Affinity, BlobAffinity, Collation, Binary, Nocase}
use Rattle.sql_meaning.specs.Expressions.{BExpr, Column}
use Rattle.sql_meaning.specs.Schemas.{TableColumn, Table, Index, IndexColumn}
use Rattle.sql_meaning.specs.Items.{Item}
use Rattle.sql_meaning.specs.Paths.{KeyExpr, Edge, Path}
use Rattle.sql_meaning.specs.Statements.{Conjunct, Bound, SortKey, numbers_from}
use Rattle.sql_meaning.specs.Plans.{Loop}
use Rattle.sql_meaning.proofs.ExampleData.{table_of_columns}
use Rattle.plan_choice.specs.Settings.{Statement}
use Rattle.plan_choice.specs.Choice.{Chosen}
use Rattle.plan_choice.specs.Advice.{Request, Sampled, Advice, advice}

-- tables of columns without a declared type
abbrev pub two_columns : Table
two_columns = table_of_columns (BlobAffinity ∷ BlobAffinity ∷ [])

abbrev pub three_columns : Table
three_columns = table_of_columns (BlobAffinity ∷ BlobAffinity ∷ BlobAffinity ∷ [])

abbrev pub compared : Affinity → Collation → TableColumn
compared affinity collation = record { affinity = affinity; collation = collation }

abbrev pub rising_nocase : ℕ → IndexColumn
rising_nocase column = record { column = column; collation = Nocase; falling = false }

abbrev pub cross_join : ℕ → Item
cross_join table = record { table = table; cross = true; left = false }

abbrev pub falling_key : BExpr → SortKey
falling_key e = record { expr = e; collation = Binary; falling = true }

-- the first columns of an item, so many
abbrev pub all_columns : ℕ → ℕ → List BExpr
all_columns item count = map (Column item) (numbers_from 0 count)

-- an UPDATE or DELETE
abbrev pub change : List Item → List Conjunct → List SortKey → Bound
change items conjuncts keys = record {
  items = items;
  rowids = true;
  results = [];
  conjuncts = conjuncts;
  keys = keys;
  limit = None;
  offset = None;
}

abbrev pub asks : Bound → List (List ℕ) → Statement
asks bound needs = record { bound = bound; needs = needs }

abbrev pub bound_by : KeyExpr → Bool → Option Edge
bound_by key inclusive = Some (record { key = key; inclusive = inclusive })

abbrev pub forward : ℕ → Path → List ℕ → Loop
forward item path consumed =
    record { item = item; path = path; reverse = false; consumed = consumed }

abbrev pub backward : ℕ → Path → List ℕ → Loop
backward item path consumed =
    record { item = item; path = path; reverse = true; consumed = consumed }

-- a request over tables without rows
abbrev pub asked : List Table → List Index → List Statement → Request
asked tables indexes statements = record {
  schema = record { tables = tables; indexes = indexes };
  unique = [];
  database = [];
  statements = statements;
  percent = 100;
  source = Sampled;
}

-- what an advice says of a plan, and which candidates the plan uses
pub record PlanTold : Type 0 where
  pub loops : List Loop
  pub sort : Bool
  pub covering : List Bool
  pub cost : ℕ
  pub written : ℕ
  pub fresh : List ℕ

abbrev pub plan : List Loop → Bool → List Bool → ℕ → ℕ → List ℕ → PlanTold
plan loops sort covering cost written fresh = record {
  loops = loops;
  sort = sort;
  covering = covering;
  cost = cost;
  written = written;
  fresh = fresh;
}

-- what an advice says, but for counts: the figures are those of tables and of indexes
pub record Told : Type 0 where
  pub candidates : List Index
  pub tables : List ℕ
  pub indexes : List (List ℕ)
  pub plans : List PlanTold
  pub recommended : List ℕ

abbrev pub says : List Index → List ℕ → List (List ℕ) → List PlanTold → List ℕ → Told
says candidates tables indexes plans recommended = record {
  candidates = candidates;
  tables = tables;
  indexes = indexes;
  plans = plans;
  recommended = recommended;
}

abbrev plans_told : List Chosen → List (List ℕ) → List PlanTold
plans_told [] fresh = []
plans_told (c ∷ cs) [] = []
plans_told (c ∷ cs) (ns ∷ fresh) =
    plan c.plan.loops c.plan.sort c.covering c.cost c.written ns ∷ plans_told cs fresh

abbrev told_of : Advice → Told
told_of a =
    says a.candidates a.figures.tables a.figures.indexes (plans_told a.plans a.fresh) a.recommended

abbrev pub told : Request → Told
told r = told_of (advice r)
