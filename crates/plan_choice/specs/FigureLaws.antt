-- Figures, counted and given: there are as many as the schema asks for, and each is small.
use Rattle.std.specs.Prelude.{◌≡◌, ◌<◌, ◌≤◌, ◌^◌, ℕ, suc, Bool, List, [], ◌∷◌, length}
use Rattle.std.specs.List.{AllByRecursion}
use Rattle.sql_meaning.specs.Schemas.{Schema, Index, Database}
use Rattle.plan_choice.specs.Logarithms.{log_est}
use Rattle.plan_choice.specs.Figures.{Figures, figures}
use Rattle.plan_choice.specs.GivenFigures.{Names, Given, given_figures}
use Rattle.plan_choice.specs.Advice.{Request, advice, full_schema}

-- of each index a figure for no column, and one for each number of its columns
abbrev pub AreOfIndexes : List Index → List (List ℕ) → Type 0
AreOfIndexes [] [] = Unit {0}
AreOfIndexes [] (ns ∷ rest) = ⊥
AreOfIndexes (index ∷ indexes) [] = ⊥
AreOfIndexes (index ∷ indexes) (ns ∷ rest) =
    (length ns ≡ suc (length index.columns)) × AreOfIndexes indexes rest

-- figures that are made for the schema
pub record AreOfSchema (schema : Schema) (figures : Figures) : Type 0 where
  pub tables : length figures.tables ≡ length schema.tables
  pub indexes : AreOfIndexes schema.indexes figures.indexes

pub record AreSmall (figures : Figures) : Type 0 where
  pub tables : AllByRecursion (λ n. n ≤ 1000) figures.tables
  pub indexes : AllByRecursion (λ ns. AllByRecursion (λ n. n ≤ 1000) ns) figures.indexes

abbrev pub CountedFiguresFit : Type 0
CountedFiguresFit =
    (schema : Schema) (unique : List Bool) (database : Database) (percent : ℕ)
    → AreOfSchema schema (figures schema unique database percent)
    × AreSmall (figures schema unique database percent)

-- whatever rows of sqlite_stat1 there are
abbrev pub GivenFiguresFit : Type 0
GivenFiguresFit =
    (schema : Schema) (names : Names) (rows : List Given) (figures : Figures)
    → AreOfSchema schema figures → AreSmall figures
    → AreOfSchema schema (given_figures names rows schema.indexes figures)
    × AreSmall (given_figures names rows schema.indexes figures)

abbrev pub AdviceFiguresFit : Type 0
AdviceFiguresFit =
    (r : Request) → AreOfSchema (full_schema r) (advice r).figures × AreSmall (advice r).figures

-- a number of rows that a file may give, or that memory may hold
abbrev pub LogarithmsAreSmall : Type 0
LogarithmsAreSmall = (x : ℕ) → x < 2 ^ 63 → log_est x ≤ 629
