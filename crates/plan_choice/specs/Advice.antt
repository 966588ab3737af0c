-- Advice on a script: candidates from all its statements, a plan of each over all of them, and
-- which candidates these plans use.
use Rattle.std.specs.Prelude.{ℕ, ◌+◌, Bool, false, ◌||◌, ◌==◌, cond, nat_lt, List, [], ◌∷◌, map}
use Rattle.std.specs.Prelude.{length, drop, Option, Some, None}
use Rattle.std.specs.List.{filter, flat_map}
use Rattle.sql_meaning.specs.Schemas.{Schema, Index, Database}
use Rattle.sql_meaning.specs.Paths.{Path, TableScan, RowidEq, RowidRange, IndexScan, IndexSeek}
use Rattle.sql_meaning.specs.Paths.{Union, Paths, Nowhere, Then}
use Rattle.sql_meaning.specs.Statements.{numbers_from}
use Rattle.sql_meaning.specs.Plans.{Loop}
use Rattle.plan_choice.specs.Figures.{Figures, figures}
use Rattle.plan_choice.specs.GivenFigures.{Given, Names, given_figures}
use Rattle.plan_choice.specs.Settings.{Statement, setting}
use Rattle.plan_choice.specs.Choice.{Chosen, choose}
use Rattle.plan_choice.specs.Scans.{Scan, scans}
use Rattle.plan_choice.specs.Candidates.{with_candidates, candidate_limit}

-- figures are those that are counted, or those that the dump gives; `names` has the tables and the
-- indexes of the dump
pub data Source : Type 0 where
  Sampled : Source
  AsGiven : (names : Names) (rows : List Given) → Source

-- a schema, which of its indexes are unique, its rows, the statements that were bound over it, how
-- many of a hundred rows are sampled, and which figures are taken
pub record Request : Type 0 where
  pub schema : Schema
  pub unique : List Bool
  pub database : Database
  pub statements : List Statement
  pub percent : ℕ
  pub source : Source

-- a path, or a branch of it, walks the index
abbrev mutual
  pub path_uses : ℕ → Path → Bool
  path_uses index TableScan = false
  path_uses index (RowidEq part) = false
  path_uses index (RowidRange low high) = false
  path_uses index (IndexScan i) = i == index
  path_uses index (IndexSeek i eqs low high) = i == index
  path_uses index (Union paths) = some_path_uses index paths

  pub some_path_uses : ℕ → Paths → Bool
  some_path_uses index Nowhere = false
  some_path_uses index (Then path paths) = path_uses index path || some_path_uses index paths

abbrev pub loops_use : ℕ → List Loop → Bool
loops_use index [] = false
loops_use index (l ∷ ls) = path_uses index l.path || loops_use index ls

abbrev pub some_plan_uses : ℕ → List Chosen → Bool
some_plan_uses index [] = false
some_plan_uses index (c ∷ cs) = loops_use index c.plan.loops || some_plan_uses index cs

-- the candidates, the figures of the schema with them, the plan of each statement, for each the
-- numbers of the candidates that it uses, and those that some plan uses
pub record Advice : Type 0 where
  pub candidates : List Index
  pub figures : Figures
  pub plans : List Chosen
  pub fresh : List (List ℕ)
  pub recommended : List ℕ

abbrev pub all_scans : Request → List Scan
all_scans r = flat_map (λ st. scans r.schema st.bound) r.statements

-- the schema with all candidates behind its own indexes
abbrev pub full_schema : Request → Schema
full_schema r = record {
  tables = r.schema.tables;
  indexes = with_candidates r.schema.indexes (all_scans r);
}

abbrev pub figures_by : Source → Figures → List Index → Figures
figures_by Sampled counted indexes = counted
figures_by (AsGiven names rows) counted indexes = given_figures names rows indexes counted

-- the figures of the schema with all candidates
abbrev pub full_figures : Request → Schema → Figures
full_figures r full =
    figures_by r.source (figures full r.unique r.database r.percent) full.indexes

abbrev pub plans_over : Schema → Figures → List Statement → List Chosen
plans_over schema figured sts = map (λ st. choose (setting schema figured st)) sts

-- of `count` candidates behind `own` indexes, the numbers of those that some of the plans uses
abbrev pub used_of : ℕ → ℕ → List Chosen → List ℕ
used_of own count plans =
    filter (λ n. some_plan_uses (own + n) plans) (numbers_from 0 count)

abbrev pub advice_from : ℕ → List Index → Figures → List Chosen → Advice
advice_from own candidates figured plans = record {
  candidates = candidates;
  figures = figured;
  plans = plans;
  fresh = map (λ c. used_of own (length candidates) (c ∷ [])) plans;
  recommended = used_of own (length candidates) plans;
}

abbrev pub advice_over : Request → Schema → Figures → Advice
advice_over r full figured =
    advice_from (length r.schema.indexes) (drop (length r.schema.indexes) full.indexes) figured
    (plans_over full figured r.statements)

-- the advice, however many candidates there are
abbrev pub advice : Request → Advice
advice r = let full = full_schema r in advice_over r full (full_figures r full)

-- none where there are too many candidates
abbrev pub advise : Request → Option Advice
advise r =
    let a = advice r in cond (nat_lt candidate_limit (length a.candidates)) None (Some a)
