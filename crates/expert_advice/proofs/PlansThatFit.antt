-- A plan that fits its schema has a text, and its paths are flat.
use Rattle.std.specs.List.{AllByRecursion}
use Rattle.std.specs.List.Sorted.{IsPermutation}
use Rattle.std.proofs.Common.{◌≡◌, ◌<◌, ℕ, false, List, [], ◌∷◌, length, refl, ap, arith}
use Rattle.std.proofs.lemmas.List.{length-map}
use Rattle.std.proofs.lemmas.List.Elements.{All-from_recursion, recursion_from_All}
use Rattle.std.proofs.lemmas.List.Sorted.{All-permutation, IsPermutation-sym}
use Rattle.list_laws.proofs.Lists.{all_map}
use Rattle.sql_meaning.specs.Fitting.{FitsTable, IsSeekOf, AreSeeksOf}
use Rattle.sql_meaning.specs.Offers.{loop_items}
use Rattle.sql_meaning.specs.Paths.{Path, Paths, TableScan, RowidEq, RowidRange, IndexScan}
use Rattle.sql_meaning.specs.Paths.{IndexSeek, Union, Nowhere, Then, is_union}
use Rattle.sql_meaning.specs.Plans.{Loop, Plan}
use Rattle.sql_meaning.specs.Schemas as plain
use Rattle.sql_meaning.specs.Statements.{numbers_from}
use Rattle.sql_meaning.specs.TermLists.{ItemTerms}
use Rattle.plan_choice.specs.CostLaws.{ArePlain, IsFlat}
use Rattle.plan_choice.specs.Settings.{setting}
use Rattle.plan_choice.proofs.SoundLevels.{numbers_below}
use Rattle.schema_model.specs.PlainSchemas.{plain_schema, plain_table}
use Rattle.schema_model.specs.Schemas.{Schema}
use Rattle.plan_form.specs.Fits.{FitsSchema}
use Rattle.plan_form.specs.Texts.{HasText}
use Rattle.access_paths.specs.Settings.{IsReady, setting_of}
use Rattle.access_paths.specs.declared.setting.Setting.{Setting}
use Rattle.expert_advice.specs.Planned.{statement_of}

seek_plain : (schema : plain.Schema) (table : ℕ) (path : Path) → IsSeekOf schema table path
    → is_union path ≡ false
seek_plain schema table TableScan h = refl
seek_plain schema table (RowidEq part) h = refl
seek_plain schema table (RowidRange low high) h = refl
seek_plain schema table (IndexScan index) h = refl
seek_plain schema table (IndexSeek index eqs low high) h = refl
seek_plain schema table (Union paths) h = absurd h

seeks_plain : (schema : plain.Schema) (table : ℕ) (paths : Paths) → AreSeeksOf schema table paths
    → ArePlain paths
seeks_plain schema table Nowhere h = tt
seeks_plain schema table (Then path paths) h =
    (seek_plain schema table path h.0, seeks_plain schema table paths h.1)

fits_flat : (schema : plain.Schema) (table : ℕ) (path : Path) → FitsTable schema table path
    → IsFlat path
fits_flat schema table TableScan h = tt
fits_flat schema table (RowidEq part) h = tt
fits_flat schema table (RowidRange low high) h = tt
fits_flat schema table (IndexScan index) h = tt
fits_flat schema table (IndexSeek index eqs low high) h = tt
fits_flat schema table (Union paths) h = seeks_plain schema table paths h

pub paths_are_flat : (schema : plain.Schema) (plan : Plan) (needs : List (List ℕ))
    → FitsSchema schema plan needs → AllByRecursion (λ l. IsFlat l.path) plan.loops
paths_are_flat schema plan needs h =
    all_map _ _ plan.loops (λ l f. fits_flat schema _ l.path f) h.plan_fits.paths

items_of_loops : (loops : List Loop) (total : ℕ)
    → AllByRecursion (λ j. j < total) (loop_items loops)
    → AllByRecursion (λ l. l.item < total) loops
items_of_loops [] total h = tt
items_of_loops (l ∷ loops) total h = (h.0, items_of_loops loops total h.1)

items_there : (loops : List Loop) (total : ℕ)
    → IsPermutation (loop_items loops) (numbers_from 0 total)
    → AllByRecursion (λ l. l.item < total) loops
items_there loops total h =
    items_of_loops loops total
    (recursion_from_All (λ (j : ℕ). j < total) (loop_items loops)
    (All-permutation (λ (j : ℕ). j < total) (numbers_from 0 total) (loop_items loops)
    (IsPermutation-sym (loop_items loops) (numbers_from 0 total) h)
    (All-from_recursion (λ (j : ℕ). j < total) (numbers_from 0 total)
    (all_map _ _ (numbers_from 0 total) (λ m l. omega (arith, l)) (numbers_below 0 total)))))

pub has_text : (schema : Schema) (plan : Plan) (needs : List (List ℕ))
    → FitsSchema (plain_schema schema) plan needs → HasText schema plan
has_text schema plan needs h = record {
  tables = let many = length-map schema.tables plain_table in
      all_map _ _ plan.bound.items (λ i l. omega (arith, many, l)) h.statement.tables;
  items = items_there plan.loops (length plan.bound.items) h.plan_fits.once;
  paths = h.plan_fits.paths;
}

-- the terms are the statement's own
pub own_setting : (s : Setting) → IsReady s
    → setting_of s ≡ setting (plain_schema s.schema.now) s.figures.now (statement_of s.bound.now)
own_setting s h =
    let statement = statement_of s.bound.now in
    ap (λ (terms : List ItemTerms). record {
      schema = plain_schema s.schema.now;
      figures = s.figures.now;
      bound = statement.bound;
      needs = statement.needs;
      terms = terms;
    }) h.terms
