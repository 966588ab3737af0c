use Rattle.std.proofs.Common.{◌≡◌, ◌≢◌, ◌<◌, ◌==◌, true, Some, List, [], ℕ, length}
use Rattle.std.proofs.Common.{◌+◌, sym, ap, subst, arith, slice_get, ◌∙◌, option_map, get_or}
use Rattle.std.proofs.lemmas.Bool.{eqb-true, eq-eqb}
use Rattle.std.proofs.lemmas.List.{length-map, length-set}
use Rattle.std.proofs.lemmas.Option.{slice_get-map}
use Rattle.sql_meaning.proofs.Links.{all_at}
use Rattle.plan_choice.specs.Settings.{indexes_on}
use Rattle.schema_model.specs.PlainSchemas.{plain_schema, plain_index, plain_table}
use Rattle.schema_model.specs.PlainSchemas.{plain_index_column}
use Rattle.schema_model.specs.Schemas.{IsIndexOf}
use Rattle.access_paths.proofs.IndexLists.{listed, lists_are, lists_same, lists_more}
use Rattle.access_paths.proofs.indexes.TableIndexes.of.Goals as goal
use Rattle.access_paths.proofs.indexes.TableIndexes.of.Goals.{then-not-is_empty+in_ok-push_index}
use Rattle.access_paths.proofs.indexes.TableIndexes.of.Goals.{else-not-is_empty}

pub loop-number-preserved : goal.loop-number-preserved
loop-number-preserved c =
    let schema = c.args.schema.now in
    let n = c.loop-number.number in
    let old = c.loop-number.tables.items in
    let own = c.index-index.result.now in
    let index = plain_index own in
    let is : slice_get (plain_schema schema).indexes n ≡ Some index =
    slice_get-map plain_index schema.indexes n
    ∙ ap (λ o. option_map plain_index o) c.index-index.ensures in
    let columns : length index.columns ≡ length c.as_slice.result.now =
    length-map own.columns plain_index_column ∙ sym (ap length c.as_slice.ensures) in
    elim c.if-not-is_empty.branch [
      | then-not-is_empty+in_ok-push_index w ↦
          let known : IsIndexOf schema.tables own =
          all_at (IsIndexOf schema.tables) schema.indexes n own c.schema_is_sound.ensures.indexes
          c.index-index.ensures in
          let there : index.table < length old =
          subst (λ (m : ℕ). index.table < m) (sym c.loop-number.invariant.each) known.table in
          let some : length index.columns ≢ 0 =
          (λ e. (let yes : (length c.as_slice.result.now == 0) ≡ true =
          eq-eqb (length c.as_slice.result.now) 0 (sym columns ∙ e) in
          let no = w.if-not-is_empty.true in let t = c.is_empty.ensures in cc)) in
          let here = ap (λ v. v.items) w.tables-is ∙ w.in_ok-push_index.ensures in
          let len : length c.if-not-is_empty.tables.items ≡ length old =
          ap length here ∙ length-set old index.table _ in
          record {
            each = len ∙ c.loop-number.invariant.each;
            lists = λ t below. lists_more (plain_schema schema).indexes n index old
                c.if-not-is_empty.tables.items is some there here c.loop-number.invariant.lists t
                (subst (λ (m : ℕ). t < m) len below);
          }
      | else-not-is_empty w ↦
          let none : length index.columns ≡ 0 =
          columns
          ∙ eqb-true (length c.as_slice.result.now) 0
          (sym c.is_empty.ensures ∙ w.if-not-is_empty.false) in
          let same = ap (λ v. v.items) w.tables-is in
          record {
            each = ap length same ∙ c.loop-number.invariant.each;
            lists = subst
                (λ (lists : List (List ℕ)). (t : ℕ) → t < length lists
                → get_or lists t [] ≡ listed (plain_schema schema).indexes t (n + 1)) (sym same)
                (lists_same (plain_schema schema).indexes n index old is none
                c.loop-number.invariant.lists);
          }
    ]

pub returns : goal.returns
returns c =
    let schema = plain_schema c.args.schema.now in
    let tables : length c.loop-number.tables.items ≡ length schema.tables =
    c.loop-number.invariant.each ∙ sym (length-map c.args.schema.now.tables plain_table) in
    let end : length c.args.schema.now.indexes ≡ c.loop-number.number =
    omega (
      arith,
      c.index_count-number-end.ensures,
      c.loop-number-test.false,
      c.loop-number.auto.number-end,
    ) in
    let all : length schema.indexes ≡ c.loop-number.number =
    length-map c.args.schema.now.indexes plain_index ∙ end in
    lists_are (indexes_on schema) (length schema.tables) c.loop-number.tables.items tables
    (subst
    (λ (n : ℕ). (t : ℕ) → t < length c.loop-number.tables.items
    → get_or c.loop-number.tables.items t [] ≡ listed schema.indexes t n) (sym all)
    c.loop-number.invariant.lists)
