use Rattle.std.proofs.Common.{◌≡◌, ◌+◌, ◌<◌, ◌∷◌, ap, ◌∙◌, sym, map, arith, length, drop, get_or}
use Rattle.std.proofs.Common.{false}
use Rattle.std.proofs.lemmas.List.{length-map, length_push}
use Rattle.std.specs.Borrow.{Bor}
use Rattle.sql_meaning.specs.Terms as plain
use Rattle.where_terms.specs.declared.term.Term.{Term}
use Rattle.sql_meaning.specs.Choices.{ColumnTerms, seek_terms}
use Rattle.sql_value.specs.View.{plain_collation}
use Rattle.sql_value.specs.declared.values.Collation.TheVariants.{Binary}
use Rattle.schema_model.specs.PlainSchemas.{plain_index_column}
use Rattle.schema_model.specs.declared.indexes.IndexColumn.{IndexColumn}
use Rattle.sql_bound.specs.Columns.{site_of}
use Rattle.where_terms.specs.Views.{term_of}
use Rattle.list_laws.proofs.Turns.{dropped_or}
use Rattle.access_paths.specs.Placed.{items_in}
use Rattle.access_paths.specs.Fitting.{behind_equals}
use Rattle.access_paths.specs.Supplies.{supplied, lent_terms}
use Rattle.access_paths.proofs.Takes.{first_at_site, taken_more}
use Rattle.access_paths.proofs.taken.equal_terms.Goals as goal

abbrev other : IndexColumn
other = record { column = 0; coll = Binary; desc = false }

abbrev lent : Bor Term → plain.Term
lent t = term_of t.now

pub loop-column-preserved : goal.loop-column-preserved
loop-column-preserved c =
    let s = c.args.supply.now in
    let columns = c.args.columns.now in
    let i = c.loop-column.column-index in
    let column = plain_index_column (get_or columns i other) in
    let pushed = c.in_ok-push_term.ensures in
    let t = term_of c.in-Some.term.now in
    let placed = items_in s.placed in
    let below : i < length columns = omega arith in
    let cut : map plain_index_column (drop i columns)
    ≡ column ∷ map plain_index_column (drop (i + 1) columns) =
    ap (map plain_index_column) (dropped_or columns i other below) in
    record {
      one_each =
          sym (length-map c.push_term.new.terms.items lent)
          ∙ ap length pushed
          ∙ length_push (lent_terms c.loop-column.equals.items) t
          ∙ ap (λ n. n + 1)
          (length-map c.loop-column.equals.items lent ∙ c.loop-column.invariant.one_each);
      taken =
          taken_more placed s.alias (supplied s)
          (seek_terms placed s.alias (supplied s) (map plain_index_column columns))
          (lent_terms c.loop-column.equals.items) (lent_terms c.push_term.new.terms.items) column
          (map plain_index_column (drop (i + 1) columns)) t
          (c.loop-column.invariant.taken
          ∙ ap
          (λ cs. behind_equals (lent_terms c.loop-column.equals.items)
          (seek_terms placed s.alias (supplied s) cs)) cut)
          (sym
          (first_at_site placed s.alias column (site_of c.seek_column.result.column)
          (plain_collation c.seek_column.result.coll) (supplied s) (λ (u : ColumnTerms). u.equals)
          c.seek_column.ensures.site c.seek_column.ensures.collation)
          ∙ sym c.in-Some.ensures)
          pushed;
    }
