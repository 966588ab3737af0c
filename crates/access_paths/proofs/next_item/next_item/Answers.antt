use Rattle.std.proofs.Common.{◌<◌, ℕ, List, [], length, sym, ap, ◌∙◌, subst, slice_get, get_or}
use Rattle.sql_meaning.specs.Schemas.{alias_of}
use Rattle.schema_model.specs.PlainSchemas.{plain_schema}
use Rattle.sql_bound.specs.Statements.{bound_of}
use Rattle.plan_choice.specs.Settings.{indexes_on}
use Rattle.access_paths.proofs.IndexLists.{each_listed}
use Rattle.access_paths.proofs.ItemLookups.{table_there}
use Rattle.access_paths.proofs.next_item.next_item.Goals as goal

pub returns-clause-next : goal.returns-clause-next
returns-clause-next c =
    let s = c.args.setting.now in
    let schema = plain_schema s.schema.now in
    let table = c.table_of-table.result in
    let there : table < length schema.tables =
    subst (λ (t : ℕ). t < length schema.tables) (sym c.table_of-table.ensures)
    (table_there (bound_of s.bound.now).items c.args.item (length schema.tables)
    c.requires.ready.fits.tables c.requires.item) in
    record {
      ready = c.requires.ready;
      item = c.requires.item;
      table = c.table_of-table.ensures;
      alias =
          c.table_alias.ensures
          ∙ ap (λ t. alias_of (slice_get schema.tables t)) c.table_of-table.ensures;
      indexes =
          c.on.ensures
          ∙ ap (λ (ls : List (List ℕ)). get_or ls table []) c.requires.ready.indexes
          ∙ each_listed (indexes_on schema) (length schema.tables) table there
          ∙ ap (indexes_on schema) c.table_of-table.ensures;
      due = c.requires.due;
    }
