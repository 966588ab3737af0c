-- The columns of ORDER BY, one key after the other.
use Rattle.std.specs.Prelude.{ℕ, ◌==◌, ◌&&◌, Bool, not, cond, List, [], ◌∷◌, ◌++◌}
use Rattle.std.specs.Prelude.{Option, Some, None, option_map}
use Rattle.sql_meaning.specs.Expressions.{ColumnRef, bare_column}
use Rattle.sql_meaning.specs.Rows.{Site, AtRowid, AtColumn}
use Rattle.sql_meaning.specs.Schemas.{IndexColumn}
use Rattle.sql_meaning.specs.Statements.{SortKey}
use Rattle.plan_choice.specs.Scans.{key_column}
use Rattle.schema_model.specs.PlainSchemas.{plain_index_column}
use Rattle.statement_scans.specs.declared.order.KeyColumn.{KeyColumn}
use Rattle.statement_scans.specs.declared.order.KeyColumn.TheVariants.{Column, Given, Foreign}

abbrev pub asked_list : KeyColumn → Option (List IndexColumn)
asked_list (Column c) = Some (plain_index_column c ∷ [])
asked_list Given = Some []
asked_list Foreign = None

abbrev pub site_step : SortKey → Bool → Site → Option (List IndexColumn)
site_step k is_last (AtColumn column) = Some (key_column k column ∷ [])
site_step k is_last AtRowid = cond (is_last && not k.falling) (Some []) None

abbrev pub ref_step : ℕ → SortKey → Bool → Option ColumnRef → Option (List IndexColumn)
ref_step item k is_last None = None
ref_step item k is_last (Some c) = cond (c.item == item) (site_step k is_last c.site) None

-- the column of a key, or none where the key is the last one and the rowid, rising
abbrev pub key_step : ℕ → SortKey → Bool → Option (List IndexColumn)
key_step item k is_last = ref_step item k is_last (bare_column k.expr)

abbrev pub joined : Option (List IndexColumn) → Option (List IndexColumn)
    → Option (List IndexColumn)
joined None later = None
joined (Some cs) later = option_map (λ ds. cs ++ ds) later

abbrev pub list_if : Bool → List IndexColumn → Option (List IndexColumn)
list_if b cs = cond b (Some cs) None
