-- What advice is asked for, as plain data.
use Rattle.std.specs.Prelude.{ℕ, List, map, length}
use Rattle.plan_choice.specs.Advice as meant
use Rattle.plan_choice.specs.Settings.{Statement}
use Rattle.schema_model.specs.PlainSchemas.{plain_schema}
use Rattle.schema_read.specs.declared.state.State.{State}
use Rattle.stat_figures.specs.Requests.{uniques, names_of, plain_given}
use Rattle.stat_figures.specs.declared.sources.StatSource.{StatSource}
use Rattle.stat_figures.specs.declared.sources.StatSource.TheVariants.{Sampled, Given}

-- rows of sqlite_stat1 count for the tables and indexes of the dump
abbrev pub source_of : State → StatSource → meant.Source
source_of dump Sampled = meant.Sampled
source_of dump Given =
    meant.AsGiven (names_of dump.schema (length dump.schema.indexes)) (map plain_given dump.given)

-- advice on statements over a dump, by so many rows of each hundred
abbrev pub request_of : State → StatSource → ℕ → List Statement → meant.Request
request_of dump source percent statements = record {
  schema = plain_schema dump.schema;
  unique = uniques dump.schema;
  database = dump.rows;
  statements = statements;
  percent = percent;
  source = source_of dump source;
}
