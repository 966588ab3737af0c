-- A dump, statement by statement.
use Rattle.std.specs.Prelude.{ℕ, ◌+◌, ◌<◌, fold, List, length, Option, None, Some}
use Rattle.sql_tokens.specs.Tokens.{tokens_of}
use Rattle.sql_tokens.specs.declared.token.Token.{Token}
use Rattle.sql_lex.specs.Statements.{run_of, statements_of}
use Rattle.sql_lex.specs.declared.statement_runs.Span.{Span}
use Rattle.schema_model.specs.PlainSchemas.{plain_database}
use Rattle.schema_model.specs.Schemas.{Schema}
use Rattle.schema_text.specs.Cursor.{NameAndRest}
use Rattle.schema_text.specs.Heads.{IndexHead, create_table_head, create_unread_head}
use Rattle.schema_text.specs.Heads.{create_index_head}
use Rattle.schema_read.specs.States as states
use Rattle.schema_read.specs.States.{pass_statement}
use Rattle.schema_read.specs.Creates.{apply_table, apply_unread, apply_index}
use Rattle.schema_read.specs.Inserts.{InsertHead, insert_head, apply_insert}
use Rattle.schema_read.specs.declared.state.State.{State}
use Rattle.schema_read.specs.declared.dump.Dump.{Dump}
use Rattle.schema_read.specs.declared.dump.ReadDumpFault.{ReadDumpFault}
use Rattle.schema_read.specs.declared.dump.ReadDumpFault.TheVariants.{TooManyTables, Memory}

abbrev pub empty : State
empty = states.empty

abbrev pub insert_or_pass : List ℕ → State → Option InsertHead → State
insert_or_pass text d (Some head) = apply_insert text d head
insert_or_pass text d None = pass_statement d

abbrev pub step_insert : List ℕ → State → List Token → State
step_insert text d ts = insert_or_pass text d (insert_head text ts)

abbrev pub index_or_further : List ℕ → State → List Token → Option IndexHead → State
index_or_further text d ts (Some head) = apply_index text d head
index_or_further text d ts None = step_insert text d ts

abbrev pub step_index : List ℕ → State → List Token → State
step_index text d ts = index_or_further text d ts (create_index_head text ts)

abbrev pub unread_or_further : List ℕ → State → List Token → Option NameAndRest → State
unread_or_further text d ts (Some named) = apply_unread text d named
unread_or_further text d ts None = step_index text d ts

abbrev pub step_unread : List ℕ → State → List Token → State
step_unread text d ts = unread_or_further text d ts (create_unread_head text ts)

abbrev pub table_or_further : List ℕ → State → List Token → Option NameAndRest → State
table_or_further text d ts (Some named) = apply_table text d named
table_or_further text d ts None = step_unread text d ts

-- what a statement makes of what stands, by the first rule that fits: CREATE TABLE, CREATE VIEW and
-- CREATE VIRTUAL TABLE, CREATE INDEX, INSERT; any other is passed over
abbrev pub step : List ℕ → State → List Token → State
step text d ts = table_or_further text d ts (create_table_head text ts)

abbrev pub step_span : List ℕ → List Token → State → Span → State
step_span text tokens d span = step text d (run_of tokens span)

-- what the statements of a text make, one after another
abbrev pub dump_of : List ℕ → State
dump_of text = fold (step_span text (tokens_of text)) empty (statements_of text (tokens_of text))

-- rows are seen as plain values
abbrev pub seen_dump : Dump → State
seen_dump d =
    record {
      schema = d.schema;
      rows = plain_database d.rows;
      given = d.given;
      statements_passed = d.statements_passed;
      rows_passed = d.rows_passed;
    }

-- the tables that are named, read and unread
abbrev pub table_total : Schema → ℕ
table_total s = length s.tables + length s.unread

-- how many tables a dump may name
abbrev pub table_limit : ℕ
table_limit = 1000

-- too many tables are told exactly where there are
abbrev pub IsFaultOf : State → ReadDumpFault → Type 0
IsFaultOf d TooManyTables = table_limit < table_total d.schema
IsFaultOf d Memory = Unit {0}
