-- The statements of a script: what each says, and what binding makes of it.
use Rattle.std.specs.Prelude.{ℕ, ◌-◌, Option, None, Some, List, [], ◌∷◌, map, length, slice_get}
use Rattle.std.specs.List.{flat_map}
use Rattle.plan_choice.specs.Settings.{Statement}
use Rattle.sql_tokens.specs.Terminals.{text_of}
use Rattle.sql_tokens.specs.Tokens.{tokens_of}
use Rattle.sql_tokens.specs.declared.token.Token.{Token}
use Rattle.sql_lex.specs.Statements.{run_of, statements_of}
use Rattle.sql_lex.specs.declared.statement_runs.Span.{Span}
use Rattle.sql_tree.specs.Statements.{StatementTree}
use Rattle.sql_read.specs.Statements.{whole_at}
use Rattle.sql_lexemes.specs.TokenLexemes.{lexemes_of}
use Rattle.sql_parse.specs.Refusals.{first_refusal}
use Rattle.sql_parse.specs.declared.refusals.ParseFault.{ParseFault}
use Rattle.sql_parse.specs.declared.refusals.ParseFault.TheVariants.{Syntax}
use Rattle.schema_model.specs.Schemas.{Schema}
use Rattle.sql_names.specs.declared.faults.BindFault.{BindFault}
use Rattle.sql_bind.specs.Clauses.{aliases_statement}
use Rattle.sql_bind.specs.Binding.{bound_statement, needs_statement, first_failure}
use Rattle.expert_report.specs.Faults.{parse_text, bind_text}

-- a statement is bound, and its tables have these aliases; or it is refused
pub data Reading : Type 0 where
  BoundTo : (statement : Statement) (aliases : List (Option (List ℕ))) → Reading
  RefusedFor : (why : List ℕ) → Reading

pub record ScriptStatement : Type 0 where
  pub text : List ℕ
  pub reading : Reading

-- the text from the first byte of a token to the last one of another
abbrev pub text_between : List ℕ → Option Token → Option Token → List ℕ
text_between text (Some first) (Some last) = text_of text (record first { end = last.end })
text_between text (Some first) None = []
text_between text None last = []

abbrev pub run_text : List ℕ → List Token → List ℕ
run_text text tokens =
    text_between text (slice_get tokens 0) (slice_get tokens (length tokens - 1))

abbrev pub bound_reading : Schema → StatementTree → Option BindFault → Reading
bound_reading schema tree (Some fault) = RefusedFor (bind_text fault)
bound_reading schema tree None =
    BoundTo (record {
      bound = bound_statement schema tree;
      needs = needs_statement schema tree;
    }) (aliases_statement tree)

abbrev pub tree_reading : Schema → Option StatementTree → Reading
tree_reading schema None = RefusedFor (parse_text Syntax)
tree_reading schema (Some tree) = bound_reading schema tree (first_failure schema tree)

-- `whole_at` gives the one tree that the grammar spells, or none
abbrev pub run_reading : Schema → List ℕ → List Token → Option ParseFault → Reading
run_reading schema text tokens (Some fault) = RefusedFor (parse_text fault)
run_reading schema text tokens None = tree_reading schema (whole_at (lexemes_of text tokens))

-- the first refusal that a statement meets: of its tokens, its grammar, its names; else it is bound
abbrev pub reading_of : Schema → List ℕ → List Token → Reading
reading_of schema text tokens = run_reading schema text tokens (first_refusal text tokens)

abbrev pub script_statement : Schema → List ℕ → List Token → ScriptStatement
script_statement schema text tokens = record {
  text = run_text text tokens;
  reading = reading_of schema text tokens;
}

-- those that stand at these spans
abbrev pub run_statements : Schema → List ℕ → List Token → List Span → List ScriptStatement
run_statements schema text tokens spans =
    map (λ span. script_statement schema text (run_of tokens span)) spans

-- the statements of a piece of a script, in order
abbrev pub piece_statements : Schema → List ℕ → List ScriptStatement
piece_statements schema text =
    run_statements schema text (tokens_of text) (statements_of text (tokens_of text))

-- each piece is cut by itself
abbrev pub script_statements : Schema → List (List ℕ) → List ScriptStatement
script_statements schema pieces = flat_map (piece_statements schema) pieces

abbrev pub bound_if_any : Reading → List Statement
bound_if_any (BoundTo statement aliases) = statement ∷ []
bound_if_any (RefusedFor why) = []

-- those that are bound
abbrev pub bound_in : List ScriptStatement → List Statement
bound_in statements = flat_map (λ s. bound_if_any s.reading) statements
