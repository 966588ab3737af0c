-- What holds of a dump, statement by statement.
use Rattle.std.proofs.Common.{ℕ, suc, ◌+◌, fold, List, [], ◌∷◌, length, Option, None, Some, subst}
use Rattle.std.proofs.Common.{arith}
use Rattle.sql_meaning.specs.Values.{IsBytes}
use Rattle.sql_tokens.specs.Tokens.{tokens_of}
use Rattle.sql_tokens.specs.declared.token.Token.{Token}
use Rattle.sql_lex.specs.Statements.{run_of, statements_of}
use Rattle.sql_lex.specs.declared.statement_runs.Span.{Span}
use Rattle.schema_text.specs.Cursor.{NameAndRest}
use Rattle.schema_text.specs.Heads.{IndexHead, create_table_head, create_unread_head}
use Rattle.schema_text.specs.Heads.{create_index_head}
use Rattle.schema_read.specs.Dumps.{empty, insert_or_pass, index_or_further, unread_or_further}
use Rattle.schema_read.specs.Dumps.{table_or_further, step, step_span, dump_of}
use Rattle.schema_read.specs.Inserts.{InsertHead, insert_head}
use Rattle.schema_read.specs.declared.state.State.{State}
use Rattle.schema_read.proofs.Kept.{Kept, statement_passed}
use Rattle.schema_read.proofs.KeptCreates.{create_table_kept, create_unread_kept, create_index_kept}
use Rattle.schema_read.proofs.KeptRows.{insert_kept}

module _ (text : List ℕ) (bytes : IsBytes text) where
  module _ (n : ℕ) (d : State) (k : Kept n d) where
    insert_step : (o : Option InsertHead) → Kept (suc n) (insert_or_pass text d o)
    insert_step None = statement_passed n d k
    insert_step (Some head) = insert_kept n d k text bytes head

    index_step : (ts : List Token) (o : Option IndexHead)
        → Kept (suc n) (index_or_further text d ts o)
    index_step ts None = insert_step (insert_head text ts)
    index_step ts (Some head) = create_index_kept n d k text head

    unread_step : (ts : List Token) (o : Option NameAndRest)
        → Kept (suc n) (unread_or_further text d ts o)
    unread_step ts None = index_step ts (create_index_head text ts)
    unread_step ts (Some named) = create_unread_kept n d k text named

    table_step : (ts : List Token) (o : Option NameAndRest)
        → Kept (suc n) (table_or_further text d ts o)
    table_step ts None = unread_step ts (create_unread_head text ts)
    table_step ts (Some named) = create_table_kept n d k text named

  spans_kept : (tokens : List Token) (spans : List Span) (n : ℕ) (d : State) → Kept n d
      → Kept (n + length spans) (fold (step_span text tokens) d spans)
  spans_kept tokens [] n d k = subst (λ (m : ℕ). Kept m d) (omega arith) k
  spans_kept tokens (s ∷ ss) n d k =
      let ts = run_of tokens s in
      subst (λ (m : ℕ). Kept m (fold (step_span text tokens) (step text d ts) ss)) (omega arith)
      (spans_kept tokens ss (suc n) (step text d ts)
      (table_step n d k ts (create_table_head text ts)))

  pub dump_kept : Kept (length (statements_of text (tokens_of text))) (dump_of text)
  dump_kept =
      let spans = statements_of text (tokens_of text) in
      subst (λ (m : ℕ). Kept m (dump_of text)) (omega arith)
      (spans_kept (tokens_of text) spans 0 empty
      (record { rows = tt; aliased = tt; few = tt; unusable = tt }))
