-- What holds of a dump that was read.
use Rattle.std.proofs.Common.{◌≡◌, ℕ, suc, ◌≤◌, ◌<◌, ◌^◌, List, [], ◌∷◌, length, refl, sym, subst}
use Rattle.std.proofs.Common.{ap, arith}
use Rattle.std.specs.List.{AllByRecursion}
use Rattle.sql_meaning.specs.Values.{IsBytes}
use Rattle.sql_tokens.specs.Tokens.{tokens_of}
use Rattle.sql_lex.specs.Statements.{statements_of}
use Rattle.schema_model.specs.Databases.{IsDatabase}
use Rattle.schema_model.specs.PlainSchemas.{plain_rows, plain_database}
use Rattle.schema_model.specs.UsableIndexes.{IsEmptyUnlessUsable}
use Rattle.schema_model.specs.declared.rows.Row.{Row}
use Rattle.schema_model.proofs.HeldRows.{rows_are_database}
use Rattle.schema_read.specs.Dumps.{seen_dump, dump_of}
use Rattle.schema_read.specs.declared.dump.Dump.{Dump}
use Rattle.schema_read.proofs.Kept.{Kept}
use Rattle.schema_read.proofs.KeptDumps.{dump_kept}

same_count : (rows : List Row) → length (plain_rows rows) ≡ length rows
same_count [] = refl
same_count (r ∷ rs) = ap suc (same_count rs)

fewer : (n : ℕ) (tables : List (List Row)) → n < 2 ^ 32
    → AllByRecursion (λ rows. length rows ≤ n) (plain_database tables)
    → AllByRecursion (λ rows. length rows < 2 ^ 32) tables
fewer n [] h a = tt
fewer n (rows ∷ tables) h a = let count = same_count rows in let first = a.0 in
    (omega (arith, h, count, first), fewer n tables h a.1)

module _ (text : List ℕ) (bytes : IsBytes text) (d : Dump) (same : seen_dump d ≡ dump_of text) where
  kept : Kept (length (statements_of text (tokens_of text))) (seen_dump d)
  kept = subst (Kept (length (statements_of text (tokens_of text)))) (sym same)
      (dump_kept text bytes)

  pub dump_conforms : IsDatabase d.schema d.rows
  dump_conforms = rows_are_database d.schema d.rows kept.rows

  pub dump_is_short : length (statements_of text (tokens_of text)) < 2 ^ 32
      → AllByRecursion (λ rows. length rows < 2 ^ 32) d.rows
  dump_is_short h = fewer (length (statements_of text (tokens_of text))) d.rows h kept.few

  pub dump_unusable : AllByRecursion IsEmptyUnlessUsable d.schema.indexes
  dump_unusable = kept.unusable
