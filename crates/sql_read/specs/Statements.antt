-- Whole statements.
use Rattle.std.specs.Prelude.{Option, None, Some, List, [], ◌∷◌, length}
use Rattle.sql_tree.specs.Trees.{Tree}
use Rattle.sql_tree.specs.Statements.{SourceTree, ItemTree, KeyTree, SetTree, SelectTree}
use Rattle.sql_tree.specs.Statements.{UpdateTree, DeleteTree, StatementTree}
use Rattle.sql_tree.specs.Statements as statement
use Rattle.sql_read.specs.declared.lexeme.Mark.TheVariants as mark
use Rattle.sql_read.specs.Lexemes.{Lexeme}
use Rattle.sql_read.specs.Reading.{◌>>=◌, branch, Reader, after, past, list_at}
use Rattle.sql_read.specs.Expressions.{below, expr_at}
use Rattle.sql_read.specs.Limits.{Cuts, limits_at}
use Rattle.sql_read.specs.Parts.{optional_at, result_at, source_at, join_at, join_begins}
use Rattle.sql_read.specs.Parts.{keys_at, set_at}

unfoldable pub results_at : Reader Tree → Reader (List ItemTree)
results_at e = list_at (result_at e) (after mark.Comma) (result_at e)

unfoldable pub sources_at : Reader Tree → Reader (List SourceTree)
sources_at e = list_at source_at join_begins (join_at e)

unfoldable pub sets_at : Reader Tree → Reader (List SetTree)
sets_at e = list_at (set_at e) (after mark.Comma) (set_at e)

abbrev pub select_of : List ItemTree → List SourceTree → Option Tree → List KeyTree → Cuts
    → SelectTree
select_of results sources filter keys cuts =
    record {
      items = results;
      sources = sources;
      filter = filter;
      keys = keys;
      limit = cuts.0;
      offset = cuts.1;
    }

-- what follows FROM
unfoldable pub from_at : Reader Tree → List ItemTree → Reader SelectTree
from_at e results ts =
    sources_at e ts >>= λ sources. optional_at mark.Where e sources.1 >>= λ filter.
    keys_at e filter.1 >>= λ keys.
    limits_at keys.1 >>= λ cuts. Some (select_of results sources.0 filter.0 keys.0 cuts.0, cuts.1)

-- what follows SELECT
unfoldable pub select_at : Reader Tree → Reader SelectTree
select_at e ts =
    results_at e (past mark.All ts) >>= λ results.
    branch (after mark.From results.1) None (λ r. from_at e results.0 r)

abbrev pub update_of : SourceTree → List SetTree → Option Tree → UpdateTree
update_of source sets filter = record { source = source; sets = sets; filter = filter }

-- what follows UPDATE
unfoldable pub update_at : Reader Tree → Reader UpdateTree
update_at e ts =
    source_at ts >>= λ source. branch (after mark.Set source.1) None
    (λ r. sets_at e r >>= λ sets.
    optional_at mark.Where e sets.1 >>= λ filter.
    Some (update_of source.0 sets.0 filter.0, filter.1))

abbrev pub delete_of : SourceTree → Option Tree → DeleteTree
delete_of source filter = record { source = source; filter = filter }

-- what follows DELETE
unfoldable pub delete_at : Reader Tree → Reader DeleteTree
delete_at e ts =
    branch (after mark.From ts) None (λ r. source_at r >>= λ source.
    optional_at mark.Where e source.1 >>= λ filter. Some (delete_of source.0 filter.0, filter.1))

unfoldable pub statement_at : Reader Tree → Reader StatementTree
statement_at e ts =
    branch (after mark.Select ts)
    (branch (after mark.Update ts)
    (branch (after mark.Delete ts) None (λ r. delete_at e r >>= λ d.
    Some (statement.Delete d.0, d.1)))
    (λ r. update_at e r >>= λ u. Some (statement.Update u.0, u.1)))
    (λ r. select_at e r >>= λ s. Some (statement.Select s.0, s.1))

-- nothing is left
abbrev pub ended : {A : Type 0} → A → List Lexeme → Option A
ended x [] = Some x
ended x (t ∷ ts) = None

-- The statement that all the lexemes are. No level stands within itself more often than there are
-- lexemes.
unfoldable pub whole_at : List Lexeme → Option StatementTree
whole_at ts = statement_at (expr_at (below (length ts))) ts >>= λ s. ended s.0 s.1
