use Rattle.std.proofs.Common.{◌+◌, ◌++◌, ◌∷◌, [], ap, sym, ◌∙◌, map, drop, length, arith}
use Rattle.std.proofs.Common.{append_assoc, length-append}
use Rattle.std.proofs.lemmas.List.{map_push}
use Rattle.path_walks.specs.Columns.{plain_sort_column}
use Rattle.path_walks.specs.Keys.{keys_for, lent_keys, lent_values}
use Rattle.path_walks.specs.Parts.{plain_part}
use Rattle.list_laws.proofs.Turns.{dropped_get, next_dropped}
use Rattle.path_walks.proofs.PartKeys.{keys_end}
use Rattle.path_walks.proofs.parts.keys_of_parts.Goals as goal

pub loop-number-preserved : goal.loop-number-preserved
loop-number-preserved c =
    let i = c.loop-number.number in
    let columns = map plain_sort_column c.args.columns.now in
    let column = plain_sort_column c.column_at-column.result in
    let parts = c.args.parts.now in
    let part = c.index-parts-number.result in
    let old = c.loop-number.keys.items in
    let list = c.in_ok-list.list in
    let rest = keys_for (drop (i + 1) columns) (map plain_part (drop (i + 1) parts)) in
    record {
      counted = (let e = ap length c.in_ok-push.ensures.items in
          omega (arith, simp length-append at e, c.loop-number.invariant.counted));
      keys = ap (λ ks. lent_keys ks ++ rest) c.in_ok-push.ensures.items
          ∙ ap (λ l. l ++ rest) (map_push (λ keys. lent_values keys.items) old list)
          ∙ append_assoc (lent_keys old) (lent_values list.items ∷ []) rest
          ∙ ap (λ k. lent_keys old ++ (k ∷ rest)) c.in_ok-list.ensures
          ∙ ap
          (λ ss. lent_keys old
          ++ keys_for ss (plain_part part ∷ map plain_part (drop (i + 1) parts)))
          (sym (dropped_get columns i column c.column_at-column.ensures))
          ∙ ap (λ ps. lent_keys old ++ keys_for (drop i columns) (map plain_part ps))
          (sym (next_dropped parts i part (omega arith) c.index-parts-number.is))
          ∙ c.loop-number.invariant.keys;
    }

pub returns-clause-keys : goal.returns-clause-keys
returns-clause-keys c =
    keys_end plain_part (lent_keys c.loop-number.keys.items)
    (drop c.loop-number.number (map plain_sort_column c.args.columns.now)) c.args.parts.now
    c.loop-number.number (omega arith)
    ∙ c.loop-number.invariant.keys
