use Rattle.std.proofs.Common.{◌≡◌, ◌++◌, map, drop, not}
use Rattle.std.specs.List.{filter}
use Rattle.sql_meaning.specs.Values.{is_null}
use Rattle.sql_value.specs.View.{plain_value}
use Rattle.path_walks.specs.Keys.{lent_values}
use Rattle.path_walks.proofs.in_keys.non_null_keys.Given as goal

abbrev pub invariant-loop-key : goal.invariant-loop-key
invariant-loop-key l =
    lent_values l.kept.items
    ++ filter (λ key. not (is_null key)) (map plain_value (drop l.key-index l.keys))
    ≡ filter (λ key. not (is_null key)) (map plain_value l.keys)
