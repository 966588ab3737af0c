use Rattle.std.proofs.Common.{◌≡◌, ◌++◌, ◌-◌, length, option_map}
use Rattle.std.specs.Option.{option_to_list}
use Rattle.std.specs.List.{filter_map}
use Rattle.sql_meaning.specs.Statements.{numbers_from}
use Rattle.sql_bound.specs.Expressions.{expr_of}
use Rattle.sql_names.specs.Scopes.{table_at}
use Rattle.sql_names.specs.Names.{column_in, columns_named}
use Rattle.sql_names.proofs.names.bare_meaning.Given as goal

abbrev pub invariant-loop-item : goal.invariant-loop-item
invariant-loop-item l =
    option_to_list (option_map expr_of l.found)
    ++ filter_map (λ item. column_in item (table_at l.scope item) l.lower)
    (numbers_from l.item (length l.scope.items - l.item))
    ≡ columns_named l.scope l.lower
