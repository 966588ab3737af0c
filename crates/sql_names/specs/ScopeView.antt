-- What a scope is seen as.
use Rattle.std.specs.Prelude.{map}
use Rattle.sql_bound.specs.Statements.{item_of}
use Rattle.sql_names.specs.Scopes.{Scope, IsScope}
use Rattle.sql_names.specs.declared.scope.Scope.TheInside.{Inside}

abbrev pub seen : Inside → Scope
seen a = record { schema = a.schema.now; names = a.names; items = map item_of a.items.items }

abbrev pub IsSeenScope : Inside → Type 0
IsSeenScope a = IsScope (seen a)
