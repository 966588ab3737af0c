use Rattle.std.proofs.Common.{◌≡◌, [], map, take, drop}
use Rattle.sql_names.specs.Faults.{first_failing}
use Rattle.sql_bind.specs.Sources.{name_checks, scope_from}
use Rattle.sql_bind.specs.Views.{named_of}
use Rattle.sql_bind.proofs.sources.scope_of.Given as goal

abbrev pub invariant-loop-named : goal.invariant-loop-named
invariant-loop-named l = record {
  checks : first_failing
      (name_checks l.scope.names (map (λ n. n.name) (map named_of (drop l.named-index l.list))))
      ≡ first_failing (name_checks [] (map (λ n. n.name) (map named_of l.list)));
  made : l.scope ≡ scope_from l.schema (map named_of (take l.named-index l.list));
}
