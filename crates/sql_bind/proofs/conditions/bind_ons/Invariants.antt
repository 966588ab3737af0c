use Rattle.std.proofs.Common.{◌≡◌, ◌++◌, map, flat_map}
use Rattle.sql_tree.specs.Statements.{source_tree}
use Rattle.sql_bound.specs.Statements.{conjunct_of}
use Rattle.sql_names.specs.Faults.{first_failing}
use Rattle.sql_bind.specs.Conditions.{on_checks, on_terms, ons_checks, ons_terms}
use Rattle.sql_bind.proofs.Numbered.{sources_left}
use Rattle.sql_bind.proofs.conditions.bind_ons.Given as goal

abbrev pub invariant-loop-source : goal.invariant-loop-source
invariant-loop-source l = record {
  number : l.item ≡ l.source-index;
  checks : first_failing (flat_map (on_checks l.scope) (sources_left l.sources l.source-index))
      ≡ first_failing (ons_checks l.scope (map source_tree l.sources));
  made : map conjunct_of l.terms.items
      ++ flat_map (on_terms l.scope) (sources_left l.sources l.source-index)
      ≡ ons_terms l.scope (map source_tree l.sources);
}
