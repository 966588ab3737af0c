use Rattle.std.proofs.Common.{◌≡◌, ◌<◌, ◌++◌, length, map, flat_map, drop}
use Rattle.std.specs.List.{AllByRecursion}
use Rattle.sql_tree.specs.Statements.{source_tree}
use Rattle.sql_names.specs.Faults.{first_failing}
use Rattle.sql_bind.specs.Sources.{table_checks, named_item}
use Rattle.sql_bind.specs.Views.{named_of}
use Rattle.sql_bind.proofs.sources.find_items.Given as goal

abbrev pub invariant-loop-source : goal.invariant-loop-source
invariant-loop-source l = record {
  checks : first_failing
      (flat_map (table_checks l.schema) (map source_tree (drop l.source-index l.sources)))
      ≡ first_failing (flat_map (table_checks l.schema) (map source_tree l.sources));
  made : map named_of l.list.items
      ++ map (named_item l.schema) (map source_tree (drop l.source-index l.sources))
      ≡ map (named_item l.schema) (map source_tree l.sources);
  there : AllByRecursion (λ n. n.item.table < length l.schema.tables) l.list.items;
}
