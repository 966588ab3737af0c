-- A scope with an item more.
use Rattle.std.proofs.Common.{◌≡◌, ◌<◌, ℕ, false, length, List, []}
use Rattle.std.proofs.Common.{ap, sym, subst, ◌∙◌, arith}
use Rattle.std.proofs.lemmas.List.{length_push, append-nil}
use Rattle.list_laws.proofs.Lists.{all_push}
use Rattle.sql_meaning.specs.Items.{Item}
use Rattle.schema_model.specs.Names.{has_name, Differ}
use Rattle.schema_model.proofs.Sound.{differ_between}
use Rattle.sql_names.specs.Scopes.{Scope, IsScope, with_item}

pub with_item_is_scope : (scope : Scope) (name : List ℕ) (item : Item) → IsScope scope
    → has_name name scope.names ≡ false → length scope.items < 64
    → item.table < length scope.schema.tables → IsScope (with_item scope name item)
with_item_is_scope scope name item is free room table =
    let whole = append-nil scope.names in
    record {
      named = rw (length_push scope.names name, length_push scope.items item)
          (omega (arith, is.named));
      few = rw (length_push scope.items item) (omega (arith, room));
      tables = all_push (λ i. i.table < length scope.schema.tables) scope.items item is.tables
          table;
      differ = differ_between name scope.names [] (subst Differ (sym whole) is.differ)
          (ap (has_name name) whole ∙ free);
    }
