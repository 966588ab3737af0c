use Rattle.std.proofs.Common.{rules, ◌≡◌, ◌++◌, ◌∷◌, []}
use Rattle.std.proofs.lemmas.List.{map-append}
use Rattle.sql_meaning.specs.Letters.{folded_bytes}
use Rattle.sql_bound.specs.Statements.{item_of}
use Rattle.sql_names.specs.ScopeView.{seen}
use Rattle.sql_names.proofs.Pushes.{with_item_is_scope}
use Rattle.sql_names.proofs.scope.Scope.push.Goals as goal

pub invariant_of-self-in-Ok : goal.invariant_of-self-in-Ok
invariant_of-self-in-Ok c =
    let names : c.add.new.self ≡ c.self.inside.names ++ folded_bytes c.args.name.now ∷ [] =
    search rules in
    let items : c.push.new.self.items ≡ c.self.inside.items.items ++ c.args.item ∷ [] =
    search rules in
    let free = rw (← c.self.view_is) at c.requires.free in
    let room = rw (← c.self.view_is) at c.requires.room in
    let table = rw (← c.self.view_is) at c.requires.table in
    rw (names, items, map-append item_of c.self.inside.items.items (c.args.item ∷ []))
    (with_item_is_scope (seen c.self.inside) (folded_bytes c.args.name.now) (item_of c.args.item)
    c.self.invariant free room table)
