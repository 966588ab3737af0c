use Rattle.std.proofs.Common.{◌≡◌, ◌++◌, ◌∷◌, [], List, ℕ, sym, subst, ap, ◌∙◌, ◌<◌, ◌^◌, false}
use Rattle.std.proofs.lemmas.List.{map-append}
use Rattle.sql_meaning.specs.Letters.{folded_bytes}
use Rattle.schema_model.specs.declared.tables.Table.{Table}
use Rattle.schema_model.specs.Schemas.{Schema, is_taken, size, IsSchema, table_names}
use Rattle.schema_model.proofs.Sound.{with_table_sound}
use Rattle.schema_model.proofs.additions.add_table.Goals as goal

pub invariant_of-schema-in-Ok : goal.invariant_of-schema-in-Ok
invariant_of-schema-in-Ok c =
    let a = c.schema.inside in
    let s : Schema = record { tables = a.tables; unread = a.unread; indexes = a.indexes } in
    let free = subst (λ (x : Schema). is_taken x (folded_bytes c.args.table.name) ≡ false)
    (sym c.schema.view_is) c.requires.free in
    let room = subst (λ (x : Schema). size x < 2 ^ 31) (sym c.schema.view_is) c.requires.room in
    record {
      of_tables =
          c.in_ok-add.ensures.ok
          ∙ ap (λ (names : List (List ℕ)). names ++ folded_bytes c.as_slice.result.now ∷ [])
          c.schema.invariant.of_tables
          ∙ ap (λ (n : List ℕ). table_names a.tables ++ folded_bytes n ∷ []) c.as_slice.ensures
          ∙ sym (map-append (λ (x : Table). folded_bytes x.name) a.tables (c.args.table ∷ []))
          ∙ ap table_names (sym c.in-Ok.ensures.ok);
      of_unread = c.schema.invariant.of_unread;
      of_indexes = c.schema.invariant.of_indexes;
      sound = subst (λ (xs : List Table). IsSchema
          (record { tables = xs; unread = a.unread; indexes = a.indexes })) (sym c.in-Ok.ensures.ok)
          (with_table_sound s c.schema.invariant.sound room c.args.table free c.requires.sound);
    }
