use Rattle.std.proofs.Common.{◌≡◌, ◌++◌, ◌∷◌, [], List, ℕ, sym, subst, ap, ◌∙◌, ◌<◌, ◌^◌, false}
use Rattle.std.proofs.lemmas.List.{map-append}
use Rattle.sql_meaning.specs.Letters.{folded_bytes}
use Rattle.schema_model.specs.Schemas.{Schema, is_taken, size, IsSchema, unread_names}
use Rattle.schema_model.proofs.Sound.{with_unread_sound}
use Rattle.schema_model.proofs.additions.add_unread.Goals as goal

pub invariant_of-schema-in-Ok : goal.invariant_of-schema-in-Ok
invariant_of-schema-in-Ok c =
    let a = c.schema.inside in
    let s : Schema = record { tables = a.tables; unread = a.unread; indexes = a.indexes } in
    let free = subst (λ (x : Schema). is_taken x (folded_bytes c.args.name) ≡ false)
    (sym c.schema.view_is) c.requires.free in
    let room = subst (λ (x : Schema). size x < 2 ^ 31) (sym c.schema.view_is) c.requires.room in
    record {
      of_tables = c.schema.invariant.of_tables;
      of_unread =
          c.in_ok-add.ensures.ok
          ∙ ap (λ (names : List (List ℕ)). names ++ folded_bytes c.as_slice.result.now ∷ [])
          c.schema.invariant.of_unread
          ∙ ap (λ (n : List ℕ). unread_names a.unread ++ folded_bytes n ∷ []) c.as_slice.ensures
          ∙ sym (map-append (folded_bytes) a.unread (c.args.name ∷ []))
          ∙ ap unread_names (sym c.in-Ok.ensures.ok);
      of_indexes = c.schema.invariant.of_indexes;
      sound = subst (λ (xs : List (List ℕ)). IsSchema
          (record { tables = a.tables; unread = xs; indexes = a.indexes })) (sym c.in-Ok.ensures.ok)
          (with_unread_sound s c.schema.invariant.sound room c.args.name free);
    }
