use Rattle.std.proofs.Common.{◌≡◌, ◌++◌, ◌∷◌, [], List, ℕ, sym, subst, ap, ◌∙◌, ◌<◌, ◌^◌, false}
use Rattle.std.proofs.lemmas.List.{map-append}
use Rattle.sql_meaning.specs.Letters.{folded_bytes}
use Rattle.schema_model.specs.declared.indexes.Index.{Index}
use Rattle.schema_model.specs.Schemas.{Schema, is_taken, size, IsSchema, IsIndexOf, index_names}
use Rattle.schema_model.proofs.Sound.{with_index_sound}
use Rattle.schema_model.proofs.additions.add_index.Goals as goal

pub invariant_of-schema-in-Ok : goal.invariant_of-schema-in-Ok
invariant_of-schema-in-Ok c =
    let a = c.schema.inside in
    let s : Schema = record { tables = a.tables; unread = a.unread; indexes = a.indexes } in
    let free = subst (λ (x : Schema). is_taken x (folded_bytes c.args.index.name) ≡ false)
    (sym c.schema.view_is) c.requires.free in
    let room = subst (λ (x : Schema). size x < 2 ^ 31) (sym c.schema.view_is) c.requires.room in
    record {
      of_tables = c.schema.invariant.of_tables;
      of_unread = c.schema.invariant.of_unread;
      of_indexes =
          c.in_ok-add.ensures.ok
          ∙ ap (λ (names : List (List ℕ)). names ++ folded_bytes c.as_slice.result.now ∷ [])
          c.schema.invariant.of_indexes
          ∙ ap (λ (n : List ℕ). index_names a.indexes ++ folded_bytes n ∷ []) c.as_slice.ensures
          ∙ sym (map-append (λ (x : Index). folded_bytes x.name) a.indexes (c.args.index ∷ []))
          ∙ ap index_names (sym c.in-Ok.ensures.ok);
      sound = subst (λ (xs : List Index). IsSchema
          (record { tables = a.tables; unread = a.unread; indexes = xs })) (sym c.in-Ok.ensures.ok)
          (with_index_sound s c.schema.invariant.sound room c.args.index free
          (subst (λ (x : Schema). IsIndexOf x.tables c.args.index) (sym c.schema.view_is)
          c.requires.sound));
    }
