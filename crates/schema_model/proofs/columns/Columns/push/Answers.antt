use Rattle.std.proofs.Common.{◌≡◌, ap, sym, ◌∙◌, ◌++◌, ◌∷◌, [], List, ℕ, position, length}
use Rattle.sql_meaning.specs.Letters.{folded_bytes}
use Rattle.schema_model.proofs.ColumnPlaces.{stands_earlier, stands_last, found_under, finds}
use Rattle.schema_model.proofs.ColumnPlaces.{is_none}
use Rattle.std.specs.Global.{Vec}
use Rattle.schema_model.specs.Columns.{has_column_name}
use Rattle.schema_model.specs.declared.columns.Column.{Column}
use Rattle.indexmap.proofs.CallerLemmas.{insert_entry-new}
use Rattle.schema_model.proofs.columns.Columns.push.Goals as goal

pub invariant_of-self-then-contains_key : goal.invariant_of-self-then-contains_key
invariant_of-self-then-contains_key c =
    let es = c.self.inside.places.entries in
    let key : c.as_slice-2.result.now ≡ folded_bytes c.args.column.name =
    c.as_slice-2.ensures.value ∙ c.in_ok-key.ensures ∙ ap folded_bytes c.as_slice.ensures in
    let there = ap (found_under es) (sym key) ∙ sym c.contains_key.ensures
    ∙ c.if-contains_key.true in
    λ name. stands_earlier es c.self.inside.held.items c.args.column c.self.invariant there name
    ∙ ap (λ (columns : List Column). position (has_column_name name) columns)
    (sym c.in_ok-push.ensures.items)

pub invariant_of-self-in-Ok : goal.invariant_of-self-in-Ok
invariant_of-self-in-Ok c =
    let es = c.self.inside.places.entries in
    let key = c.in_ok-key.ensures ∙ ap folded_bytes c.as_slice.ensures in
    let absent = is_none _
    (ap (found_under es) (sym c.as_slice-2.ensures.value) ∙ sym c.contains_key.ensures
    ∙ c.if-contains_key.false) in
    let last = c.in-Ok.ensures.entries
    ∙ insert_entry-new _ c.self.inside.places c.in_ok-key.key
    (length c.as_slice-place.result.now) absent in
    λ name. ap (λ (entries : List (Vec ℕ × ℕ)). finds entries name) last
    ∙ ap (λ (columns : List Column). finds (es ++ (c.in_ok-key.key, length columns) ∷ []) name)
    c.as_slice-place.ensures.value
    ∙ stands_last es c.self.inside.held.items c.args.column c.self.invariant c.in_ok-key.key key
    name
    ∙ ap (λ (columns : List Column). position (has_column_name name) columns)
    (sym c.in_ok-push.ensures.items)
