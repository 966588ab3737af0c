use Rattle.std.proofs.Common.{◌≡◌, ◌++◌, ◌∷◌, [], ap, sym, subst, ◌∙◌, is_some, Some}
use Rattle.std.specs.Map.{lookup}
use Rattle.sql_meaning.specs.Letters.{folded_bytes}
use Rattle.schema_model.specs.Names.{is_name}
use Rattle.schema_model.proofs.ColumnPlaces.{is_none}
use Rattle.indexmap.proofs.CallerLemmas.{insert_entry-new}
use Rattle.sql_bound.specs.Expressions.{expr_of}
use Rattle.sql_bind.specs.Views.{HasAliases}
use Rattle.sql_bind.proofs.AliasLaws.{noted_earlier, noted_last, is_mapped}
use Rattle.sql_bind.proofs.keys.note_alias.Goals as goal

pub returns-then-contains_key : goal.returns-then-contains_key
returns-then-contains_key c =
    let es = c.args.aliases.now.entries in
    let key : c.as_slice.result.now ≡ folded_bytes c.args.alias.now =
    c.as_slice.ensures.value ∙ c.in_ok-key.ensures in
    let there = is_mapped (λ e. expr_of e.now)
    (lookup (λ k. is_name (folded_bytes c.args.alias.now) k.items) es)
    ∙ ap (λ n. is_some (lookup (λ k. is_name n k.items) es)) (sym key)
    ∙ sym c.contains_key.ensures ∙ c.if-contains_key.true in
    λ results kept. noted_earlier es results kept c.args.alias.now c.args.expr there

pub returns : goal.returns
returns c =
    let es = c.args.aliases.now.entries in
    let absent = is_none _
    (ap (λ n. is_some (lookup (λ k. is_name n k.items) es)) (sym c.as_slice.ensures.value)
    ∙ sym c.contains_key.ensures ∙ c.if-contains_key.false) in
    let last = c.in_ok-insert.ensures.entries
    ∙ insert_entry-new _ c.args.aliases.now c.in_ok-key.key c.args.expr absent in
    λ results kept.
    let whole = results
    ++ record { expr = expr_of c.args.expr.now; alias = Some c.args.alias.now } ∷ [] in
    subst (λ entries. HasAliases entries whole) (sym last)
    (noted_last es results kept c.args.alias.now c.args.expr c.in_ok-key.key c.in_ok-key.ensures)
