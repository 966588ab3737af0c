use Rattle.std.proofs.Common.{◌≤◌, ℕ, List, length, ap, sym, ◌∙◌, subst}
use Rattle.schema_model.specs.Names.{Differ}
use Rattle.schema_model.specs.Columns.{column_names}
use Rattle.schema_model.specs.Schemas.{IsWithinOption, column_limit}
use Rattle.schema_model.specs.declared.columns.Column.{Column}
use Rattle.schema_text.proofs.ColumnLaws.{alias_sound, alias_length}
use Rattle.schema_text.proofs.table_texts.finish_table.Goals as goal

pub returns-clause-sound : goal.returns-clause-sound
returns-clause-sound c =
    let ok = alias_sound c.args.columns c.args.alias c.requires in
    let made = sym c.with_alias.ensures in
    let within = subst (λ (cs : List Column). IsWithinOption c.args.alias (length cs))
    c.as_slice.ensures (c.is_within.ensures c.if-not-is_within.false) in
    record {
      few = subst (λ (cs : List Column). length cs ≤ column_limit) made ok.few;
      differ = subst (λ (cs : List Column). Differ (column_names cs)) made ok.differ;
      alias = subst (λ (n : ℕ). IsWithinOption c.args.alias n)
          (sym (sym (ap length made) ∙ alias_length c.args.columns c.args.alias)) within;
    }
