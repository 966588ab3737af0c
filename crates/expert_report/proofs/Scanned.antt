-- Scans of statements one after another.
use Rattle.std.proofs.Common.{◌≡◌, ◌++◌, List, [], ◌∷◌, sym, ap, ◌∙◌, subst}
use Rattle.std.proofs.Common.{append-nil, append_assoc}
use Rattle.plan_choice.specs.Scans as meant
use Rattle.plan_choice.specs.Settings.{Statement}
use Rattle.schema_model.specs.PlainSchemas.{plain_schema}
use Rattle.schema_model.specs.Schemas.{Schema}
use Rattle.candidate_index.specs.Scans.{scans_of}
use Rattle.candidate_index.specs.declared.asked.Scan.{Scan}
use Rattle.expert_report.specs.Planning.{AddsScans, asked_by}
use Rattle.expert_report.specs.Readings.{ScriptStatement, bound_in, bound_if_any}
use Rattle.expert_report.proofs.Rests.{flat_append}

pub adds_none : (schema : Schema) (made : List (List Scan)) → AddsScans schema made made []
adds_none schema made = record { scans_are = sym (append-nil (scans_of made)); sound = λ h. h }

pub adds_then : (schema : Schema) (a b c : List (List Scan)) (xs ys : List ScriptStatement)
    → AddsScans schema a b (bound_in xs) → AddsScans schema b c (bound_in ys)
    → AddsScans schema a c (bound_in (xs ++ ys))
adds_then schema a b c xs ys h k =
    let plain = plain_schema schema in
    let asked = λ (st : Statement). meant.scans plain st.bound in
    record {
      scans_are = k.scans_are
          ∙ ap (λ zs. zs ++ asked_by plain (bound_in ys)) h.scans_are
          ∙ append_assoc (scans_of a) _ _
          ∙ ap (λ zs. scans_of a ++ zs)
          (sym (flat_append asked (bound_in xs) (bound_in ys))
          ∙ ap (asked_by plain)
          (sym (flat_append (λ (s : ScriptStatement). bound_if_any s.reading) xs ys)));
      sound = λ all. k.sound (h.sound all);
    }

pub adds_first : (schema : Schema) (a b : List (List Scan)) (s : ScriptStatement)
    → AddsScans schema a b (bound_if_any s.reading) → AddsScans schema a b (bound_in (s ∷ []))
adds_first schema a b s h =
    subst (AddsScans schema a b) (sym (append-nil (bound_if_any s.reading))) h
