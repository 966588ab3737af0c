-- Plans of statements one after another: each means its statement, and their candidates are marked.
use Rattle.std.specs.List.{AllByRecursion}
use Rattle.std.proofs.Common.{◌≡◌, ◌-◌, ◌+◌, ◌++◌, ℕ, Bool, List, [], ◌∷◌, sym, ap, ◌∙◌, subst}
use Rattle.std.proofs.Common.{append-nil, append_assoc, arith, length, map, Option}
use Rattle.std.proofs.lemmas.List.{map-append}
use Rattle.list_laws.proofs.Lists.{all_append}
use Rattle.plan_choice.specs.Advice.{used_of}
use Rattle.plan_choice.specs.Choice.{Chosen}
use Rattle.plan_choice.specs.Settings.{Statement}
use Rattle.expert_advice.specs.Uses.{ShowUse}
use Rattle.expert_advice.specs.declared.planned.PlannedStatement.{PlannedStatement}
use Rattle.expert_report.specs.Planning.{EachPlanMeans, IsMeant, MarksOf, MarksPlans, plan_over}
use Rattle.expert_report.specs.Planning.{planned_for}
use Rattle.expert_report.specs.Readings.{ScriptStatement, bound_in, bound_if_any}
use Rattle.expert_report.specs.declared.planning.Ground.{Ground}
use Rattle.expert_report.proofs.Rests.{flat_append}

pub marks_none : (g : Ground) (flags : List Bool) → MarksOf g flags flags []
marks_none g flags = record {
  marks = λ count plans many shows.
      subst (λ (ps : List Chosen). ShowUse flags (length g.own.now.indexes) count ps)
      (sym (append-nil plans)) shows;
}

-- the candidates of one plan
pub marks_one : (g : Ground) (st : Statement) (aliases : List (Option (List ℕ)))
    (planned : PlannedStatement) (numbers : List ℕ) (old new : List Bool)
    → planned ≡ planned_for g st aliases → numbers ≡ planned.fresh
    → ((own count : ℕ) (plans : List Chosen) (chosen : Chosen) → ShowUse old own count plans
    → numbers ≡ used_of own count (chosen ∷ []) → ShowUse new own count (plans ++ chosen ∷ []))
    → MarksOf g old new (st ∷ [])
marks_one g st aliases planned numbers old new told are mark = record {
  marks = λ count plans many shows.
      let own = length g.own.now.indexes in
      let all = length g.full.now.indexes in
      let plan = plan_over g st in
      let rest : all - own ≡ count = omega (arith, many) in
      mark own count plans plan shows
      (are ∙ ap (λ (p : PlannedStatement). p.fresh) told
      ∙ ap (λ (n : ℕ). used_of own n (plan ∷ [])) rest);
}

pub marks_then : (g : Ground) (a b c : List Bool) (xs ys : List ScriptStatement)
    → MarksPlans g a b xs → MarksPlans g b c ys → MarksPlans g a c (xs ++ ys)
marks_then g a b c xs ys h k = record {
  marks = λ count plans many shows.
      let plan = plan_over g in
      subst (λ (ps : List Chosen). ShowUse c (length g.own.now.indexes) count ps)
      (append_assoc plans (map plan (bound_in xs)) (map plan (bound_in ys))
      ∙ ap (λ (ps : List Chosen). plans ++ ps)
      (sym (map-append plan (bound_in xs) (bound_in ys))
      ∙ ap (map plan) (sym (flat_append (λ (s : ScriptStatement). bound_if_any s.reading) xs ys))))
      (k.marks count (plans ++ map plan (bound_in xs)) many (h.marks count plans many shows));
}

pub means_then : (g : Ground) (xs ys : List ScriptStatement) → EachPlanMeans g xs
    → EachPlanMeans g ys → EachPlanMeans g (xs ++ ys)
means_then g xs ys h k =
    subst (AllByRecursion (IsMeant g))
    (sym (flat_append (λ (s : ScriptStatement). bound_if_any s.reading) xs ys))
    (all_append (IsMeant g) (bound_in xs) (bound_in ys) h k)

-- of one statement
pub marks_first : (g : Ground) (a b : List Bool) (s : ScriptStatement)
    → MarksOf g a b (bound_if_any s.reading) → MarksPlans g a b (s ∷ [])
marks_first g a b s h = subst (MarksOf g a b) (sym (append-nil (bound_if_any s.reading))) h

pub means_first : (g : Ground) (s : ScriptStatement)
    → AllByRecursion (IsMeant g) (bound_if_any s.reading) → EachPlanMeans g (s ∷ [])
means_first g s h =
    subst (AllByRecursion (IsMeant g)) (sym (append-nil (bound_if_any s.reading))) h
