-- Turns of the loops that walk the tree, and that add to it.
use Rattle.std.proofs.Common.{◌≡◌, ℕ, zero, suc, ◌+◌, ◌<◌, ◌≤◌, List, [], ◌∷◌, ◌++◌, length, drop}
use Rattle.std.proofs.Common.{get_or}
use Rattle.std.proofs.Common.{Option, Some, position, refl, ap, sym, ◌∙◌, subst, arith}
use Rattle.std.proofs.Common.{if◌then◌else◌}
use Rattle.std.specs.List.{list_any, position_or_len}
use Rattle.schema_model.specs.declared.indexes.IndexColumn.{IndexColumn}
use Rattle.candidate_index.specs.contracts.beginnings.StepPartialEq.TheImpl as of_steps
use Rattle.candidate_index.specs.declared.beginnings.Node.{Node}
use Rattle.candidate_index.specs.declared.beginnings.Node.TheVariants.{Behind}
use Rattle.candidate_index.specs.declared.beginnings.Step.{Step}
use Rattle.candidate_index.specs.Beginnings.{step_of, same_step, behind, leads, with_step}
use Rattle.candidate_index.specs.Beginnings.{with_steps, IsRooted, AreRooted}
use Rattle.candidate_index.proofs.StepEquality.{position_is, place_is, any_is}
use Rattle.candidate_index.proofs.Trees.{put_rooted, put_below}

pub drop_step : {X : Type 0} (xs : List X) (i : ℕ) (d : X) → i < length xs
    → drop i xs ≡ get_or xs i d ∷ drop (i + 1) xs
drop_step [] i d l = absurd (omega arith)
drop_step (x ∷ xs) zero d l = refl
drop_step {X} (x ∷ xs) (suc i) d l =
    let next : suc (i + 1) ≡ suc i + 1 = omega arith in
    drop_step xs i d (omega arith)
    ∙ ap (λ (k : ℕ). get_or xs i d ∷ drop k (x ∷ xs)) next

pub lead_on : (keys steps : List Step) (node : Node) (cs : List IndexColumn) (i : ℕ)
    (d : IndexColumn) (s : Step) (found : Option ℕ) (whole : Option Node) → keys ≡ steps
    → i < length cs → s ≡ step_of node (get_or cs i d)
    → found ≡ position ((of_steps.eq-value).it s) keys
    → leads steps (Some node) (drop i cs) ≡ whole
    → leads steps (behind found) (drop (i + 1) cs) ≡ whole
lead_on keys steps node cs i d s found whole seen l e f h =
    ap (λ (o : Option ℕ). leads steps (behind o) (drop (i + 1) cs))
    (f ∙ position_is s keys ∙ ap (λ (x : Step). position (same_step x) keys) e
    ∙ ap (λ (x : List Step). position (same_step (step_of node (get_or cs i d))) x) seen)
    ∙ ap (λ (x : List IndexColumn). leads steps (Some node) x) (sym (drop_step cs i d l)) ∙ h

-- a list that is put has come to a node, and the rest of it leads to the whole
pub record IsOn (keys : List Step) (node : Node) (rest : List IndexColumn) (whole : List Step)
    : Type 0 where
  pub rooted : AreRooted keys
  pub there : IsRooted (length keys) node
  pub same : with_steps keys node rest ≡ whole

pub put_on : (keys new : List Step) (node : Node) (cs : List IndexColumn) (i : ℕ)
    (d : IndexColumn) (s : Step) (number : ℕ) (whole : List Step) → i < length cs
    → s ≡ step_of node (get_or cs i d)
    → new ≡ (if list_any ((of_steps.eq-value).it s) keys then keys else keys ++ s ∷ [])
    → number ≡ position_or_len ((of_steps.eq-value).it s) keys
    → IsOn keys node (drop i cs) whole → IsOn new (Behind number) (drop (i + 1) cs) whole
put_on keys new node cs i d s number whole l e f g h =
    let t = step_of node (get_or cs i d) in
    let made : with_step keys t ≡ new =
    sym (f ∙ ap (λ b. if b then keys else keys ++ s ∷ []) (any_is s keys)
    ∙ ap (λ (x : Step). with_step keys x) e) in
    let place : position_or_len (same_step t) keys ≡ number =
    sym (g ∙ place_is s keys ∙ ap (λ (x : Step). position_or_len (same_step x) keys) e) in
    record {
      rooted = subst AreRooted made (put_rooted keys t h.rooted h.there);
      there = subst (λ (x : List Step). number < length x) made
          (subst (λ (n : ℕ). n < length (with_step keys t)) place (put_below keys t));
      same = ap (λ (x : List Step). with_steps x (Behind number) (drop (i + 1) cs)) (sym made)
          ∙ ap (λ (n : ℕ). with_steps (with_step keys t) (Behind n) (drop (i + 1) cs)) (sym place)
          ∙ ap (λ (x : List IndexColumn). with_steps keys node x) (sym (drop_step cs i d l))
          ∙ h.same;
    }

drop_none : {X : Type 0} (xs : List X) (i : ℕ) → length xs ≤ i → drop i xs ≡ []
drop_none [] zero l = refl
drop_none [] (suc i) l = refl
drop_none (x ∷ xs) zero l = absurd (omega arith)
drop_none (x ∷ xs) (suc i) l = drop_none xs i (omega arith)

pub put_done : (keys : List Step) (node : Node) (cs : List IndexColumn) (i : ℕ)
    (whole : List Step) → length cs ≤ i → IsOn keys node (drop i cs) whole → keys ≡ whole
put_done keys node cs i whole l h =
    sym (ap (λ (x : List IndexColumn). with_steps keys node x) (drop_none cs i l)) ∙ h.same
