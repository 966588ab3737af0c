-- The owners of conjuncts: items of LEFT JOINs, to whose right their conjuncts name nothing.
use Rattle.std.proofs.Common.{◌≡◌, ◌≤◌, ◌+◌, ℕ, suc, Bool, true, false, Option, None, Some}
use Rattle.std.proofs.Common.{List, [], ◌∷◌, ◌++◌, map, flat_map, refl, ap, sym, subst, ◌∙◌, arith}
use Rattle.std.specs.List.{AllByRecursion, slice_get}
use Rattle.std.proofs.lemmas.Option.{slice_get-map}
use Rattle.sql_meaning.specs.Expressions.{BExpr, BExprs, All, Nil, More, names, all_names, flat}
use Rattle.sql_meaning.specs.Expressions.{flat_all}
use Rattle.sql_meaning.specs.Statements.{Conjunct, left_item}
use Rattle.sql_tree.specs.Trees.{Tree}
use Rattle.sql_tree.specs.Statements.{SourceTree}
use Rattle.schema_model.specs.PlainSchemas.{plain_schema}
use Rattle.schema_model.specs.Schemas.{Schema}
use Rattle.sql_bound.specs.Fits.{IsSound, StaysLeft}
use Rattle.sql_names.specs.declared.faults.BindFault.{BindFault}
use Rattle.sql_names.specs.Faults.{first_failing}
use Rattle.sql_names.specs.Scopes.{Scope, IsScope}
use Rattle.sql_names.specs.Binding.{bound, expr_checks}
use Rattle.sql_names.proofs.Checks.{passed_both}
use Rattle.sql_names.proofs.Stays.{bound_stays}
use Rattle.sql_bind.specs.Sources.{scope_of, named_item}
use Rattle.sql_bind.specs.Conditions.{NumberedSource, numbered_from, owner_if, owner_of, with_owner}
use Rattle.sql_bind.specs.Conditions.{condition_checks, on_checks, ons_checks, terms_of, on_terms}
use Rattle.sql_bind.specs.Conditions.{ons_terms}
use Rattle.list_laws.proofs.Lists.{all_append, all_both, all_flat_map, all_map, all_mapped}
use Rattle.sql_bind.proofs.SoundParts.{terms_sound}

parted : (P : ℕ → Type 0) (xs ys : List ℕ) → AllByRecursion P (xs ++ ys)
    → AllByRecursion P xs × AllByRecursion P ys
parted P [] ys h = (tt, h)
parted P (x ∷ xs) ys h = let rest = parted P xs ys h.1 in ((h.0, rest.0), rest.1)

-- what holds of each item that an AND names holds of each that a member of it names
mutual
  flat_names : (P : ℕ → Type 0) (e : BExpr) → AllByRecursion P (names e)
      → AllByRecursion (λ f. AllByRecursion P (names f)) (flat e)
  flat_names P (All es) h = all_flat_names P es h
  flat_names P e h = (h, tt)

  all_flat_names : (P : ℕ → Type 0) (es : BExprs) → AllByRecursion P (all_names es)
      → AllByRecursion (λ f. AllByRecursion P (names f)) (flat_all es)
  all_flat_names P Nil h = tt
  all_flat_names P (More e es) h =
      let h2 = parted P (names e) (all_names es) h in
      all_append (λ f. AllByRecursion P (names f)) (flat e) (flat_all es) (flat_names P e h2.0)
      (all_flat_names P es h2.1)

-- each part passes where they pass together
all_passed : {X : Type 0} (checks : X → List (Option BindFault)) (xs : List X)
    → first_failing (flat_map checks xs) ≡ None
    → AllByRecursion (λ x. first_failing (checks x) ≡ None) xs
all_passed checks [] h = tt
all_passed checks (x ∷ xs) h =
    let both = passed_both (checks x) (flat_map checks xs) h in
    (both.0, all_passed checks xs both.1)

-- a numbered source stands at its number
numbered_at : (sources all : List SourceTree) (n : ℕ)
    → ((k : ℕ) → slice_get all (n + k) ≡ slice_get sources k)
    → AllByRecursion (λ s. slice_get all s.item ≡ Some s.source) (numbered_from n sources)
numbered_at [] all n h = tt
numbered_at (source ∷ sources) all n h =
    let here : n + 0 ≡ n = omega arith in (
      ap (slice_get all) (sym here) ∙ h 0,
      numbered_at sources all (n + 1) (λ k.
          (let next : (n + 1) + k ≡ n + suc k = omega arith in
          ap (slice_get all) next ∙ h (suc k))),
    )

owner_left : (left : Bool) (item owner : ℕ) → owner_if left item ≡ Some owner
    → (left ≡ true) × (item ≡ owner)
owner_left true item owner is = (refl, cc)
owner_left false item owner is = absurd (cc)

-- a sound expression, whose owner is a LEFT item, to the right of which it names nothing
pub record Kept (scope : Scope) (c : Conjunct) : Type 0 where
  pub sound : IsSound (plain_schema scope.schema) scope.items c.expr
  pub left : (owner : ℕ) → c.owner ≡ Some owner → left_item (slice_get scope.items owner) ≡ true
  pub stays : StaysLeft c

abbrev OwnsLeft : Scope → Option ℕ → Type 0
OwnsLeft scope owner =
    (item : ℕ) → owner ≡ Some item → left_item (slice_get scope.items item) ≡ true

module _ (scope : Scope) (ok : IsScope scope) where
  stays_where : (owner : Option ℕ) (tree : Tree)
      → first_failing (expr_checks scope owner tree) ≡ None
      → AllByRecursion (λ e. StaysLeft (with_owner owner e)) (flat (bound scope tree))
  stays_where None tree h =
      all_map (IsSound (plain_schema scope.schema) scope.items)
      (λ e. StaysLeft (with_owner None e)) (flat (bound scope tree))
      (λ e sound owner is. absurd (cc)) (terms_sound scope ok tree)
  stays_where (Some item) tree h =
      all_map (λ e. AllByRecursion (λ named. named ≤ item) (names e))
      (λ e. StaysLeft (with_owner (Some item) e)) (flat (bound scope tree)) (λ e stays owner is.
      (let same : item ≡ owner = cc in
      subst (λ (n : ℕ). AllByRecursion (λ named. named ≤ n) (names e)) same stays))
      (flat_names (λ named. named ≤ item) (bound scope tree) (bound_stays scope item tree ok h))

  pub condition_kept : (owner : Option ℕ) (on : Option Tree) → OwnsLeft scope owner
      → first_failing (condition_checks scope owner on) ≡ None
      → AllByRecursion (Kept scope) (terms_of scope owner on)
  condition_kept owner None left h = tt
  condition_kept owner (Some tree) left h =
      all_mapped (Kept scope) (with_owner owner) (flat (bound scope tree))
      (all_both (IsSound (plain_schema scope.schema) scope.items)
      (λ e. StaysLeft (with_owner owner e)) (λ e. Kept scope (with_owner owner e))
      (flat (bound scope tree))
      (λ e sound stays. record { sound = sound; left = left; stays = stays }) (terms_sound scope ok tree) (stays_where owner tree h))

left_at : (schema : Schema) (sources : List SourceTree) (s : NumberedSource)
    → slice_get sources s.item ≡ Some s.source → OwnsLeft (scope_of schema sources) (owner_of s)
left_at schema sources s at owner is =
    let e = owner_left s.source.left s.item owner is in
    rw (
      ← e.1,
      slice_get-map (λ n. n.item) (map (named_item schema) sources),
      slice_get-map (named_item schema) sources,
      at,
    ) e.0

pub ons_kept : (schema : Schema) (sources : List SourceTree)
    → IsScope (scope_of schema sources)
    → first_failing (ons_checks (scope_of schema sources) sources) ≡ None
    → AllByRecursion (Kept (scope_of schema sources)) (ons_terms (scope_of schema sources) sources)
ons_kept schema sources ok h =
    let scope = scope_of schema sources in
    let list = numbered_from 0 sources in
    all_flat_map (Kept scope) (on_terms scope) list
    (all_both (λ s. slice_get sources s.item ≡ Some s.source)
    (λ s. first_failing (on_checks scope s) ≡ None)
    (λ s. AllByRecursion (Kept scope) (on_terms scope s)) list
    (λ s at passes. condition_kept scope ok (owner_of s) s.source.on (left_at schema sources s at)
    passes)
    (numbered_at sources sources 0 (λ k.
    (let same : 0 + k ≡ k = omega arith in ap (slice_get sources) same)))
    (all_passed (on_checks scope) list h))

pub filter_kept : (scope : Scope) (filter : Option Tree) → IsScope scope
    → first_failing (condition_checks scope None filter) ≡ None
    → AllByRecursion (Kept scope) (terms_of scope None filter)
filter_kept scope filter ok h = condition_kept scope ok None filter (λ item is. absurd (cc)) h
