-- Results noted under their aliases.
use Rattle.std.proofs.Common.{◌≡◌, ℕ, Bool, true, false, cond, Option, Some, None, is_some}
use Rattle.std.proofs.Common.{option_map}
use Rattle.std.proofs.Common.{List, [], ◌∷◌, ◌++◌, refl, ap, sym, subst, ◌∙◌}
use Rattle.std.proofs.Common.{true≢false, ◌+◌, ◌<◌, length, get_or, take}
use Rattle.std.specs.Borrow.{Bor}
use Rattle.std.specs.Global.{Vec}
use Rattle.std.specs.List.{find}
use Rattle.std.specs.Map.{lookup}
use Rattle.std.specs.Option.{option_or}
use Rattle.std.specs.Cmp.Lexicographic.{same_text}
use Rattle.std.proofs.lemmas.List.{take_more, map_push}
use Rattle.std.proofs.lemmas.List.Folds.{find-append}
use Rattle.sql_meaning.specs.Letters.{folded_bytes}
use Rattle.sql_meaning.specs.Expressions as plain
use Rattle.schema_model.specs.Names.{is_name}
use Rattle.sql_bound.specs.declared.expression.BExpr.{BExpr}
use Rattle.sql_bound.specs.Expressions.{expr_of}
use Rattle.sql_bind.specs.Results.{ResultColumn}
use Rattle.sql_bind.specs.Keys.{is_called}
use Rattle.sql_bind.specs.declared.results.ResultColumn as declared
use Rattle.sql_bind.specs.Views.{exprs_under, HasAliases, result_of, results_seen}

abbrev called : List ℕ → ResultColumn → Bool
called name r = is_called name r.alias

lookup_step : {X : Type 0} (b : Bool) (x : X) (found pushed last : Option X)
    → pushed ≡ option_or found last
    → cond b (Some x) pushed ≡ option_or (cond b (Some x) found) last
lookup_step true x found pushed last h = refl
lookup_step false x found pushed last h = h

lookup_push : {K X : Type 0} (test : K → Bool) (es : List (K × X)) (e : K × X)
    → lookup test (es ++ e ∷ []) ≡ option_or (lookup test es) (cond (test e.0) (Some e.1) None)
lookup_push test [] e = refl
lookup_push test (f ∷ es) e = lookup_step (test f.0) f.1 _ _ _ (lookup_push test es e)

find_last : (name : List ℕ) (results : List ResultColumn) (r : ResultColumn)
    → find (called name) (results ++ r ∷ [])
    ≡ option_or (find (called name) results) (cond (called name r) (Some r) None)
find_last name results r = find-append (called name) results (r ∷ [])

earlier : {E R : Type 0} (f : R → E) (b : Bool) (found : Option E) (first : Option R) (r : R)
    → found ≡ option_map f first → (b ≡ true → is_some found ≡ true)
    → found ≡ option_map f (option_or first (cond b (Some r) None))
earlier f b found (Some x) r h there = h
earlier f false found None r h there = h
earlier f true found None r h there =
    absurd (true≢false (sym (there refl) ∙ ap (λ o. is_some o) h))

both_last : {A R E : Type 0} (e : A → E) (f : R → E) (b : Bool) (found : Option A)
    (first : Option R) (a : A) (r : R) → option_map e found ≡ option_map f first → e a ≡ f r
    → option_map e (option_or found (cond b (Some a) None))
    ≡ option_map f (option_or first (cond b (Some r) None))
both_last e f b (Some x) (Some y) a r h same = h
both_last e f b (Some x) None a r h same = absurd (cc)
both_last e f b None (Some y) a r h same = absurd (cc)
both_last e f true None None a r h same = ap Some same
both_last e f false None None a r h same = refl

module _ (entries : List (Vec ℕ × Bor BExpr)) (results : List ResultColumn)
    (kept : HasAliases entries results) where
  -- an earlier result has the alias
  pub noted_earlier : (alias : List ℕ) (expr : Bor BExpr)
      → is_some (exprs_under entries (folded_bytes alias)) ≡ true → HasAliases entries
      (results ++ record { expr = expr_of expr.now; alias = Some alias } ∷ [])
  noted_earlier alias expr there name =
      let r : ResultColumn = record { expr = expr_of expr.now; alias = Some alias } in
      earlier (λ r. r.expr) (is_name name (folded_bytes alias)) (exprs_under entries name)
      (find (called name) results) r (kept name)
      (λ same.
      subst (λ (n : List ℕ). is_some (exprs_under entries n) ≡ true)
      (sym (same_text name (folded_bytes alias) (sym same))) there)
      ∙ ap (option_map (λ r. r.expr)) (sym (find_last name results r))

  pub noted_last : (alias : List ℕ) (expr : Bor BExpr) (key : Vec ℕ)
      → key.items ≡ folded_bytes alias
      → HasAliases (entries ++ (key, expr) ∷ [])
      (results ++ record { expr = expr_of expr.now; alias = Some alias } ∷ [])
  noted_last alias expr key is name =
      let r : ResultColumn = record { expr = expr_of expr.now; alias = Some alias } in
      ap (option_map (λ e. expr_of e.now))
      (lookup_push (λ k. is_name name k.items) entries (key, expr))
      ∙ ap
      (λ n. option_map (λ e. expr_of e.now)
      (option_or (lookup (λ k. is_name name k.items) entries)
      (cond (is_name name n) (Some expr) None)))
      is
      ∙ both_last (λ e. expr_of e.now) (λ r. r.expr) (is_name name (folded_bytes alias))
      (lookup (λ k. is_name name k.items) entries) (find (called name) results) expr r (kept name)
      refl
      ∙ ap (option_map (λ r. r.expr)) (sym (find_last name results r))

  -- a result without an alias
  noted_nothing : (e : plain.BExpr)
      → HasAliases entries (results ++ record { expr = e; alias = None } ∷ [])
  noted_nothing e name =
      let r : ResultColumn = record { expr = e; alias = None } in
      earlier (λ r. r.expr) false (exprs_under entries name) (find (called name) results) r
      (kept name) (λ same. absurd (true≢false (sym same)))
      ∙ ap (option_map (λ r. r.expr)) (sym (find_last name results r))

none_if : {A : Type 0} (o : Option A) → ((a : A) → o ≡ Some a → ⊥) → o ≡ None
none_if None h = refl
none_if (Some a) h = absurd (h a refl)

pub is_mapped : {A E : Type 0} (e : A → E) (found : Option A)
    → is_some (option_map e found) ≡ is_some found
is_mapped e None = refl
is_mapped e (Some a) = refl

seen_more : (columns : List declared.ResultColumn) (i : ℕ) (d : declared.ResultColumn)
    → i < length columns
    → results_seen (take (i + 1) columns)
    ≡ results_seen (take i columns) ++ result_of (get_or columns i d) ∷ []
seen_more columns i d below =
    ap results_seen (take_more columns i d below)
    ∙ map_push result_of (take i columns) (get_or columns i d)

-- a turn of the loop over results
module _ (entries : List (Vec ℕ × Bor BExpr)) (columns : List declared.ResultColumn) (i : ℕ)
    (d : declared.ResultColumn) (below : i < length columns) where
  alias_turn : HasAliases entries
      (results_seen (take i columns) ++ result_of (get_or columns i d) ∷ [])
      → HasAliases entries (results_seen (take (i + 1) columns))
  alias_turn h = subst (HasAliases entries) (sym (seen_more columns i d below)) h

  pub turn_named : (alias : Bor (List ℕ)) → (get_or columns i d).alias ≡ Some alias
      → HasAliases entries
      (results_seen (take i columns)
      ++ record { expr = expr_of (get_or columns i d).expr.now; alias = Some alias.now } ∷ [])
      → HasAliases entries (results_seen (take (i + 1) columns))
  turn_named alias is h = alias_turn (rw is h)

  pub turn_unnamed : ((alias : Bor (List ℕ)) → (get_or columns i d).alias ≡ Some alias → ⊥)
      → HasAliases entries (results_seen (take i columns))
      → HasAliases entries (results_seen (take (i + 1) columns))
  turn_unnamed none kept =
      alias_turn
      (rw (none_if (get_or columns i d).alias none)
      (noted_nothing entries (results_seen (take i columns)) kept
      (expr_of (get_or columns i d).expr.now)))
