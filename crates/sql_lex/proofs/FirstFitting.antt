-- The first construct that stands somewhere, from those that are still wanted at each place.
use Rattle.std.proofs.Common.{◌≡◌, ℕ, zero, suc, ◌+◌, ◌≤◌, ◌<◌, cond, Bool, true, false, not, ◌||◌}
use Rattle.std.proofs.Common.{List, [], ◌∷◌, ◌++◌, Option, None, Some, length, drop, take, get_or}
use Rattle.std.proofs.Common.{drop_of_length-le, refl, ap, sym, subst, ◌∙◌, arith}
use Rattle.std.proofs.lemmas.List.Folds.{find-append}
use Rattle.std.specs.Prelude.{slice_get}
use Rattle.std.specs.List.{find, position_or_len}
use Rattle.std.specs.Option.{option_or}
use Rattle.sql_tokens.specs.declared.terminal.Terminal.{Terminal}
use Rattle.sql_tokens.specs.declared.terminal.Terminal.TheVariants as terminal
use Rattle.sql_lex.specs.Constructs.{constructs, has_construct}
use Rattle.sql_lex.specs.Patterns.{fits, lacks_from}
use Rattle.sql_lex.specs.Contexts.{context_of, context_behind, fits_in, somewhere}
use Rattle.sql_lex.specs.Rows.{has_row_value}
use Rattle.sql_lex.specs.declared.constructs.Foreign.{Foreign}
use Rattle.sql_lex.specs.declared.constructs.Foreign.TheVariants as foreign
use Rattle.sql_lex.specs.declared.first_construct.TheConstants.{EARLY, LATE}
use Rattle.sql_lex.specs.declared.contexts.Context.{Context}
use Rattle.sql_lex.proofs.Fronts.{first_behind}

-- of the first that passes one of two tests: those before it that pass the later test, or it
here_or_later :
    (here later : Foreign → Bool) (found : Option Foreign) (fs : List Foreign)
    → option_or (find later (take (position_or_len here fs) fs))
    (option_or (slice_get fs (position_or_len here fs)) found)
    ≡ option_or (find (λ f. here f || later f) fs) found
here_or_later here later found [] = refl
here_or_later here later found (f ∷ fs) =
    first (here f) (here_or_later here later found fs)
  where
    behind : (b : Bool)
        → option_or (find later (take (position_or_len here fs) fs))
        (option_or (slice_get fs (position_or_len here fs)) found)
        ≡ option_or (find (λ g. here g || later g) fs) found
        → option_or (cond b (Some f) (find later (take (position_or_len here fs) fs)))
        (option_or (slice_get fs (position_or_len here fs)) found)
        ≡ option_or (cond b (Some f) (find (λ g. here g || later g) fs)) found
    behind true more = refl
    behind false more = more

    first : (a : Bool)
        → option_or (find later (take (position_or_len here fs) fs))
        (option_or (slice_get fs (position_or_len here fs)) found)
        ≡ option_or (find (λ g. here g || later g) fs) found
        → option_or (find later (take (cond (not a) (1 + position_or_len here fs) 0) (f ∷ fs)))
        (option_or (slice_get (f ∷ fs) (cond (not a) (1 + position_or_len here fs) 0)) found)
        ≡ option_or (cond (a || later f) (Some f) (find (λ g. here g || later g) fs)) found
    first true more = refl
    first false more =
        let one : 1 + position_or_len here fs ≡ suc (position_or_len here fs) = omega arith in
        subst (λ n. option_or (find later (take n (f ∷ fs)))
        (option_or (slice_get (f ∷ fs) n) found)
        ≡ option_or (cond (later f) (Some f) (find (λ g. here g || later g) fs)) found)
        (sym one) (behind (later f) more)

-- the first that stands at one of these places, the first of which is behind `before`
abbrev pub first_in : Option Terminal → Option Terminal → List Terminal → List Foreign
    → Option Foreign
first_in first before ts fs = find (λ f. fits_in first before ts (fits f)) fs

turned :
    (t : Terminal) (ts : List Terminal) (fs fewer : List Foreign) (n : ℕ)
    (found more whole : Option Foreign) (first before : Option Terminal) (context : Context)
    (newest : Option Terminal)
    → context ≡ context_of first before (t ∷ ts)
    → n ≡ position_or_len (λ f. fits f context) fs
    → more ≡ option_or (slice_get fs n) found
    → fewer ≡ take n fs
    → newest ≡ slice_get ts 4
    → option_or (first_in first before (t ∷ ts) fs) found ≡ whole
    → (context_behind context newest ≡ context_of first context.here ts)
    × (option_or (first_in first context.here ts fewer) more ≡ whole)
turned t ts fs fewer n found more whole first before context newest at is so cut comes old =
    let here = context_of first before (t ∷ ts) in
    let number : n ≡ position_or_len (λ f. fits f here) fs =
    is ∙ ap (λ p. position_or_len (λ f. fits f p) fs) at in
    let P : Context → Type 0 = λ p.
    (context_behind p newest ≡ context_of first p.here ts)
    × (option_or (first_in first p.here ts fewer) more ≡ whole) in
    subst P (sym at) (
      ap (context_behind here) comes,
      rw (so, cut, number)
          (here_or_later (λ f. fits f here) (λ f. fits_in first (Some t) ts (fits f)) found fs
          ∙ old),
    )

-- before the loop
pub first_begin :
    (ts : List Terminal) (fs : List Foreign) (context : Context)
    → context ≡ context_of (slice_get ts 0) None ts
    → (context ≡ context_of (slice_get ts 0) context.before ts)
    × (option_or (first_in (slice_get ts 0) context.before ts fs) None
    ≡ find (λ f. somewhere (fits f) ts) fs)
first_begin ts fs context at =
    let first = slice_get ts 0 in
    let P : Context → Type 0 = λ p.
    (p ≡ context_of first p.before ts)
    × (option_or (first_in first p.before ts fs) None ≡ find (λ f. somewhere (fits f) ts) fs) in
    subst P (sym at) (refl, or_none _)
  where
    or_none : (o : Option Foreign) → option_or o None ≡ o
    or_none None = refl
    or_none (Some f) = refl

slice_get-drop : (ts : List Terminal) (k i : ℕ) → slice_get (drop k ts) i ≡ slice_get ts (k + i)
slice_get-drop ts zero i = let e : i ≡ 0 + i = omega arith in ap (slice_get ts) e
slice_get-drop [] (suc k) i = refl
slice_get-drop (t ∷ ts) (suc k) i =
    let e : suc k + i ≡ suc (k + i) = omega arith in
    slice_get-drop ts k i ∙ sym (ap (slice_get (t ∷ ts)) e)

-- one turn of the loop
pub first_turn :
    (ts : List Terminal) (i : ℕ) (fs fewer : List Foreign) (n : ℕ)
    (found more whole : Option Foreign) (first : Option Terminal) (context behind : Context)
    (newest : Option Terminal)
    → i < length ts
    → context ≡ context_of first context.before (drop i ts)
    → n ≡ position_or_len (λ f. fits f context) fs
    → more ≡ option_or (slice_get fs n) found
    → fewer ≡ take n fs
    → newest ≡ slice_get ts (i + 5)
    → behind ≡ context_behind context newest
    → option_or (first_in first context.before (drop i ts) fs) found ≡ whole
    → (behind ≡ context_of first behind.before (drop (i + 1) ts))
    × (option_or (first_in first behind.before (drop (i + 1) ts) fewer) more ≡ whole)
first_turn ts i fs fewer n found more whole first context behind newest lt at is so cut comes after
    old =
    let front = first_behind ts i terminal.Bad (get_or ts i terminal.Bad) lt refl in
    let far : i + 5 ≡ i + 1 + 4 = omega arith in
    let P : Context → Type 0 = λ p.
    (p ≡ context_of first p.before (drop (i + 1) ts))
    × (option_or (first_in first p.before (drop (i + 1) ts) fewer) more ≡ whole) in
    subst P (sym after)
    (turned (get_or ts i terminal.Bad) (drop (i + 1) ts) fs fewer n found more whole first
    context.before context newest
    (at ∙ ap (context_of first context.before) front) is so cut
    (comes ∙ ap (slice_get ts) far ∙ sym (slice_get-drop ts (i + 1) 4))
    (sym (ap (λ q. option_or (first_in first context.before q fs) found) front) ∙ old))

-- behind the loop
pub first_over :
    (ts : List Terminal) (i : ℕ) (fs : List Foreign) (found whole : Option Foreign)
    (first before : Option Terminal)
    → length ts ≤ i
    → option_or (first_in first before (drop i ts) fs) found ≡ whole
    → found ≡ whole
first_over ts i fs found whole first before ge h =
    sym (ap (λ o. option_or o found) (nowhere fs))
    ∙ sym (ap (λ q. option_or (first_in first before q fs) found) (drop_of_length-le ts ge)) ∙ h
  where
    nowhere : (gs : List Foreign) → first_in first before [] gs ≡ None
    nowhere [] = refl
    nowhere (g ∷ gs) = nowhere gs

-- the first of all, by the two runs of constructs that stand at one place
pub first_by_runs :
    (ts : List Terminal)
    → find (has_construct ts) constructs
    ≡ option_or (find (λ f. somewhere (fits f) ts) EARLY)
    (cond (has_row_value ts) (Some foreign.RowValue)
    (option_or (find (λ f. somewhere (fits f) ts) LATE)
    (cond (lacks_from ts) (Some foreign.SelectWithoutFrom) None)))
unfolding constructs
first_by_runs ts =
    find-append (has_construct ts) EARLY
    (foreign.RowValue ∷ (LATE ++ (foreign.SelectWithoutFrom ∷ [])))
    ∙ ap (λ o. option_or (find (has_construct ts) EARLY)
    (cond (has_row_value ts) (Some foreign.RowValue) o))
    (find-append (has_construct ts) LATE (foreign.SelectWithoutFrom ∷ []))

-- and by what each of these answered
pub first_is :
    (ts : List Terminal) (early late : Option Foreign) (row lacks : Bool)
    → early ≡ find (λ f. somewhere (fits f) ts) EARLY
    → row ≡ has_row_value ts
    → late ≡ find (λ f. somewhere (fits f) ts) LATE
    → lacks ≡ lacks_from ts
    → option_or early (cond row (Some foreign.RowValue)
    (option_or late (cond lacks (Some foreign.SelectWithoutFrom) None)))
    ≡ find (has_construct ts) constructs
first_is ts early late row lacks e r l k = rw (e, r, l, k) (sym (first_by_runs ts))
