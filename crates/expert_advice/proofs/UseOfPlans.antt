-- Flags and the numbers that they show.
use Rattle.std.specs.List.{filter}
use Rattle.std.proofs.Common.{◌≡◌, ◌<◌, ◌≤◌, ℕ, zero, suc, ◌+◌, ◌-◌, Bool, true, false, ◌||◌, cond}
use Rattle.std.proofs.Common.{List, [], ◌∷◌, ◌++◌, length, get_or, refl, ap, sym, ◌∙◌, subst, arith}
use Rattle.list_laws.proofs.Lists.{filter_all}
use Rattle.sql_meaning.specs.Statements.{has_number, numbers_from}
use Rattle.sql_meaning.proofs.Plans.{has_all}
use Rattle.sql_meaning.specs.Plans.{Plan}
use Rattle.plan_choice.specs.Advice.{loops_use, some_plan_uses, used_of}
use Rattle.plan_choice.specs.Choice.{Chosen}
use Rattle.plan_choice.proofs.PlacedItems.{has_filter, has_from}
use Rattle.expert_advice.specs.Uses.{Marks, ShowUse}
use Rattle.expert_advice.proofs.Marking.{or_assoc, or_none}
use Rattle.expert_advice.proofs.Numbers.{numbers_next, numbers_past}

some_append : (i : ℕ) (xs ys : List Chosen)
    → some_plan_uses i (xs ++ ys) ≡ some_plan_uses i xs || some_plan_uses i ys
some_append i [] ys = refl
some_append i (x ∷ xs) ys =
    ap (λ (b : Bool). loops_use i x.plan.loops || b) (some_append i xs ys)
    ∙ sym (or_assoc (loops_use i x.plan.loops) (some_plan_uses i xs) (some_plan_uses i ys))

-- a number is among those that pass a test where it passes it
listed_case : (p : ℕ → Bool) (ns : List ℕ) (n : ℕ) (b h : Bool) → has_number n ns ≡ true
    → p n ≡ b → has_number n (filter p ns) ≡ h → has_number n (filter p ns) ≡ p n
listed_case p ns n true h there e f = has_filter p ns n e there ∙ sym e
listed_case p ns n false false there e f = f ∙ sym e
listed_case p ns n false true there e f =
    let yes = has_all (λ (m : ℕ). p m ≡ true) (filter p ns) n
    (filter_all (λ (m : ℕ). p m ≡ true) p ns (λ m t. t)) f in
    absurd (cc)

pub has_used : (own count : ℕ) (plans : List Chosen) (n : ℕ) → n < count
    → has_number n (used_of own count plans) ≡ some_plan_uses (own + n) plans
has_used own count plans n l =
    listed_case (λ (m : ℕ). some_plan_uses (own + m) plans) (numbers_from 0 count) n
    (some_plan_uses (own + n) plans) (has_number n (used_of own count plans))
    (has_from 0 count n (omega arith) (omega (arith, l))) refl refl

-- with the candidates of one plan more
pub shows_more : (old new : List Bool) (numbers : List ℕ)
    → Marks old new (λ n. has_number n numbers)
    → (own count : ℕ) (plans : List Chosen) (chosen : Chosen) → ShowUse old own count plans
    → numbers ≡ used_of own count (chosen ∷ [])
    → ShowUse new own count (plans ++ chosen ∷ [])
shows_more old new numbers m own count plans chosen s e = record {
  each = m.each ∙ s.each;
  exact = λ n l.
      m.exact n (subst (λ (k : ℕ). n < k) (sym s.each) l)
      ∙ ap (λ (b : Bool). b || has_number n numbers) (s.exact n l)
      ∙ ap (λ (ns : List ℕ). some_plan_uses (own + n) plans || has_number n ns) e
      ∙ ap (λ (b : Bool). some_plan_uses (own + n) plans || b)
      (has_used own count (chosen ∷ []) n l)
      ∙ sym (some_append (own + n) plans (chosen ∷ []));
}

-- the numbers from one on whose flags are set
abbrev pub set_from : List Bool → ℕ → List ℕ
set_from flags i = filter (λ n. get_or flags n false) (numbers_from i (length flags - i))

pub set_next : (flags : List Bool) (i : ℕ) (b : Bool) → i < length flags → get_or flags i false ≡ b
    → set_from flags i ≡ cond b (i ∷ set_from flags (i + 1)) (set_from flags (i + 1))
set_next flags i b l e =
    ap (filter (λ n. get_or flags n false)) (numbers_next i (length flags) l)
    ∙ ap (λ (c : Bool). cond c (i ∷ set_from flags (i + 1)) (set_from flags (i + 1))) e

pub set_here : (flags : List Bool) (i : ℕ) → i < length flags → get_or flags i false ≡ true
    → set_from flags i ≡ i ∷ set_from flags (i + 1)
set_here flags i l e = set_next flags i true l e

pub clear_here : (flags : List Bool) (i : ℕ) → i < length flags → get_or flags i false ≡ false
    → set_from flags i ≡ set_from flags (i + 1)
clear_here flags i l e = set_next flags i false l e

pub none_left : (flags : List Bool) (i : ℕ) → length flags ≤ i → set_from flags i ≡ []
none_left flags i l =
    ap (filter (λ n. get_or flags n false)) (numbers_past i (length flags) l)

same_filter : (p q : ℕ → Bool) (start count : ℕ)
    → ((n : ℕ) → start ≤ n → n < start + count → p n ≡ q n)
    → filter p (numbers_from start count) ≡ filter q (numbers_from start count)
same_filter p q start zero h = refl
same_filter p q start (suc count) h =
    let rest = same_filter p q (start + 1) count
    (λ n low high. h n (omega (arith, low)) (omega (arith, high))) in
    ap (λ (b : Bool). cond b (start ∷ filter p (numbers_from (start + 1) count))
    (filter p (numbers_from (start + 1) count))) (h start (omega arith) (omega arith))
    ∙ ap (λ (ns : List ℕ). cond (q start) (start ∷ ns) ns) rest

-- they are those that the plans use
pub set_are_used : (flags : List Bool) (own count : ℕ) (plans : List Chosen)
    → ShowUse flags own count plans → set_from flags 0 ≡ used_of own count plans
set_are_used flags own count plans s =
    let all : length flags - 0 ≡ count = omega (arith, s.each) in
    ap (λ (k : ℕ). filter (λ n. get_or flags n false) (numbers_from 0 k)) all
    ∙ same_filter (λ n. get_or flags n false) (λ n. some_plan_uses (own + n) plans) 0 count
    (λ n low high. s.exact n (omega (arith, high)))

-- of one plan alone
pub plan_shows : (old new : List Bool) (own count : ℕ) (plan : Plan) (chosen : Chosen)
    → chosen.plan ≡ plan → ShowUse old own count []
    → Marks old new (λ n. loops_use (own + n) plan.loops) → ShowUse new own count (chosen ∷ [])
plan_shows old new own count plan chosen e s m = record {
  each = m.each ∙ s.each;
  exact = λ n l.
      m.exact n (subst (λ (k : ℕ). n < k) (sym s.each) l)
      ∙ ap (λ (b : Bool). b || loops_use (own + n) plan.loops) (s.exact n l)
      ∙ ap (λ (p : Plan). loops_use (own + n) p.loops) (sym e)
      ∙ sym (or_none (loops_use (own + n) chosen.plan.loops));
}
