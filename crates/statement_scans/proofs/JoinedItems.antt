-- The items that terms name, one after the other.
use Rattle.std.proofs.Common.{◌≡◌, ◌<◌, ◌+◌, ◌-◌, ◌^◌, ◌==◌, ◌&&◌, ℕ, suc, Bool, true, false, not, cond}
use Rattle.std.proofs.Common.{List, [], ◌∷◌, ◌++◌, refl, ap, sym, ◌∙◌, arith, ◌≤◌}
use Rattle.std.proofs.lemmas.List.{append-nil}
use Rattle.std.proofs.lemmas.Bool.{eqb-true, ne_eqb}
use Rattle.std.proofs.lemmas.Nat.{pow_pos}
use Rattle.std.specs.List.{filter, flat_map}
use Rattle.list_laws.specs.FirstComing.{keep_first}
use Rattle.list_laws.proofs.Lists.{flat_map_same}
use Rattle.sql_meaning.specs.Statements.{numbers_from}
use Rattle.plan_choice.specs.Scans.{is_equality, column_at, same_column, if_any}
use Rattle.where_terms.specs.Views.{term_of}
use Rattle.where_terms.specs.declared.term.Term.{Term}
use Rattle.where_terms.proofs.Steps.{made_more}
use Rattle.statement_scans.specs.Asked.{column_asked, columns_asked, names_some, without}
use Rattle.statement_scans.specs.Asked.{join_if_any, joins_from}
use Rattle.statement_scans.specs.declared.asked.Asked.TheVariants.{Naming}

and_false : (b : Bool) → (b && false) ≡ false
and_false true = refl
and_false false = refl

-- what names no item isn't asked for by one that names some
none_named : (items : ℕ) (t : Term) → (t.others == 0) ≡ true → (0 == items) ≡ false
    → column_asked (Naming items) t ≡ []
none_named items t e n =
    let column = column_at (term_of t).column (term_of t) in
    ap (λ o. cond (is_equality (term_of t) && (o == items)) column []) (eqb-true t.others 0 e)
    ∙ ap (λ b. cond (is_equality (term_of t) && b) column []) n
    ∙ ap (λ b. cond b column []) (and_false (is_equality (term_of t)))

naming_case : (items : ℕ) (t : Term) (ts : List Term) (b : Bool) → (t.others == 0) ≡ b
    → (0 == items) ≡ false
    → columns_asked (Naming items) (cond (not b) (t ∷ ts) ts)
    ≡ column_asked (Naming items) t ++ columns_asked (Naming items) ts
naming_case items t ts true e n =
    ap (λ cs. cs ++ columns_asked (Naming items) ts) (sym (none_named items t e n))
naming_case items t ts false e n = refl

naming_same : (items : ℕ) (ts : List Term) → (0 == items) ≡ false
    → columns_asked (Naming items) (filter names_some ts) ≡ columns_asked (Naming items) ts
naming_same items [] n = refl
naming_same items (t ∷ ts) n =
    naming_case items t (filter names_some ts) (t.others == 0) refl n
    ∙ ap (λ cs. column_asked (Naming items) t ++ cs) (naming_same items ts n)

some_bit : (item : ℕ) → (0 == 2 ^ item) ≡ false
some_bit item = ne_eqb 0 (2 ^ item) (λ e. omega (arith, e, pow_pos item))

pub joins_same : (numbers : List ℕ) (ts : List Term) (count : ℕ)
    → joins_from numbers (filter names_some ts) count ≡ joins_from numbers ts count
joins_same numbers ts count =
    flat_map_same (join_if_any numbers (filter names_some ts)) (join_if_any numbers ts)
    (numbers_from 0 count)
    (λ item. ap (λ cs. if_any (without numbers (keep_first same_column [] cs)))
    (naming_same (2 ^ item) ts (some_bit item)))

-- one number further
pub number_more : {X : Type 0} (f : ℕ → List X) (n i : ℕ) (made more here whole : List X) → i < n
    → here ≡ f i → more ≡ made ++ here → made ++ flat_map f (numbers_from i (n - i)) ≡ whole
    → more ++ flat_map f (numbers_from (i + 1) (n - (i + 1))) ≡ whole
number_more {X} f n i made more here whole below is m h =
    let one : n - i ≡ suc (n - (i + 1)) = omega arith in
    made_more made here (flat_map f (numbers_from (i + 1) (n - (i + 1)))) more _ whole m
    (rw one (ap (λ (y : List X). y ++ flat_map f (numbers_from (i + 1) (n - (i + 1)))) (sym is))) h

-- after the last number
pub numbers_done : {X : Type 0} (f : ℕ → List X) (n i : ℕ) (made whole : List X) → n ≤ i
    → made ++ flat_map f (numbers_from i (n - i)) ≡ whole → made ≡ whole
numbers_done {X} f n i made whole above h =
    let none : n - i ≡ 0 = omega (arith, above) in
    sym (ap (λ k. made ++ flat_map f (numbers_from i k)) none ∙ append-nil made) ∙ h
