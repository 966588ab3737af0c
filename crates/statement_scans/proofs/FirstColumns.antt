-- Columns at their first coming, by the numbers that came before.
use Rattle.std.proofs.Common.{◌≡◌, ℕ, Bool, true, false, cond, not, ◌||◌, ◌==◌, List, [], ◌∷◌, ◌++◌}
use Rattle.std.proofs.Common.{refl, ap, ap₂, sym, ◌∙◌, map, append_assoc, nat_eq, if◌then◌else◌}
use Rattle.std.proofs.lemmas.Bool.{eqb-true, eq-eqb}
use Rattle.std.proofs.lemmas.List.{map-append}
use Rattle.std.specs.List.{list_any}
use Rattle.list_laws.specs.FirstComing.{has, keep_first}
use Rattle.list_laws.proofs.Bools.{alike, or_turn}
use Rattle.sql_meaning.specs.Values.{Binary}
use Rattle.sql_meaning.specs.Schemas.{IndexColumn}
use Rattle.plan_choice.specs.Scans.{same_column}

abbrev column_of : ℕ → IndexColumn
column_of number = record { column = number; collation = Binary; falling = false }

-- columns of these numbers
abbrev pub columns_of : List ℕ → List IndexColumn
columns_of numbers = map column_of numbers

turned : (m n : ℕ) → (m == n) ≡ (n == m)
turned m n =
    alike (m == n) (n == m) (λ e. eq-eqb n m (sym (eqb-true m n e)))
    (λ e. eq-eqb m n (sym (eqb-true n m e)))

has_is : (numbers : List ℕ) (c : IndexColumn)
    → has same_column (columns_of numbers) c ≡ list_any (nat_eq c.column) numbers
has_is [] c = refl
has_is (n ∷ numbers) c = ap₂ (λ a b. a || b) (turned n c.column) (has_is numbers c)

-- what is kept depends on what the seen members have alone
keep_same : {X : Type 0} (E : X → X → Bool) (xs s t : List X)
    → ((v : X) → has E s v ≡ has E t v) → keep_first E s xs ≡ keep_first E t xs
keep_same E [] s t h = refl
keep_same {X} E (x ∷ xs) s t h =
    ap₂ (λ b (l : List X). cond b (keep_first E s xs) (x ∷ l)) (h x)
    (keep_same E xs (x ∷ s) (x ∷ t) (λ v. ap (λ b. E x v || b) (h v)))
    ∙ ap (λ (l : List X). cond (has E t x) l (x ∷ keep_first E (x ∷ t) xs)) (keep_same E xs s t h)

has_end : {X : Type 0} (E : X → X → Bool) (xs : List X) (y v : X)
    → has E (xs ++ y ∷ []) v ≡ has E (y ∷ xs) v
has_end E [] y v = refl
has_end E (x ∷ xs) y v =
    ap (λ b. E x v || b) (has_end E xs y v) ∙ or_turn (E x v) (E y v) (has E xs v)

seen_same : (numbers : List ℕ) (c : IndexColumn) (cs : List IndexColumn)
    → keep_first same_column (c ∷ columns_of numbers) cs
    ≡ keep_first same_column (columns_of (numbers ++ c.column ∷ [])) cs
seen_same numbers c cs =
    keep_same same_column cs (c ∷ columns_of numbers) (columns_of (numbers ++ c.column ∷ []))
    (λ v. sym (has_end same_column (columns_of numbers) (column_of c.column) v)
    ∙ ap (λ l. has same_column l v) (sym (map-append column_of numbers (c.column ∷ []))))

turn : (b : Bool) (numbers : List ℕ) (made cs whole : List IndexColumn) (c : IndexColumn)
    → made
    ++ cond b (keep_first same_column (columns_of numbers) cs)
    (c ∷ keep_first same_column (c ∷ columns_of numbers) cs) ≡ whole
    → (made ++ cond (not b) (c ∷ []) [])
    ++ keep_first same_column
    (columns_of (if b then numbers else numbers ++ c.column ∷ [])) cs ≡ whole
turn true numbers made cs whole c h = append_assoc made [] _ ∙ h
turn false numbers made cs whole c h =
    append_assoc made (c ∷ []) _
    ∙ ap (λ l. made ++ c ∷ l) (sym (seen_same numbers c cs)) ∙ h

-- one column further
pub column_more : (numbers after : List ℕ) (new : Bool) (made more cs whole : List IndexColumn)
    (c : IndexColumn)
    → new ≡ not (list_any (nat_eq c.column) numbers)
    → after ≡ (if list_any (nat_eq c.column) numbers then numbers else numbers ++ c.column ∷ [])
    → more ≡ made ++ cond new (c ∷ []) []
    → made ++ keep_first same_column (columns_of numbers) (c ∷ cs) ≡ whole
    → more ++ keep_first same_column (columns_of after) cs ≡ whole
column_more numbers after new made more cs whole c is keys pushed h =
    ap₂ (λ l ks. l ++ keep_first same_column (columns_of ks) cs)
    (pushed ∙ ap (λ b. made ++ cond b (c ∷ []) []) is) keys
    ∙ turn (list_any (nat_eq c.column) numbers) numbers made cs whole c
    (ap
    (λ b. made
    ++ cond b (keep_first same_column (columns_of numbers) cs)
    (c ∷ keep_first same_column (c ∷ columns_of numbers) cs)) (sym (has_is numbers c)) ∙ h)
