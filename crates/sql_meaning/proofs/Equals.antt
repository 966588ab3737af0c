-- A test of equality for rows.
use Rattle.std.specs.Cmp.{signed_Decides}
use Rattle.std.proofs.Common.{Bool, true, false, ◌&&◌, List, [], ◌∷◌, Option, Some, None, ◌≡◌, refl}
use Rattle.std.proofs.Common.{ap₂, ap, ℤ, int_eq, ℕ, ◌==◌}
use Rattle.std.proofs.lemmas.Bool.{eq-eqb, eqb-true}
use Rattle.list_laws.proofs.Bools.{and_left, and_right, both_true}
use Rattle.sql_meaning.specs.Values.{Value, Null, Int, Dec, Text, Blob}
use Rattle.sql_meaning.specs.Rows.{Row}

abbrev pub list_eq : {X : Type 0} → (X → X → Bool) → List X → List X → Bool
list_eq E [] [] = true
list_eq E [] (y ∷ ys) = false
list_eq E (x ∷ xs) [] = false
list_eq E (x ∷ xs) (y ∷ ys) = E x y && list_eq E xs ys

abbrev pub option_eq : {X : Type 0} → (X → X → Bool) → Option X → Option X → Bool
option_eq E None None = true
option_eq E None (Some y) = false
option_eq E (Some x) None = false
option_eq E (Some x) (Some y) = E x y

list_true : {X : Type 0} (E : X → X → Bool) → ((x y : X) → E x y ≡ true → x ≡ y) → (xs ys : List X)
    → list_eq E xs ys ≡ true → xs ≡ ys
list_true E f [] [] h = refl
list_true E f [] (y ∷ ys) h = absurd (cc)
list_true E f (x ∷ xs) [] h = absurd (cc)
list_true E f (x ∷ xs) (y ∷ ys) h =
    ap₂ (λ z zs. z ∷ zs) (f x y (and_left _ (list_eq E xs ys) h))
    (list_true E f xs ys (and_right (E x y) _ h))

list_itself : {X : Type 0} (E : X → X → Bool) → ((x : X) → E x x ≡ true) → (xs : List X)
    → list_eq E xs xs ≡ true
list_itself E f [] = refl
list_itself E f (x ∷ xs) = both_true _ _ (f x) (list_itself E f xs)

option_true : {X : Type 0} (E : X → X → Bool) → ((x y : X) → E x y ≡ true → x ≡ y)
    → (x y : Option X) → option_eq E x y ≡ true → x ≡ y
option_true E f None None h = refl
option_true E f None (Some y) h = absurd (cc)
option_true E f (Some x) None h = absurd (cc)
option_true E f (Some x) (Some y) h = ap Some (f x y h)

option_itself : {X : Type 0} (E : X → X → Bool) → ((x : X) → E x x ≡ true) → (x : Option X)
    → option_eq E x x ≡ true
option_itself E f None = refl
option_itself E f (Some x) = f x

int_eq_true : (m n : ℤ) → int_eq m n ≡ true → m ≡ n
int_eq_true m n h = (signed_Decides m n).0 h

int_eq_itself : (n : ℤ) → int_eq n n ≡ true
int_eq_itself n = (signed_Decides n n).1 refl

nat_itself : (n : ℕ) → (n == n) ≡ true
nat_itself n = eq-eqb n n refl

abbrev pub value_eq : Value → Value → Bool
value_eq Null Null = true
value_eq (Int m) (Int n) = int_eq m n
value_eq (Dec m) (Dec n) = int_eq m n
value_eq (Text m) (Text n) = list_eq (λ x y. x == y) m n
value_eq (Blob m) (Blob n) = list_eq (λ x y. x == y) m n
value_eq v w = false

value_true : (v w : Value) → value_eq v w ≡ true → v ≡ w
value_true Null Null h = refl
value_true Null (Int n) h = absurd (cc)
value_true Null (Dec n) h = absurd (cc)
value_true Null (Text n) h = absurd (cc)
value_true Null (Blob n) h = absurd (cc)
value_true (Int m) Null h = absurd (cc)
value_true (Int m) (Int n) h = ap Int (int_eq_true m n h)
value_true (Int m) (Dec n) h = absurd (cc)
value_true (Int m) (Text n) h = absurd (cc)
value_true (Int m) (Blob n) h = absurd (cc)
value_true (Dec m) Null h = absurd (cc)
value_true (Dec m) (Int n) h = absurd (cc)
value_true (Dec m) (Dec n) h = ap Dec (int_eq_true m n h)
value_true (Dec m) (Text n) h = absurd (cc)
value_true (Dec m) (Blob n) h = absurd (cc)
value_true (Text m) Null h = absurd (cc)
value_true (Text m) (Int n) h = absurd (cc)
value_true (Text m) (Dec n) h = absurd (cc)
value_true (Text m) (Text n) h = ap Text (list_true _ eqb-true m n h)
value_true (Text m) (Blob n) h = absurd (cc)
value_true (Blob m) Null h = absurd (cc)
value_true (Blob m) (Int n) h = absurd (cc)
value_true (Blob m) (Dec n) h = absurd (cc)
value_true (Blob m) (Text n) h = absurd (cc)
value_true (Blob m) (Blob n) h = ap Blob (list_true _ eqb-true m n h)

value_itself : (v : Value) → value_eq v v ≡ true
value_itself Null = refl
value_itself (Int n) = int_eq_itself n
value_itself (Dec n) = int_eq_itself n
value_itself (Text n) = list_itself _ nat_itself n
value_itself (Blob n) = list_itself _ nat_itself n

abbrev pub row_eq : Row → Row → Bool
row_eq x y = int_eq x.rowid y.rowid && list_eq value_eq x.values y.values

pub row_true : (x y : Row) → row_eq x y ≡ true → x ≡ y
row_true x y h =
    ap₂ (λ r vs. record { rowid = r; values = vs })
    (int_eq_true x.rowid y.rowid (and_left _ (list_eq value_eq x.values y.values) h))
    (list_true value_eq value_true x.values y.values (and_right (int_eq x.rowid y.rowid) _ h))

pub row_itself : (x : Row) → row_eq x x ≡ true
row_itself x = both_true _ _ (int_eq_itself x.rowid) (list_itself value_eq value_itself x.values)

-- rows that stand in an assignment: of a table, or the missing one
abbrev pub placed_eq : Option Row → Option Row → Bool
placed_eq = option_eq row_eq

pub placed_true : (x y : Option Row) → placed_eq x y ≡ true → x ≡ y
placed_true x y h = option_true _ row_true x y h

pub placed_itself : (x : Option Row) → placed_eq x x ≡ true
placed_itself x = option_itself _ row_itself x
