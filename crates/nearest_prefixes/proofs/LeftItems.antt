-- Items to the left, one after the other.
use Rattle.std.specs.List.{filter}
use Rattle.std.proofs.Common.{◌≡◌, ◌<◌, ◌≤◌, ◌-◌, ◌+◌, ◌&&◌, ◌||◌, not, ℕ, suc, Bool, true}
use Rattle.std.proofs.Common.{false, cond, List, [], ◌∷◌, sym, ap, ◌∙◌, arith}
use Rattle.sql_meaning.specs.Statements.{all_in, has_number, numbers_from}

-- the first of the numbers from a up to b
pub numbers_more : (a b : ℕ) → a < b
    → numbers_from a (b - a) ≡ a ∷ numbers_from (a + 1) (b - (a + 1))
numbers_more a b l =
    let n : b - a ≡ suc (b - (a + 1)) = omega (arith, l) in ap (numbers_from a) n

pub none_left : (a b : ℕ) → b ≤ a → numbers_from a (b - a) ≡ []
none_left a b l = let n : b - a ≡ 0 = omega (arith, l) in ap (numbers_from a) n

-- one that is there
pub all_more : (a b : ℕ) (items : List ℕ) (all : Bool) → a < b → has_number a items ≡ true
    → all_in (numbers_from a (b - a)) items ≡ all
    → all_in (numbers_from (a + 1) (b - (a + 1))) items ≡ all
all_more a b items all l here e =
    sym (ap (λ h. h && all_in (numbers_from (a + 1) (b - (a + 1))) items) here)
    ∙ sym (ap (λ ns. all_in ns items) (numbers_more a b l)) ∙ e

-- one that isn't
pub all_stops : (a b : ℕ) (items : List ℕ) (all : Bool) → a < b → has_number a items ≡ false
    → all_in (numbers_from a (b - a)) items ≡ all → false ≡ all
all_stops a b items all l here e =
    sym (ap (λ h. h && all_in (numbers_from (a + 1) (b - (a + 1))) items) here)
    ∙ sym (ap (λ ns. all_in ns items) (numbers_more a b l)) ∙ e

some_case : (a : ℕ) (ns items : List ℕ) (wanted here settled : Bool) → has_number a items ≡ here
    → (not wanted || here) ≡ settled
    → all_in (cond wanted (a ∷ ns) ns) items ≡ (settled && all_in ns items)
some_case a ns items true here settled h e = ap (λ b. b && all_in ns items) (h ∙ e)
some_case a ns items false here settled h e = ap (λ b. b && all_in ns items) e

some_first : (wanted : ℕ → Bool) (a b : ℕ) (items : List ℕ) (here settled : Bool) → a < b
    → has_number a items ≡ here → (not (wanted a) || here) ≡ settled
    → all_in (filter wanted (numbers_from a (b - a))) items
    ≡ (settled && all_in (filter wanted (numbers_from (a + 1) (b - (a + 1)))) items)
some_first wanted a b items here settled l h e =
    ap (λ ns. all_in (filter wanted ns) items) (numbers_more a b l)
    ∙ some_case a (filter wanted (numbers_from (a + 1) (b - (a + 1)))) items (wanted a) here
    settled h e

-- of those that are wanted
pub some_more : (wanted : ℕ → Bool) (a b : ℕ) (items : List ℕ) (here all : Bool) → a < b
    → has_number a items ≡ here → (not (wanted a) || here) ≡ true
    → all_in (filter wanted (numbers_from a (b - a))) items ≡ all
    → all_in (filter wanted (numbers_from (a + 1) (b - (a + 1)))) items ≡ all
some_more wanted a b items here all l h e k =
    sym (some_first wanted a b items here true l h e) ∙ k

pub some_stops : (wanted : ℕ → Bool) (a b : ℕ) (items : List ℕ) (here all : Bool) → a < b
    → has_number a items ≡ here → (not (wanted a) || here) ≡ false
    → all_in (filter wanted (numbers_from a (b - a))) items ≡ all → false ≡ all
some_stops wanted a b items here all l h e k =
    sym (some_first wanted a b items here false l h e) ∙ k
