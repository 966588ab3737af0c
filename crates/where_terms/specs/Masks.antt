-- The items that the keys of a term name, as the bits of a number: bit k stands for item k. No
-- statement has an item beyond 63.
use Rattle.std.specs.Prelude.{ℕ, List, [], ◌∷◌, ◌++◌, ◌^◌, cond, nat_lt, bit_or}
use Rattle.sql_meaning.specs.Expressions.{names}
use Rattle.sql_meaning.specs.Paths.{KeyExpr}
use Rattle.sql_meaning.specs.Terms.{TermKind, Equals, Within, IsNothing, Low, High}

abbrev pub marked : ℕ → ℕ → ℕ
marked mask item = cond (nat_lt item 64) (bit_or mask (2 ^ item)) mask

abbrev pub marked_all : ℕ → List ℕ → ℕ
marked_all mask [] = mask
marked_all mask (item ∷ items) = marked_all (marked mask item) items

abbrev pub key_names : List KeyExpr → List ℕ
key_names [] = []
key_names (key ∷ keys) = names key.expr ++ key_names keys

abbrev pub kind_names : TermKind → List ℕ
kind_names (Equals key) = names key.expr
kind_names (Within keys) = key_names keys
kind_names IsNothing = []
kind_names (Low key inclusive) = names key.expr
kind_names (High key inclusive) = names key.expr

abbrev pub kind_mask : TermKind → ℕ
kind_mask kind = marked_all 0 (kind_names kind)
