-- Reading: from a list of lexemes what stands at its front and the lexemes behind that, or nothing.
use Rattle.std.specs.Prelude.{◌≡◌, ℕ, suc, zero, Bool, Option, None, Some, Result, Ok, Err, List}
use Rattle.std.specs.Prelude.{[], ◌∷◌, ◌++◌, length, if◌then◌else◌}
use denote.Enum.Bare.{sameb}
use Rattle.sql_read.specs.contracts.lexeme.Mark.{the_type}
use Rattle.sql_read.specs.declared.lexeme.Mark.{Mark}
use Rattle.sql_read.specs.declared.lexeme.DescentFault.{DescentFault}
use Rattle.sql_read.specs.declared.lexeme.DescentFault.TheVariants as fault
use Rattle.sql_read.specs.Lexemes.{Lexeme}
use Rattle.sql_read.specs.Lexemes as lexeme

infixl 10 ◌>>=◌
abbrev pub ◌>>=◌ : {A B : Type 0} → Option A → (A → Option B) → Option B
None >>= f = None
(Some a) >>= f = f a

-- the first where there is nothing, and else the second of what there is
abbrev pub branch : {A B : Type 0} → Option A → B → (A → B) → B
branch None b f = b
branch (Some a) b f = f a

abbrev pub Read : Type 0 → Type 0
Read A = Option (A × List Lexeme)

abbrev pub Reader : Type 0 → Type 0
Reader A = List Lexeme → Read A

-- What a function returned, seen by view, is what reading gives, unless memory ran out.
abbrev pub Fails : {Y : Type 0} → DescentFault → Option Y → Type 0
Fails fault.Syntax read = read ≡ None
Fails fault.Memory read = Unit {0}

abbrev pub Gives : {X Y : Type 0} → (X → Y) → Result X DescentFault → Option Y → Type 0
Gives view (Ok x) read = read ≡ Some (view x)
Gives view (Err e) read = Fails e read

unfoldable pub same_mark : Mark → Mark → Bool
same_mark = sameb the_type

-- the lexemes behind this mark, where they begin with it
unfoldable pub after : Mark → List Lexeme → Option (List Lexeme)
after m [] = None
after m (lexeme.Fixed first ∷ rest) = if same_mark first m then Some rest else None
after m (lexeme.Name bytes direction ∷ rest) = None
after m (lexeme.Text bytes ∷ rest) = None
after m (lexeme.Blob bytes ∷ rest) = None
after m (lexeme.Int n ∷ rest) = None
after m (lexeme.Dec units ∷ rest) = None
after m (lexeme.Param number ∷ rest) = None
after m (lexeme.Other ∷ rest) = None

-- the lexemes behind this mark, or all of them where they don't begin with it
unfoldable pub past : Mark → List Lexeme → List Lexeme
past m ts = branch (after m ts) ts (λ r. r)

-- a name at the front
unfoldable pub name_at : Reader (List ℕ)
name_at [] = None
name_at (lexeme.Fixed first ∷ rest) = None
name_at (lexeme.Name bytes direction ∷ rest) = Some (bytes, rest)
name_at (lexeme.Text bytes ∷ rest) = None
name_at (lexeme.Blob bytes ∷ rest) = None
name_at (lexeme.Int n ∷ rest) = None
name_at (lexeme.Dec units ∷ rest) = None
name_at (lexeme.Param number ∷ rest) = None
name_at (lexeme.Other ∷ rest) = None

abbrev pub with_front : {A : Type 0} → List A → Read (List A) → Read (List A)
with_front front read = read >>= λ xs. Some (front ++ xs.0, xs.1)

-- up to n more members, each where start finds that one follows
unfoldable pub more_at : {A : Type 0} → (List Lexeme → Option (List Lexeme)) → Reader A → ℕ
    → Reader (List A)
more_at start p zero ts = Some ([], ts)
more_at start p (suc n) ts =
    branch (start ts) (Some ([], ts)) (λ r. p r >>= λ x.
    with_front (x.0 ∷ []) (more_at start p n x.1))

-- a first member, and then as many more as there are
unfoldable pub list_at : {A : Type 0} → Reader A → (List Lexeme → Option (List Lexeme)) → Reader A
    → Reader (List A)
list_at first start p ts =
    first ts >>= λ x. with_front (x.0 ∷ []) (more_at start p (length x.1) x.1)
