-- What the calls of a list's loop do, each against the part of the grammar that it stands for.
use Rattle.std.specs.Prelude.{◌≡◌, Option, None, Some, Result, List, MatchOption}
use Rattle.std.specs.Borrow.{Bor}
use Rattle.sql_read.specs.declared.lexeme.DescentFault.{DescentFault}
use Rattle.sql_read.specs.declared.lexeme.Lexeme.{Lexeme as BorrowedLexeme}
use Rattle.sql_read.specs.Lexemes.{Lexeme, seen}
use Rattle.sql_read.specs.Reading.{Reader, Gives}

abbrev pub Left : Type 0
Left = Bor (List BorrowedLexeme)

-- each result is what the reader gives, with its member seen as a tree
abbrev pub Reads : {T A : Type 0} → (T → A) → (Left → Result (T × Left) DescentFault → Type 0)
    → Reader A → Type 0
Reads tree post reader =
    (left : Left) (r : _) → post left r → Gives (λ x. (tree x.0, seen x.1.now)) r
    (reader (seen left.now))

-- each result is the lexemes that start finds, or nothing where it finds none
abbrev pub Finds : (Left → Option Left → Type 0) → (List Lexeme → Option (List Lexeme)) → Type 0
Finds post start =
    (left : Left) (r : _) → post left r →
    MatchOption r (start (seen left.now) ≡ None) (λ x. start (seen left.now) ≡ Some (seen x.now))
