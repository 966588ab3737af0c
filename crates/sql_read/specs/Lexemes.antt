-- What lexemes are seen as: bytes in place of references.
use Rattle.std.specs.Prelude.{ℕ, Option, List, map}
use Rattle.sql_read.specs.declared.lexeme.Mark.{Mark}
use Rattle.sql_read.specs.declared.lexeme.Direction.{Direction}
use Rattle.sql_read.specs.declared.lexeme.Lexeme.{Lexeme as BorrowedLexeme}
use Rattle.sql_read.specs.declared.lexeme.Lexeme.TheVariants as borrowed

pub data Lexeme : Type 0 where
  Fixed : Mark → Lexeme
  Name : List ℕ → Option Direction → Lexeme
  Text : List ℕ → Lexeme
  Blob : List ℕ → Lexeme
  Int : ℕ → Lexeme
  Dec : ℕ → Lexeme
  Param : ℕ → Lexeme
  Other : Lexeme

abbrev pub lexeme_of : BorrowedLexeme → Lexeme
lexeme_of (borrowed.Fixed mark) = Fixed mark
lexeme_of (borrowed.Name bytes direction) = Name bytes.now direction
lexeme_of (borrowed.Text bytes) = Text bytes.now
lexeme_of (borrowed.Blob bytes) = Blob bytes.now
lexeme_of (borrowed.Int n) = Int n
lexeme_of (borrowed.Dec units) = Dec units
lexeme_of (borrowed.Param number) = Param number
lexeme_of borrowed.Other = Other

unfoldable pub seen : List BorrowedLexeme → List Lexeme
seen = map lexeme_of
