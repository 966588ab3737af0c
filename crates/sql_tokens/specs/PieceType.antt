-- The type of pieces, for the laws of other crates.
use Rattle.sql_tokens.specs.declared.pieces.Piece.{Piece as DeclaredPiece}

abbrev pub Piece : Type 0
Piece = DeclaredPiece
