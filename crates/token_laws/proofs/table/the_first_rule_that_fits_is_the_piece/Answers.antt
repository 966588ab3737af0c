use Rattle.std.proofs.Common.{◌∷◌}
use Rattle.sql_tokens.specs.Pieces.{piece_at}
use Rattle.token_laws.specs.Table.{table}
use Rattle.token_laws.proofs.FirstRules.{piece_first}
use Rattle.token_laws.proofs.OneLength.{one_length}
use Rattle.token_laws.proofs.OnePiece.{one_piece}
use Rattle.token_laws.proofs.table.the_first_rule_that_fits_is_the_piece.Goals as goal

pub returns-clause-first : goal.returns-clause-first
returns-clause-first c = piece_first

pub returns-clause-only : goal.returns-clause-only
returns-clause-only c =
    λ b bs p h. one_piece table (b ∷ bs) p (piece_at (b ∷ bs)) h (piece_first b bs)

pub returns-clause-one_length : goal.returns-clause-one_length
returns-clause-one_length c = one_length
