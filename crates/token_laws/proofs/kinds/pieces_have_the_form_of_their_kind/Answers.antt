use Rattle.std.proofs.Common.{None, Some}
use Rattle.sql_tokens.specs.declared.token.TokenKind.TheVariants as kind
use Rattle.token_laws.proofs.KindForms.{of_kind}
use Rattle.token_laws.proofs.kinds.pieces_have_the_form_of_their_kind.Goals as goal

pub returns-clause-skipped : goal.returns-clause-skipped
returns-clause-skipped c = of_kind None

pub returns-clause-words : goal.returns-clause-words
returns-clause-words c = of_kind (Some kind.Word)

pub returns-clause-numbers : goal.returns-clause-numbers
returns-clause-numbers c = of_kind (Some kind.Number)

pub returns-clause-texts : goal.returns-clause-texts
returns-clause-texts c = of_kind (Some kind.Text)

pub returns-clause-quoted_names : goal.returns-clause-quoted_names
returns-clause-quoted_names c = of_kind (Some kind.Quoted)

pub returns-clause-blobs : goal.returns-clause-blobs
returns-clause-blobs c = of_kind (Some kind.Blob)

pub returns-clause-parameters : goal.returns-clause-parameters
returns-clause-parameters c = of_kind (Some kind.Parameter)

pub returns-clause-symbols : goal.returns-clause-symbols
returns-clause-symbols c = of_kind (Some kind.Symbol)

pub returns-clause-bad : goal.returns-clause-bad
returns-clause-bad c = of_kind (Some kind.Bad)
