use Rattle.token_laws.proofs.Doubling.{undoubled-doubled, quoted_value-doubled}
use Rattle.token_laws.proofs.values.quoted_texts_mean_what_was_written.Goals as goal

pub returns-clause-undone : goal.returns-clause-undone
returns-clause-undone c = undoubled-doubled

pub returns-clause-meant : goal.returns-clause-meant
returns-clause-meant c = quoted_value-doubled
