use Rattle.sql_bound.proofs.Fitting.{fits_with_indexes}
use Rattle.sql_bound.proofs.statement.added_indexes_keep_fits.Goals as goal

pub returns : goal.returns
returns c = fits_with_indexes
