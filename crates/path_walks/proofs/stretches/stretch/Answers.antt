use Rattle.std.proofs.Common.{List, subst, sym}
use Rattle.list_laws.specs.Stretch.{Rises}
use Rattle.sql_meaning.specs.Rows.{Row}
use Rattle.index_lists.specs.Lent.{lent_rows}
use Rattle.path_walks.specs.Sides.{stands_on}
use Rattle.path_walks.proofs.Halving.{Rises-drop_while}
use Rattle.path_walks.proofs.stretches.stretch.Goals as goal

pub take_until-requires : goal.take_until-requires
take_until-requires c =
    subst (λ (rows : List Row). Rises (stands_on c.args.past) rows) (sym c.drop_while.ensures)
    (Rises-drop_while (stands_on c.args.before) (stands_on c.args.past) (lent_rows c.args.rows.now)
    c.requires.past)
