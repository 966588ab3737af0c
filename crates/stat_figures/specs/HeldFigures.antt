-- Figures as plain data.
use Rattle.plan_choice.specs.Figures.{Figures}
use Rattle.plan_choice.specs.FigureLaws.{AreSmall}
use Rattle.stat_figures.specs.declared.held.Figures.TheInside.{Inside}

abbrev pub plain_figures : Inside → Figures
plain_figures f = record {
  tables = f.tables.items;
  indexes = f.indexes;
  counted = f.counted;
  unordered = f.unordered;
}

abbrev pub HoldsSmall : Inside → Type 0
HoldsSmall f = AreSmall (plain_figures f)
