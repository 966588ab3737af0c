use Rattle.std.proofs.Common.{◌≡◌, ◌≤◌, ℕ, Bool, false, ap, sym, ◌∙◌, subst, option_map, [], ◌∷◌}
use Rattle.sql_meaning.specs.Paths.{Path, is_union}
use Rattle.plan_form.specs.Paths.{edge_of, part_of, path_of}
use Rattle.plan_form.proofs.SeenPaths.{path_of-RowidEq, path_of-RowidRange}
use Rattle.plan_choice.specs.Costs as meant
use Rattle.plan_choice.specs.CostLaws.{SizeWithin}
use Rattle.plan_choice.specs.Figures.{Figures, table_rows}
use Rattle.plan_choice.proofs.CostBounds.{plain_size}
use Rattle.path_costs.specs.Views.{told_size}
use Rattle.path_costs.proofs.paths.plain_size.Goals as goal

is_small : (figures : Figures) (table : ℕ) (covering : Bool) (path : Path) (rows : ℕ)
    → rows ≡ table_rows figures table → rows ≤ 1000 → is_union path ≡ false
    → SizeWithin 100649 (meant.size_of figures table covering path)
is_small figures table covering path rows e h =
    plain_size figures table covering path (subst (λ n. n ≤ 1000) e h)

pub returns-in-RowidEq-clause-told : goal.returns-in-RowidEq-clause-told
returns-in-RowidEq-clause-told c =
    subst
    (λ p. c.rowid_size.result
    ≡ told_size (meant.size_of c.args.figures.now c.args.table c.args.covering p))
    (sym (ap path_of c.in-RowidEq.is ∙ path_of-RowidEq c.in-RowidEq.part))
    (c.rowid_size.ensures
    ∙ ap
    (λ rows. told_size
    (meant.sized meant.ByRowid rows (meant.rowid_entries rows (part_of c.in-RowidEq.part))
    (meant.seeks_of (part_of c.in-RowidEq.part ∷ [])))) c.table_rows-rows.ensures.told)

pub returns-in-RowidEq-clause-small : goal.returns-in-RowidEq-clause-small
returns-in-RowidEq-clause-small c =
    is_small c.args.figures.now c.args.table c.args.covering (path_of c.args.path.now)
    c.table_rows-rows.result c.table_rows-rows.ensures.told c.table_rows-rows.ensures.small
    c.requires

pub returns-in-RowidRange-clause-told : goal.returns-in-RowidRange-clause-told
returns-in-RowidRange-clause-told c =
    subst
    (λ p. c.range_size.result
    ≡ told_size (meant.size_of c.args.figures.now c.args.table c.args.covering p))
    (sym
    (ap path_of c.in-RowidRange.is ∙ path_of-RowidRange c.in-RowidRange.low c.in-RowidRange.high))
    (c.range_size.ensures
    ∙ ap
    (λ rows. told_size
    (meant.sized meant.ByRowid rows
    (meant.within_bounds (option_map edge_of c.in-RowidRange.low)
    (option_map edge_of c.in-RowidRange.high) rows) 0)) c.table_rows-rows.ensures.told)

pub returns-in-RowidRange-clause-small : goal.returns-in-RowidRange-clause-small
returns-in-RowidRange-clause-small c =
    is_small c.args.figures.now c.args.table c.args.covering (path_of c.args.path.now)
    c.table_rows-rows.result c.table_rows-rows.ensures.told c.table_rows-rows.ensures.small
    c.requires

pub returns-in-IndexSeek-clause-small : goal.returns-in-IndexSeek-clause-small
returns-in-IndexSeek-clause-small c =
    is_small c.args.figures.now c.args.table c.args.covering (path_of c.args.path.now)
    c.table_rows-rows.result c.table_rows-rows.ensures.told c.table_rows-rows.ensures.small
    c.requires
