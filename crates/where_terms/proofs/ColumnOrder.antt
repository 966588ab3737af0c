-- The order of columns is total.
use Rattle.std.specs.Cmp.{IsTotalOrder}
use Rattle.std.proofs.lemmas.Cmp.{on_total, then_total, nat_cmp_total}
use Rattle.sql_meaning.specs.Expressions.{ColumnRef}
use Rattle.sql_meaning.specs.TermLists.{ref_cmp, site_number}

pub ref_total : IsTotalOrder ref_cmp
ref_total =
    then_total (on_total (λ (c : ColumnRef). c.item) nat_cmp_total)
    (on_total (λ (c : ColumnRef). site_number c.site) nat_cmp_total)
