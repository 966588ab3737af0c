use Rattle.std.specs.Prelude.{[]}
use Rattle.list_laws.proofs.Nests.{nested_in_order}
use Rattle.list_laws.proofs.WeighedNests.{nested_weighs}
use Rattle.list_laws.proofs.loops.loops_filter_the_product.Goals as goal

pub returns-clause-permuted : goal.returns-clause-permuted
returns-clause-permuted g c =
    λ free rows is_free asked loops order env re inside distinct steps.
    nested_in_order rows is_free asked loops order [] env re inside distinct tt steps

pub returns-clause-weighed : goal.returns-clause-weighed
returns-clause-weighed g c =
    λ free rows is_free asked loops order env re inside distinct steps.
    nested_weighs rows is_free asked loops order [] env re inside distinct tt steps
