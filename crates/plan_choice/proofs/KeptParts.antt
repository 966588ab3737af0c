-- The order state goes on from loop to loop, and terms depend on the schema's tables alone.
use Rattle.std.proofs.Common.{[], ◌∷◌, refl}
use Rattle.std.proofs.lemmas.List.Sums.{fold-append}
use Rattle.sql_meaning.specs.OrderState.{open_for, pass_loop}
use Rattle.plan_choice.specs.KeptLaws.{StatesGoOn, TermsAreOfTables}

pub states_go_on : StatesGoOn
states_go_on = λ schema bound loops loop keys.
    fold-append (pass_loop schema bound) (open_for keys) loops (loop ∷ [])

pub terms_are_of_tables : TermsAreOfTables
terms_are_of_tables = λ r statement. refl
