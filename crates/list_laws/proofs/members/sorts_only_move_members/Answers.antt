use Rattle.list_laws.proofs.Orders.{Ascends-sort_by}
use Rattle.list_laws.proofs.StableSorts.{sort_by_is_stable, sort_by_is_the_only}
use Rattle.list_laws.proofs.Permuted.{IsPermutation-sort_by}
use Rattle.list_laws.proofs.members.sorts_only_move_members.Goals as goal

pub returns-clause-ordered : goal.returns-clause-ordered
returns-clause-ordered g c = λ cmp order xs. Ascends-sort_by order xs

pub returns-clause-kept : goal.returns-clause-kept
returns-clause-kept g c = IsPermutation-sort_by

pub returns-clause-stable : goal.returns-clause-stable
returns-clause-stable g c = λ cmp order xs. sort_by_is_stable order xs

pub returns-clause-only : goal.returns-clause-only
returns-clause-only g c = λ cmp order xs ys sorted stable.
    sort_by_is_the_only order xs ys sorted stable
