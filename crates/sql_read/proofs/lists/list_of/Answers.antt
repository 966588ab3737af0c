use Rattle.std.proofs.Common.{map, Err}
use Rattle.std.proofs.lemmas.Result.{err_from_is_err_and}
use Rattle.std.proofs.lemmas.List.{map_push}
use Rattle.sql_read.specs.Lexemes.{seen}
use Rattle.sql_read.specs.Reading.{list_at}
use Rattle.sql_read.proofs.Members.{begins, begins_not, goes_on, fails, is_done, is_through}
use Rattle.sql_read.proofs.lists.list_of.Goals as goal
use Rattle.sql_read.proofs.lists.list_of.Goals.{else-members-test, then-members-test+in_default}

pub returns-in_err-first_read : goal.returns-in_err-first_read
returns-in_err-first_read g c first start next firsts starts nexts =
    let f = err_from_is_err_and c.from_residual.result c.from_residual.ensures.1 in
    rw (f.1, f.2) (begins_not first start next (seen c.args.lexemes.now)
    c.in_err-first_read.field-0.0
    (firsts c.args.lexemes (Err c.in_err-first_read.field-0.0) c.in_err-first_read.ensures))

pub members-init : goal.members-init
members-init g c first start next firsts starts nexts =
    begins first start next (seen c.args.lexemes.now)
    (seen c.in_ok-first_read.rest.now) c.count_left-most.result
    (g.T.Member.tree c.in_ok-first_read.first_read) _
    (firsts c.args.lexemes _ c.in_ok-first_read.ensures) c.count_left-most.ensures
    (rw (c.in_ok-push.ensures.ok, c.new-list.ensures.items))

pub returns-in_err-next : goal.returns-in_err-next
returns-in_err-next g c first start next firsts starts nexts =
    let f = err_from_is_err_and c.from_residual-in_err-next.result
    c.from_residual-in_err-next.ensures.1 in
    rw (f.1, f.2) (fails first start next (map g.T.Member.tree c.members.list.items)
    c.members.counter _
    (seen c.members.rest.now) (list_at first start next (seen c.args.lexemes.now))
    (c.members.invariant first start next firsts starts nexts)
    (seen c.in-Some.behind.now) c.in_err-next.field-0.0 c.members-test.true
    (starts c.members.rest _ c.in-Some.ensures)
    (nexts c.in-Some.behind (Err c.in_err-next.field-0.0) c.in_err-next.ensures))

pub members-preserved : goal.members-preserved
members-preserved g c first start next firsts starts nexts =
    goes_on first start next (map g.T.Member.tree c.members.list.items) c.members.counter _
    (seen c.members.rest.now) (list_at first start next (seen c.args.lexemes.now))
    (c.members.invariant first start next firsts starts nexts)
    (seen c.in-Some.behind.now) (seen c.in_ok-next.left.now) (g.T.Member.tree c.in_ok-next.next) _
    c.members-test.true (starts c.members.rest _ c.in-Some.ensures)
    (nexts c.in-Some.behind _ c.in_ok-next.ensures)
    (rw c.in_ok-push-2.ensures.ok (map_push _ c.members.list.items c.in_ok-next.next))

pub returns : goal.returns
returns g c first start next firsts starts nexts =
    let whole = list_at first start next (seen c.args.lexemes.now) in
    let kept = c.members.invariant first start next firsts starts nexts in
    elim c.members-test.branch [
      | else-members-test w ↦
          is_through first start next (map g.T.Member.tree c.members.list.items) c.members.counter _
          (seen c.members.rest.now) whole kept w.members-test.false
      | then-members-test+in_default w ↦
          is_done first start next (map g.T.Member.tree c.members.list.items) c.members.counter _
          (seen c.members.rest.now) whole kept (starts c.members.rest _ w.in_default.ensures)
    ]
