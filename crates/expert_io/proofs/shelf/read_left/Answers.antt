use Rattle.std.proofs.Common.{◌≤◌, arith, length, ℕ}
use Rattle.std.proofs.lemmas.List.{length-take}
use Rattle.expert_io.proofs.Shelves.{front_taken}
use Rattle.expert_io.proofs.shelf.read_left.Goals as goal

pub returns-then-n-room-clause-too_large : goal.returns-then-n-room-clause-too_large
returns-then-n-room-clause-too_large g c = λ _.
    let room : length c.read.new.buf ≤ c.min-want.result =
    omega (arith, c.read.auto.buf, length-take {A = ℕ}) in
    front_taken (g.F.Shelf.left c.args.shelf.now) (g.F.Shelf.left c.loop-n.shelf) _
    c.loop-n.bytes c.read.new.buf c.in-Ok.n c.args.limit c.loop-n.invariant.3
    c.in-Ok.ensures.bytes.0 c.in-Ok.ensures.bound.0 (omega (arith, c.in-Ok.ensures.bound.0))
