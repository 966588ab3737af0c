use Rattle.expert_io.proofs.Shelves.{read_at}
use Rattle.expert_io.proofs.memory_shelf.MemoryShelfShelf.read.Goals as goal

pub returns-clause-bytes : goal.returns-clause-bytes
returns-clause-bytes c =
    rw (← c.self.view_is)
    (read_at
    c.self.inside.files c.self.inside.current c.self.inside.at _ _ _
    c.rest_of-rest.ensures.rest c.give-n.ensures.bytes c.give-n.ensures.none)
