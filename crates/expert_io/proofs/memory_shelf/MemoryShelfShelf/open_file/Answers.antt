use Rattle.std.proofs.Common.{rules}
use Rattle.expert_io.proofs.Shelves.{opened_at}
use Rattle.expert_io.proofs.memory_shelf.MemoryShelfShelf.open_file.Goals as goal

pub returns-clause-opened : goal.returns-clause-opened
returns-clause-opened c =
    rw (← c.self.view_is)
    (opened_at c.self.inside.files _ _ (search rules) c.place_of-place.ensures)
