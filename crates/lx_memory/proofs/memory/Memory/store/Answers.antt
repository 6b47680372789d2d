use Rattle.lx_memory.proofs.Stored.{with_bytes-in_space}
use Rattle.lx_memory.proofs.memory.Memory.store.Goals as goal

pub invariant_of-self : goal.invariant_of-self
invariant_of-self c = rw c.store_pieces.ensures (with_bytes-in_space c.self.inside.pages.pages c.args.at c.args.bytes.now c.self.invariant)
