use Rattle.std.proofs.Common.{◌≡◌, ◌++◌, ◌-◌}
use Rattle.lx_machine.specs.Readv.{vectors}
use Rattle.lx_transfers.proofs.readv.read_vectors.Given as goal

-- the vectors so far, and those that are left
abbrev pub invariant-loop-i : goal.invariant-loop-i
invariant-loop-i l = l.pieces ++ vectors (l.fn.count - l.i) l.rest ≡ vectors l.fn.count l.fn.bytes
