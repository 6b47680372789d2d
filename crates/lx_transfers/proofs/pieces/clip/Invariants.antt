use Rattle.std.proofs.Common.{◌≡◌, ◌++◌, drop}
use Rattle.lx_machine.specs.Pieces.{clipped}
use Rattle.lx_transfers.proofs.pieces.clip.Given as goal

-- what has been clipped, and what is left of the pieces
abbrev pub invariant-loop-p : goal.invariant-loop-p
invariant-loop-p l = l.clipped ++ clipped l.left (drop l.p-index l.pieces) ≡ clipped l.fn.most l.pieces
