use Rattle.std.proofs.Common.{◌≡◌, ◌≤◌, ◌+◌, ◌-◌, ◌^◌, min, drop}
use Rattle.lx_machine.specs.Pieces.{total}
use Rattle.lx_transfers.proofs.pieces.total.Given as goal

-- the lengths so far, with those of the pieces that are left
abbrev pub invariant-loop-p : goal.invariant-loop-p
invariant-loop-p l = (min (l.sum + total (drop l.p-index l.pieces)) (2 ^ 64 - 1) ≡ min (total l.pieces) (2 ^ 64 - 1)) × (l.sum ≤ 2 ^ 64 - 1)
