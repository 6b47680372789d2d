use Rattle.std.proofs.Common.{◌≡◌, ◌++◌, drop}
use Rattle.lx_call_steps.proofs.pieces.copied.Given as goal

-- what has been copied, and what is left of the pieces
abbrev pub invariant-loop-p : goal.invariant-loop-p
invariant-loop-p l = l.copy ++ drop l.p-index l.pieces ≡ l.pieces
