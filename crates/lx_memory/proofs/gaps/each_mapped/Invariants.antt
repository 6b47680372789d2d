use Rattle.std.proofs.Common.{ℕ, ◌+◌, ◌<◌, ◌≤◌, IsSome}
use Rattle.std.specs.FinMap as finite
use Rattle.lx_memory.proofs.gaps.each_mapped.Given as goal

abbrev pub invariant-loop-i : goal.invariant-loop-i
invariant-loop-i l = (p : ℕ) → l.fn.first ≤ p → p < l.fn.first + l.i → IsSome (finite.get l.pages.pages p)
