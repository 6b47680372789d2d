use Rattle.std.proofs.Common.{◌≡◌, ℕ, ◌+◌, ◌<◌, ◌≤◌}
use Rattle.lx_memory.specs.Gaps.{IsExecutableAt}
use Rattle.lx_memory.proofs.gaps.some_executable.Given as goal

abbrev pub invariant-loop-page : goal.invariant-loop-page
invariant-loop-page l = record {
  from : l.fn.first ≤ l.at;
  range : l.at + l.left ≡ l.fn.first + l.fn.count;
  none : (p : ℕ) → l.fn.first ≤ p → p < l.at → IsExecutableAt l.pages.pages p → ⊥;
}

abbrev pub decreases-loop-page : goal.decreases-loop-page
decreases-loop-page l = l.left
