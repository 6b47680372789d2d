use Rattle.std.proofs.Common.{◌≡◌, ℕ, ◌+◌, ◌<◌, ◌≤◌, true}
use Rattle.std.specs.FinMap as finite
use Rattle.lx_memory.specs.Access.{allows, has}
use Rattle.lx_memory.proofs.right.page_without.Given as goal

abbrev pub invariant-loop-i : goal.invariant-loop-i
invariant-loop-i l = (p : ℕ) → l.fn.first ≤ p → p < l.fn.first + l.i → has (allows l.fn.right) (finite.get l.pages.pages p) ≡ true
