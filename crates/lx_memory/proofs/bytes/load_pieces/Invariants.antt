use Rattle.std.proofs.Common.{◌≡◌, ℕ, ◌+◌, ◌-◌, ◌<◌, ◌≤◌, length, get_or}
use Rattle.lx_memory.specs.Bytes.{byte_at}
use Rattle.lx_memory.proofs.bytes.load_pieces.Given as goal

abbrev pub invariant-loop-done : goal.invariant-loop-done
invariant-loop-done l = record {
  within : l.done ≤ length l.into;
  loaded : (k : ℕ) → k < l.done → get_or l.into k 0 ≡ byte_at l.pages.pages (l.fn.at + k);
}

abbrev pub decreases-loop-done : goal.decreases-loop-done
decreases-loop-done l = length l.initial.into - l.done
