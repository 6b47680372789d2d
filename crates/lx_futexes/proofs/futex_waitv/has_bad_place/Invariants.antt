use Rattle.std.proofs.Common.{◌≡◌, ◌-◌}
use Rattle.std.specs.List.{list_any, range_with_len}
use Rattle.lx_machine.specs.FutexWaitv.{is_bad_place}
use Rattle.lx_futexes.proofs.futex_waitv.has_bad_place.Given as goal

-- none of those before is a bad one
abbrev pub invariant-loop-i : goal.invariant-loop-i
invariant-loop-i l = list_any (is_bad_place l.bytes) (range_with_len l.i (l.n - l.i)) ≡ list_any (is_bad_place l.bytes) (range_with_len 0 l.n)
