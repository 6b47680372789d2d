use Rattle.std.proofs.Common.{◌≡◌, ◌-◌, find, not}
use Rattle.std.specs.List.{range_with_len}
use Rattle.lx_machine.specs.Queue.{is_place_queued}
use Rattle.lx_futexes.proofs.futex_waitv.released_place.Given as goal

-- none of those before was released
abbrev pub invariant-loop-place : goal.invariant-loop-place
invariant-loop-place l =
    find (λ i. not (is_place_queued l.tid i l.queue)) (range_with_len l.place (l.call.queued - l.place)) ≡ find (λ i. not (is_place_queued l.tid i l.queue)) (range_with_len 0 l.call.queued)
