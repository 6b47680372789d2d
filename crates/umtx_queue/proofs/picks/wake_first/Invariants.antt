use Rattle.std.proofs.Common.{◌≡◌, ◌+◌, ◌≤◌, ◌++◌, drop, map, vec_len, vec_capacity}
use Rattle.umtx_queue.specs.declared.waiter.Note.TheVariants as note
use Rattle.umtx_queue.specs.Lists.{first_of}
use Rattle.umtx_queue.specs.Waiters.{matches}
use Rattle.umtx_queue.specs.Kept.{noted_as}
use Rattle.umtx_queue.proofs.Picking.{Picked}
use Rattle.umtx_queue.proofs.picks.wake_first.Given as goal

abbrev pub invariant-loop-at : goal.invariant-loop-at
invariant-loop-at l = record {
  picked : Picked (matches l.key l.bits) l.n l.fn.waiters l.at l.kept l.left l.waiters;
  notes : l.notes.items ++ map (noted_as note.Woken) (first_of (matches l.key l.bits) l.left (drop l.at l.fn.waiters)) ≡ l.fn.notes.items ++ map (noted_as note.Woken) (first_of (matches l.key l.bits) l.n l.fn.waiters);
  room : vec_len l.notes ≤ vec_len l.fn.notes + l.at;
  capacity : vec_capacity l.notes ≡ vec_capacity l.fn.notes;
}
