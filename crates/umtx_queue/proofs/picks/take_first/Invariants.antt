use Rattle.std.proofs.Common.{◌≡◌, ◌+◌, ◌≤◌, ◌++◌, drop, length, map, vec_len, vec_capacity}
use Rattle.umtx_queue.specs.declared.waiter.Note.TheVariants as note
use Rattle.umtx_queue.specs.Lists.{first_of, tally}
use Rattle.umtx_queue.specs.Waiters.{is_plain_at, with_key}
use Rattle.umtx_queue.specs.Kept.{noted_as}
use Rattle.umtx_queue.proofs.Picking.{Picked}
use Rattle.umtx_queue.proofs.picks.take_first.Given as goal

abbrev pub invariant-loop-at : goal.invariant-loop-at
invariant-loop-at l = record {
  picked : Picked (is_plain_at l.key) l.n l.fn.waiters l.at l.kept l.left l.waiters;
  notes : l.notes.items ++ map (noted_as (note.Moved l.to)) (first_of (is_plain_at l.key) l.left (drop l.at l.fn.waiters)) ≡ l.fn.notes.items ++ map (noted_as (note.Moved l.to)) (first_of (is_plain_at l.key) l.n l.fn.waiters);
  carry : l.carry.items ++ map (with_key l.to) (first_of (is_plain_at l.key) l.left (drop l.at l.fn.waiters)) ≡ map (with_key l.to) (first_of (is_plain_at l.key) l.n l.fn.waiters);
  few : length l.carry.items + tally (is_plain_at l.key) (drop l.at l.fn.waiters) ≤ 128;
  room : vec_len l.notes ≤ vec_len l.fn.notes + l.at;
  capacity : vec_capacity l.notes ≡ vec_capacity l.fn.notes;
}
