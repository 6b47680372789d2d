use Rattle.std.proofs.Common.{◌≡◌, ◌++◌, take, drop, map, vec_len}
use Rattle.guest_mem.specs.MarkRules.{mark_after}
use Rattle.guest_mem.proofs.marks.end_between.Given as goal

-- the marks so far are what is left of them
abbrev pub invariant-loop-i : goal.invariant-loop-i
invariant-loop-i l = record {
  items : l.marks.items ≡ map (mark_after l.first l.last) (take l.i l.fn.marks.items) ++ drop l.i l.fn.marks.items;
  len : vec_len l.marks ≡ vec_len l.fn.marks;
}
