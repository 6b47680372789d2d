use Rattle.std.proofs.Common.{◌≡◌, ◌+◌, ◌≤◌, fold, take, vec_len, vec_capacity}
use Rattle.vm_areas.specs.Steps.{with_part}
use Rattle.vm_areas.proofs.pieces.add_parts.Given as goal

abbrev pub invariant-loop-area : goal.invariant-loop-area
invariant-loop-area l = record {
  items : l.row.items ≡ fold (with_part l.from l.to) l.initial.row.items (take l.area-index l.areas);
  len : vec_len l.row ≤ vec_len l.initial.row + l.area-index;
  capacity : vec_capacity l.row ≡ vec_capacity l.initial.row;
}
