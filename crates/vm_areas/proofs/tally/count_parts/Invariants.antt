use Rattle.std.proofs.Common.{◌≡◌, ◌+◌, ◌≤◌, List, fold, take}
use Rattle.vm_areas.specs.declared.runs.Area.{Area}
use Rattle.vm_areas.specs.Steps.{tally_of, with_part}
use Rattle.vm_areas.proofs.tally.count_parts.Given as goal

abbrev pub invariant-loop-area : goal.invariant-loop-area
invariant-loop-area l = record {
  tally : (row : List Area) → l.initial.tally ≡ tally_of row → l.tally ≡ tally_of (fold (with_part l.from l.to) row (take l.area-index l.areas));
  count : l.tally.count ≤ l.initial.tally.count + l.area-index;
}
