-- brk. Source: brk(2).
use Rattle.std.specs.Prelude.{if◌then◌else◌, nat_le, nat_lt, ℕ, ◌-◌}
use Rattle.lx_machine.specs.Calls.{argument}
use Rattle.lx_machine.specs.Ranges.{SpaceOutcome, pages_of, rights_asked, space_answers, space_changes}
use Rattle.lx_machine.specs.declared.calls.LxCall.{LxCall}
use Rattle.lx_machine.specs.declared.space.Space.{Space}
use Rattle.lx_memory.specs.Queries.{all_free}
use Rattle.lx_memory.specs.Ranges.{mapped, unmapped}

-- ---- brk

abbrev pub with_break : Space → ℕ → Space
with_break S at = record S { break_at = at }

-- the break moves up where the pages that it gets are free: they can be read and written
abbrev pub raised : Space → LxCall → ℕ → SpaceOutcome
raised S c at =
    let first = pages_of S.break_at in
    let count = pages_of at - first in
    if all_free S.pages first count
    then space_answers (record S { pages = mapped S.pages first count (rights_asked 3); break_at = at }) c at
    else space_answers S c S.break_at

-- the break moves down, and the pages above it are unmapped
abbrev pub lowered : Space → LxCall → ℕ → SpaceOutcome
lowered S c at =
    let first = pages_of at in
    let count = pages_of S.break_at - first in
    space_changes (record S { pages = unmapped S.pages first count; break_at = at }) c at first count

abbrev pub brk : Space → LxCall → SpaceOutcome
brk S c =
    let at = argument c 0 in
    if nat_lt at S.break_start then space_answers S c S.break_at else (
    if nat_le S.break_at at then raised S c at else lowered S c at)
