-- mprotect. Source: mprotect(2). That the code can't be changed is this project's own.
use Rattle.std.proofs.Math.Bool.{not}
use Rattle.std.specs.Prelude.{Bool, List, [], if◌then◌else◌, nat_lt, ◌/◌, ◌||◌, ◌∷◌}
use Rattle.linux_abi.specs.declared.errno.LinuxErrno.{LinuxErrno}
use Rattle.lx_machine.specs.Calls.{argument, low_argument}
use Rattle.lx_machine.specs.Ranges.{SpaceOutcome, is_unaligned_page, pages_of, rights_asked, space_answers, space_refuses, wants_execute}
use Rattle.lx_machine.specs.declared.calls.LxCall.{LxCall}
use Rattle.lx_machine.specs.declared.space.Space.{Space}
use Rattle.lx_memory.specs.Queries.{all_mapped, any_executable}
use Rattle.lx_memory.specs.Ranges.{protected}
use Rattle.linux_abi.specs.declared.errno.LinuxErrno.TheVariants as errno

-- mprotect(2)
abbrev pub mprotect_refusals : LxCall → List (Bool × LinuxErrno)
mprotect_refusals c =
    (is_unaligned_page (argument c 0) || nat_lt 7 (low_argument c 2), errno.EINVAL) ∷
    (wants_execute (low_argument c 2), errno.EACCES) ∷ []

-- ---- munmap, mprotect, madvise

abbrev pub mprotect : Space → LxCall → SpaceOutcome
mprotect S c =
    let first = argument c 0 / 4096 in
    let count = pages_of (argument c 1) in
    if not (all_mapped S.pages first count) then space_refuses S c errno.ENOMEM else (
    if any_executable S.pages first count then space_refuses S c errno.EACCES
    else space_answers (record S { pages = protected S.pages first count (rights_asked (low_argument c 2)) }) c 0)
