-- madvise. Source: madvise(2). That the code can't be changed is this project's own.
use Rattle.std.proofs.Math.Bool.{not}
use Rattle.std.specs.Prelude.{Bool, List, [], if◌then◌else◌, is_some, ◌/◌, ◌==◌, ◌∷◌}
use Rattle.linux_abi.specs.Advice.{advice_of}
use Rattle.linux_abi.specs.declared.errno.LinuxErrno.{LinuxErrno}
use Rattle.lx_machine.specs.Calls.{argument, low_argument}
use Rattle.lx_machine.specs.Ranges.{SpaceOutcome, is_unaligned_page, pages_of, space_answers, space_changes, space_refuses}
use Rattle.lx_machine.specs.declared.calls.LxCall.{LxCall}
use Rattle.lx_machine.specs.declared.space.Space.{Space}
use Rattle.lx_memory.specs.Queries.{all_mapped, any_executable}
use Rattle.lx_memory.specs.Ranges.{zeroed}
use Rattle.linux_abi.specs.declared.errno.LinuxErrno.TheVariants as errno

-- madvise(2)
abbrev pub madvise_refusals : LxCall → List (Bool × LinuxErrno)
madvise_refusals c = (is_unaligned_page (argument c 0), errno.EINVAL) ∷ (not (is_some (advice_of (low_argument c 2))), errno.EINVAL) ∷ []

-- ---- munmap, mprotect, madvise

-- advice 4 (MADV_DONTNEED) makes the pages zeros, and no other does anything
abbrev pub madvise : Space → LxCall → SpaceOutcome
madvise S c =
    let first = argument c 0 / 4096 in
    let count = pages_of (argument c 1) in
    if not (all_mapped S.pages first count) then space_refuses S c errno.ENOMEM else (
    if not (low_argument c 2 == 4) then space_answers S c 0 else (
    if any_executable S.pages first count then space_refuses S c errno.EACCES
    else space_changes (record S { pages = zeroed S.pages first count }) c 0 first count))
