-- munmap. Source: munmap(2). That the code can't be unmapped is this project's own.
use Rattle.std.specs.Prelude.{Bool, List, [], if◌then◌else◌, ◌/◌, ◌==◌, ◌||◌, ◌∷◌}
use Rattle.linux_abi.specs.declared.errno.LinuxErrno.{LinuxErrno}
use Rattle.lx_machine.specs.Calls.{argument}
use Rattle.lx_machine.specs.Ranges.{SpaceOutcome, ends_above, is_unaligned_page, pages_of, space_changes, space_refuses}
use Rattle.lx_machine.specs.declared.calls.LxCall.{LxCall}
use Rattle.lx_machine.specs.declared.space.Space.{Space}
use Rattle.lx_memory.specs.Queries.{any_executable}
use Rattle.lx_memory.specs.Ranges.{unmapped}
use Rattle.linux_abi.specs.declared.errno.LinuxErrno.TheVariants as errno

-- munmap(2)
abbrev pub munmap_refusals : LxCall → List (Bool × LinuxErrno)
munmap_refusals c = (is_unaligned_page (argument c 0) || (argument c 1 == 0) || ends_above (argument c 0) (argument c 1), errno.EINVAL) ∷ []

-- ---- munmap, mprotect, madvise

abbrev pub munmap : Space → LxCall → SpaceOutcome
munmap S c =
    let first = argument c 0 / 4096 in
    let count = pages_of (argument c 1) in
    if any_executable S.pages first count then space_refuses S c errno.EACCES
    else space_changes (record S { pages = unmapped S.pages first count }) c 0 first count
