-- mmap. Source: mmap(2). That the code can't be changed, and that the highest free range is taken, is this project's own.
use Rattle.std.proofs.Math.Bool.{not}
use Rattle.std.specs.Prelude.{Bool, List, None, Option, Some, [], if◌then◌else◌, nat_lt, ℕ, ◌%◌, ◌&&◌, ◌*◌, ◌/◌, ◌==◌, ◌||◌, ◌∷◌}
use Rattle.linux_abi.specs.declared.errno.LinuxErrno.{LinuxErrno}
use Rattle.lx_machine.specs.Calls.{argument, low_argument}
use Rattle.lx_machine.specs.Ranges.{SpaceOutcome, ends_above, is_unaligned_page, pages_of, rights_asked, space_changes, space_refuses, wants_execute}
use Rattle.lx_machine.specs.declared.calls.LxCall.{LxCall}
use Rattle.lx_machine.specs.declared.space.Space.{Space}
use Rattle.lx_memory.specs.Queries.{any_executable, highest_gap}
use Rattle.lx_memory.specs.Ranges.{mapped}
use Rattle.linux_abi.specs.declared.errno.LinuxErrno.TheVariants as errno

-- MAP_FIXED
abbrev pub is_fixed_mapping : ℕ → Bool
is_fixed_mapping flags = flags / 16 % 2 == 1

-- mmap(2)
abbrev pub mmap_refusals : LxCall → List (Bool × LinuxErrno)
mmap_refusals c =
    (argument c 1 == 0, errno.EINVAL) ∷
    (nat_lt 7 (low_argument c 2), errno.EINVAL) ∷
    (not (low_argument c 3 % 4 == 1) && not (low_argument c 3 % 4 == 2), errno.EINVAL) ∷
    (low_argument c 3 / 32 % 2 == 0, errno.ENODEV) ∷
    (wants_execute (low_argument c 2), errno.EACCES) ∷
    (is_fixed_mapping (low_argument c 3) && (is_unaligned_page (argument c 0) || ends_above (argument c 0) (argument c 1)), errno.EINVAL) ∷ []

-- ---- mmap

-- the pages are mapped as zeros with the rights, whatever was there
abbrev pub mapped_at : Space → LxCall → ℕ → SpaceOutcome
mapped_at S c first =
    let count = pages_of (argument c 1) in
    space_changes (record S { pages = mapped S.pages first count (rights_asked (low_argument c 2)) }) c (first * 4096) first count

-- with MAP_FIXED, at the address, unless the code is there
abbrev pub mapped_fixed : Space → LxCall → SpaceOutcome
mapped_fixed S c =
    if any_executable S.pages (argument c 0 / 4096) (pages_of (argument c 1)) then space_refuses S c errno.EACCES
    else mapped_at S c (argument c 0 / 4096)

-- else in the highest free range from page 16 on that ends at or below page 0x7fff00000
abbrev pub mapped_in : Space → LxCall → Option ℕ → SpaceOutcome
mapped_in S c (Some first) = mapped_at S c first
mapped_in S c None = space_refuses S c errno.ENOMEM

abbrev pub mmap : Space → LxCall → SpaceOutcome
mmap S c = if is_fixed_mapping (low_argument c 3) then mapped_fixed S c else mapped_in S c (highest_gap S.pages (pages_of (argument c 1)) 16 0x7fff00000)
