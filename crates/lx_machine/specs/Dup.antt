-- dup and dup3, and the duplicates that fcntl makes. Source: dup(2), fcntl(2).
use Rattle.std.specs.Prelude.{Bool, List, None, Option, Some, [], false, if◌then◌else◌, nat_le, ℕ, ◌==◌, ◌∷◌}
use Rattle.linux_abi.specs.declared.errno.LinuxErrno.{LinuxErrno}
use Rattle.lx_machine.specs.Calls.{has_other, low_argument}
use Rattle.lx_machine.specs.Descriptors.{FilesOutcome, answers, has_cloexec, lowest_from, refuses}
use Rattle.lx_machine.specs.Files.{closed, descriptor, with_descriptor}
use Rattle.lx_machine.specs.Lists.{at_place}
use Rattle.lx_machine.specs.declared.calls.LxCall.{LxCall}
use Rattle.lx_machine.specs.declared.files.Descriptor.{Descriptor}
use Rattle.lx_machine.specs.declared.files.Files.{Files}
use Rattle.linux_abi.specs.declared.errno.LinuxErrno.TheVariants as errno

-- dup(2): O_CLOEXEC
abbrev pub dup3_refusals : LxCall → List (Bool × LinuxErrno)
dup3_refusals c =
    (low_argument c 0 == low_argument c 1, errno.EINVAL) ∷ (has_other 0x80000 (low_argument c 2), errno.EINVAL) ∷ []

-- ---- dup, dup3, and fcntl's duplicates

-- another descriptor for an open file, at the lowest number from `from` on
abbrev pub duplicate_at : Files → LxCall → ℕ → Bool → Option ℕ → FilesOutcome
duplicate_at F c file cloexec (Some fd) = answers (with_descriptor F fd (descriptor file cloexec)) c fd
duplicate_at F c file cloexec None = refuses F c errno.EMFILE

abbrev pub duplicate : Files → LxCall → ℕ → Bool → ℕ → FilesOutcome
duplicate F c file cloexec from = if nat_le 256 from then refuses F c errno.EINVAL else duplicate_at F c file cloexec (lowest_from F from)

abbrev pub dup_of : Files → LxCall → Option Descriptor → FilesOutcome
dup_of F c (Some d) = duplicate F c d.file false 0
dup_of F c None = refuses F c errno.EBADF

abbrev pub dup : Files → LxCall → FilesOutcome
dup F c = dup_of F c (at_place F.descriptors (low_argument c 0))

-- the new number names the open file, and what it named before is closed
abbrev pub dup3_to : Files → LxCall → ℕ → ℕ → FilesOutcome
dup3_to F c file new = answers (with_descriptor (closed F new) new (descriptor file (has_cloexec (low_argument c 2)))) c new

abbrev pub dup3_of : Files → LxCall → Option Descriptor → FilesOutcome
dup3_of F c (Some d) = if nat_le 256 (low_argument c 1) then refuses F c errno.EBADF else dup3_to F c d.file (low_argument c 1)
dup3_of F c None = refuses F c errno.EBADF

abbrev pub dup3 : Files → LxCall → FilesOutcome
dup3 F c = dup3_of F c (at_place F.descriptors (low_argument c 0))
