-- eventfd2. Source: eventfd(2).
use Rattle.std.specs.Prelude.{Bool, List, Option, Some, [], ℕ, ◌∷◌}
use Rattle.linux_abi.specs.declared.errno.LinuxErrno.{LinuxErrno}
use Rattle.lx_machine.specs.Calls.{has_other, low_argument}
use Rattle.lx_machine.specs.Descriptors.{FilesOutcome, answers, has_cloexec, has_nonblock, has_semaphore, lowest_from, refuses}
use Rattle.lx_machine.specs.Files.{descriptor, with_descriptor, with_file}
use Rattle.lx_machine.specs.Lists.{first_free, with_place}
use Rattle.lx_machine.specs.declared.calls.LxCall.{LxCall}
use Rattle.lx_machine.specs.declared.files.Files.{Files}
use Rattle.linux_abi.specs.declared.errno.LinuxErrno.TheVariants as errno
use Rattle.lx_machine.specs.declared.files.FileKind.TheVariants as kind

-- eventfd(2): EFD_SEMAPHORE, EFD_NONBLOCK, EFD_CLOEXEC
abbrev pub eventfd_refusals : LxCall → List (Bool × LinuxErrno)
eventfd_refusals c = (has_other 0x80801 (low_argument c 1), errno.EINVAL) ∷ []

-- ---- eventfd2

abbrev pub counter_at : ℕ → ℕ → Files → ℕ → Files
counter_at value flags F number = record F { counters = with_place F.counters number (record { value = value; semaphore = has_semaphore flags }) }

-- a counter, its open file and a descriptor, each with its least number
abbrev pub eventfd_at : Files → LxCall → ℕ → ℕ → ℕ → FilesOutcome
eventfd_at F c fd file number =
    let flags = low_argument c 1 in
    answers (with_descriptor (with_file (counter_at (low_argument c 0) flags F number) file (kind.Counter number) (has_nonblock flags)) fd (descriptor file (has_cloexec flags))) c fd

abbrev pub eventfd : Files → LxCall → Option ℕ → Option ℕ → Option ℕ → FilesOutcome
eventfd F c (Some fd) (Some file) (Some number) = eventfd_at F c fd file number
eventfd F c _ _ _ = refuses F c errno.EMFILE

abbrev pub eventfd2 : Files → LxCall → FilesOutcome
eventfd2 F c = eventfd F c (lowest_from F 0) (first_free F.files) (first_free F.counters)
