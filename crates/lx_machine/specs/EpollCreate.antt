-- epoll_create1. Source: epoll_create1(2).
use Rattle.std.specs.Prelude.{Bool, List, None, Option, Some, [], false, ℕ, ◌∷◌}
use Rattle.linux_abi.specs.declared.errno.LinuxErrno.{LinuxErrno}
use Rattle.lx_machine.specs.Calls.{has_other, low_argument}
use Rattle.lx_machine.specs.Descriptors.{FilesOutcome, answers, has_cloexec, lowest_from, refuses}
use Rattle.lx_machine.specs.Files.{descriptor, with_descriptor, with_file}
use Rattle.lx_machine.specs.Lists.{first_free, with_place}
use Rattle.lx_machine.specs.declared.calls.LxCall.{LxCall}
use Rattle.lx_machine.specs.declared.files.Files.{Files}
use Rattle.linux_abi.specs.declared.errno.LinuxErrno.TheVariants as errno
use Rattle.lx_machine.specs.declared.files.FileKind.TheVariants as kind

-- ---- epoll_create1

-- EPOLL_CLOEXEC
abbrev pub epoll_create_refusals : LxCall → List (Bool × LinuxErrno)
epoll_create_refusals c = (has_other 0x80000 (low_argument c 0), errno.EINVAL) ∷ []

-- an epoll without interests, its open file and a descriptor, each with its least number
abbrev pub epoll_create_at : Files → LxCall → ℕ → ℕ → ℕ → FilesOutcome
epoll_create_at F c fd file number =
    let made = with_file (record F { epolls = with_place F.epolls number [] }) file (kind.Epoll number) false in
    answers (with_descriptor made fd (descriptor file (has_cloexec (low_argument c 0)))) c fd

abbrev pub epoll_create_numbers : Files → LxCall → ℕ → Option ℕ → Option ℕ → FilesOutcome
epoll_create_numbers F c fd (Some file) (Some number) = epoll_create_at F c fd file number
epoll_create_numbers F c fd _ _ = refuses F c errno.ENFILE

abbrev pub epoll_create_from : Files → LxCall → Option ℕ → FilesOutcome
epoll_create_from F c (Some fd) = epoll_create_numbers F c fd (first_free F.files) (first_free F.epolls)
epoll_create_from F c None = refuses F c errno.EMFILE

abbrev pub epoll_create1 : Files → LxCall → FilesOutcome
epoll_create1 F c = epoll_create_from F c (lowest_from F 0)
