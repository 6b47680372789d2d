-- fcntl. Source: fcntl(2).
use Rattle.std.specs.Int.{from_bool}
use Rattle.std.specs.Prelude.{None, Option, Some, false, true, ℕ, ◌%◌, ◌*◌, ◌+◌, ◌==◌}
use Rattle.linux_abi.specs.DescriptorOperation.{descriptor_operation_of}
use Rattle.linux_abi.specs.declared.files.DescriptorOperation.{DescriptorOperation}
use Rattle.lx_machine.specs.Calls.{argument, low_argument}
use Rattle.lx_machine.specs.Descriptors.{FilesOutcome, answers, has_nonblock, refuses}
use Rattle.lx_machine.specs.Dup.{duplicate}
use Rattle.lx_machine.specs.Files.{descriptor, with_descriptor}
use Rattle.lx_machine.specs.Lists.{at_place, with_place}
use Rattle.lx_machine.specs.declared.calls.LxCall.{LxCall}
use Rattle.lx_machine.specs.declared.files.Descriptor.{Descriptor}
use Rattle.lx_machine.specs.declared.files.FileKind.{FileKind}
use Rattle.lx_machine.specs.declared.files.Files.{Files}
use Rattle.lx_machine.specs.declared.files.OpenFile.{OpenFile}
use Rattle.linux_abi.specs.declared.errno.LinuxErrno.TheVariants as errno
use Rattle.linux_abi.specs.declared.files.DescriptorOperation.TheVariants as operation
use Rattle.lx_machine.specs.declared.files.FileKind.TheVariants as kind

-- ---- fcntl

-- O_RDONLY, O_WRONLY and O_RDWR
abbrev pub access_mode : FileKind → ℕ
access_mode kind.Input = 0
access_mode (kind.PipeRead p) = 0
access_mode (kind.Console which) = 1
access_mode (kind.PipeWrite p) = 1
access_mode (kind.Counter n) = 2
access_mode (kind.Epoll n) = 2

-- F_GETFL: the access mode, and O_NONBLOCK
abbrev pub status_of : OpenFile → ℕ
status_of f = access_mode f.kind + from_bool f.nonblocking * 2048

abbrev pub get_status : Files → LxCall → Option OpenFile → FilesOutcome
get_status F c (Some f) = answers F c (status_of f)
get_status F c None = refuses F c errno.EBADF

-- F_SETFL: O_NONBLOCK alone
abbrev pub set_status : Files → LxCall → ℕ → Option OpenFile → FilesOutcome
set_status F c file (Some f) = answers (record F { files = with_place F.files file (record f { nonblocking = has_nonblock (argument c 2) }) }) c 0
set_status F c file None = refuses F c errno.EBADF

abbrev pub fcntl_by : Files → LxCall → ℕ → Descriptor → Option DescriptorOperation → FilesOutcome
fcntl_by F c fd d (Some operation.Duplicate) = duplicate F c d.file false (argument c 2)
fcntl_by F c fd d (Some operation.DuplicateCloseOnExec) = duplicate F c d.file true (argument c 2)
fcntl_by F c fd d (Some operation.GetCloseFlag) = answers F c (from_bool d.close_on_exec)
fcntl_by F c fd d (Some operation.SetCloseFlag) = answers (with_descriptor F fd (descriptor d.file (argument c 2 % 2 == 1))) c 0
fcntl_by F c fd d (Some operation.GetStatus) = get_status F c (at_place F.files d.file)
fcntl_by F c fd d (Some operation.SetStatus) = set_status F c d.file (at_place F.files d.file)
fcntl_by F c fd d None = refuses F c errno.EINVAL

abbrev pub fcntl_of : Files → LxCall → Option Descriptor → FilesOutcome
fcntl_of F c (Some d) = fcntl_by F c (low_argument c 0) d (descriptor_operation_of (low_argument c 1))
fcntl_of F c None = refuses F c errno.EBADF

abbrev pub fcntl : Files → LxCall → FilesOutcome
fcntl F c = fcntl_of F c (at_place F.descriptors (low_argument c 0))
