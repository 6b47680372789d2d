-- close. Source: close(2).
use Rattle.std.specs.Prelude.{None, Option, Some}
use Rattle.lx_machine.specs.Calls.{low_argument}
use Rattle.lx_machine.specs.Descriptors.{FilesOutcome, answers, refuses}
use Rattle.lx_machine.specs.Files.{closed}
use Rattle.lx_machine.specs.Lists.{at_place}
use Rattle.lx_machine.specs.declared.calls.LxCall.{LxCall}
use Rattle.lx_machine.specs.declared.files.Descriptor.{Descriptor}
use Rattle.lx_machine.specs.declared.files.Files.{Files}
use Rattle.linux_abi.specs.declared.errno.LinuxErrno.TheVariants as errno

-- ---- ioctl, lseek and close

abbrev pub close_of : Files → LxCall → Option Descriptor → FilesOutcome
close_of F c (Some d) = answers (closed F (low_argument c 0)) c 0
close_of F c None = refuses F c errno.EBADF

abbrev pub close : Files → LxCall → FilesOutcome
close F c = close_of F c (at_place F.descriptors (low_argument c 0))
