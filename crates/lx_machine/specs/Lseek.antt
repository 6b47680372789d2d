-- lseek: no open file has a position. Source: lseek(2).
use Rattle.lx_machine.specs.Calls.{low_argument}
use Rattle.lx_machine.specs.Descriptors.{FilesOutcome, refused_where_open}
use Rattle.lx_machine.specs.Lists.{at_place}
use Rattle.lx_machine.specs.declared.calls.LxCall.{LxCall}
use Rattle.lx_machine.specs.declared.files.Files.{Files}
use Rattle.linux_abi.specs.declared.errno.LinuxErrno.TheVariants as errno

-- ---- ioctl, lseek and close

abbrev pub lseek : Files → LxCall → FilesOutcome
lseek F c = refused_where_open F c errno.ESPIPE (at_place F.descriptors (low_argument c 0))
