-- Words on calls on descriptors. Source: open(2), dup(2).
use Rattle.std.specs.Prelude.{Bool, List, None, Option, Some, drop, suc, ℕ, ◌%◌, ◌/◌, ◌==◌, ◌^◌}
use Rattle.linux_abi.specs.declared.errno.LinuxErrno.{LinuxErrno}
use Rattle.lx_machine.specs.Calls.{answered, refused}
use Rattle.lx_machine.specs.Lists.{first_free_from}
use Rattle.lx_machine.specs.Threads.{in_call_of}
use Rattle.lx_machine.specs.declared.calls.LxCall.{LxCall}
use Rattle.lx_machine.specs.declared.files.Descriptor.{Descriptor}
use Rattle.lx_machine.specs.declared.files.Files.{Files}
use Rattle.lx_machine.specs.declared.state.LinuxState.{LinuxState}
use Rattle.lx_machine.specs.declared.threads.LxThread.{LxThread}
use Rattle.linux_abi.specs.declared.errno.LinuxErrno.TheVariants as errno

-- what a call leaves of the files, and how the call stands then
pub record FilesOutcome : Type 0 where
  pub files : Files
  pub call : LxCall

abbrev pub files_outcome : Files → LxCall → FilesOutcome
files_outcome F c = record { files = F; call = c }

-- the call answers a number; is refused
abbrev pub answers : Files → LxCall → ℕ → FilesOutcome
answers F c n = files_outcome F (answered c n)

abbrev pub refuses : Files → LxCall → LinuxErrno → FilesOutcome
refuses F c e = files_outcome F (refused c e)

-- O_CLOEXEC, O_NONBLOCK and EFD_SEMAPHORE among flags
abbrev pub has_cloexec : ℕ → Bool
has_cloexec flags = flags / 2 ^ 19 % 2 == 1

abbrev pub has_nonblock : ℕ → Bool
has_nonblock flags = flags / 2 ^ 11 % 2 == 1

abbrev pub has_semaphore : ℕ → Bool
has_semaphore flags = flags % 2 == 1

-- the lowest free descriptor from this number on
abbrev pub lowest_from : Files → ℕ → Option ℕ
lowest_from F from = first_free_from from (drop from F.descriptors)

-- ---- ioctl, lseek and close

-- an open descriptor is refused so
abbrev pub refused_where_open : Files → LxCall → LinuxErrno → Option Descriptor → FilesOutcome
refused_where_open F c e (Some d) = refuses F c e
refused_where_open F c e None = refuses F c errno.EBADF

-- ---- pipe2

-- the least free number behind the first one
abbrev pub second_free : {X : Type 0} → List (Option X) → ℕ → Option ℕ
second_free xs first = first_free_from (suc first) (drop (suc first) xs)

-- ---- Hold and Move, of an epoll and of a transfer

-- the state after a step on files that breaks no pipe
abbrev pub on_files : LinuxState → ℕ → LxThread → FilesOutcome → LinuxState
on_files L s t o = in_call_of (record L { files = o.files }) s t o.call
