-- Words on calls on ranges of memory. Source: mmap(2), mprotect(2).
use Rattle.std.proofs.Math.Bool.{not}
use Rattle.std.specs.Prelude.{Bool, nat_lt, ℕ, ◌%◌, ◌*◌, ◌+◌, ◌/◌, ◌==◌, ◌^◌}
use Rattle.linux_abi.specs.declared.errno.LinuxErrno.{LinuxErrno}
use Rattle.lx_machine.specs.Calls.{answered, refused}
use Rattle.lx_machine.specs.Threads.{after_write, in_call_of}
use Rattle.lx_machine.specs.declared.calls.LxCall.{LxCall}
use Rattle.lx_machine.specs.declared.space.Space.{Space}
use Rattle.lx_machine.specs.declared.state.LinuxState.{LinuxState}
use Rattle.lx_machine.specs.declared.threads.LxThread.{LxThread}
use Rattle.page_ranges.specs.declared.rights.Rights.{Rights}

-- the address is no multiple of a page
abbrev pub is_unaligned_page : ℕ → Bool
is_unaligned_page at = not (at % 4096 == 0)

-- a length in whole pages, rounded up
abbrev pub pages_of : ℕ → ℕ
pages_of len = (len + 4095) / 4096

-- the range, in whole pages, ends above the address space of a program (2^47)
abbrev pub ends_above : ℕ → ℕ → Bool
ends_above at len = nat_lt (2 ^ 47) (at + pages_of len * 4096)

-- PROT_EXEC
abbrev pub wants_execute : ℕ → Bool
wants_execute rights = rights / 4 % 2 == 1

-- what a call leaves of memory, how the call stands then, and the range of pages that it has given up or made zeros
pub record SpaceOutcome : Type 0 where
  pub space : Space
  pub call : LxCall
  pub first : ℕ
  pub count : ℕ

-- a call that has changed memory: pages that it gave up or made zeros count as written by its thread
abbrev pub on_space : LinuxState → ℕ → LxThread → SpaceOutcome → LinuxState
on_space L s t o = in_call_of (record L { space = o.space; threads = after_write s (o.first * 4096) (o.count * 4096) L.threads }) s t o.call

abbrev pub space_answers : Space → LxCall → ℕ → SpaceOutcome
space_answers S c n = record { space = S; call = answered c n; first = 0; count = 0 }

abbrev pub space_refuses : Space → LxCall → LinuxErrno → SpaceOutcome
space_refuses S c e = record { space = S; call = refused c e; first = 0; count = 0 }

-- the call has changed these pages, and answers a number
abbrev pub space_changes : Space → LxCall → ℕ → ℕ → ℕ → SpaceOutcome
space_changes S c n first count = record { space = S; call = answered c n; first = first; count = count }

-- PROT_READ, PROT_WRITE; nothing becomes executable
abbrev pub rights_asked : ℕ → Rights
rights_asked n = record { read = n % 2 == 1; write = n / 2 % 2 == 1; execute = n / 4 % 2 == 1 }
