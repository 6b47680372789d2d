-- SVC: how a call is entered. Source: syscall(2); the manual page of each call.
use Rattle.std.specs.Prelude.{ℕ, List, option_map, slice_index, take}
use Rattle.abi_map.specs.Errors.{errno_in_of}
use Rattle.lx_machine.specs.Calls.{first_refusal, new_call}
use Rattle.lx_machine.specs.Rules.{Rules}
use Rattle.lx_machine.specs.Table.{rules_of}
use Rattle.lx_machine.specs.declared.calls.LxCall.{LxCall}
use Rattle.bsd_thread.specs.Calls.{fresh, refuses_or_copies}
use Rattle.bsd_thread.specs.declared.call.Call.{Call}
use Rattle.bsd_thread.specs.declared.thread.ThreadState.{ThreadState}

-- the call of a thread whose sp is this: what refuses it in the Linux machine refuses it, in FreeBSD's errors, and else it has the
-- same pieces to fetch
abbrev pub enters_by : ℕ → Call → LxCall → Rules → Call
enters_by sp c lc r = refuses_or_copies c (option_map errno_in_of (first_refusal (r.refusals lc))) (r.pieces sp lc)

abbrev pub enters : ℕ → ℕ → List ℕ → Call
enters sp number arguments = enters_by sp (fresh number arguments) (new_call number arguments) (rules_of (new_call number arguments))

-- the call of this thread: its number is in x8, and its arguments are in x0 to x5
abbrev pub called : ThreadState → Call
called t = enters t.regs.sp (slice_index t.regs.x 8) (take 6 t.regs.x)
