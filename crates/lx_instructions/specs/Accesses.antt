-- What the code tells of an access, and how large accesses are.
use Rattle.std.specs.Prelude.{◌≡◌, Bool, true, false, ◌≤◌, Result, Ok, Err, ⊤}
use Rattle.page_store.specs.Pages.{Pages}
use Rattle.a64_model.specs.declared.access.Access.{Access}
use Rattle.a64_model.specs.declared.access.Access.TheVariants as access
use Rattle.a64_model.specs.declared.access.Next.{Next}
use Rattle.a64_model.specs.declared.instr.Instr.{Instr}
use Rattle.a64_model.specs.declared.instr.Instr.TheVariants as instr
use Rattle.a64_model.specs.declared.access.Next.TheVariants.{Call}
use Rattle.lx_machine.specs.Instruction.{Answered, Ran}
use Rattle.lx_machine.specs.declared.threads.LxThread.{LxThread}
use Rattle.lx_instructions.specs.declared.access.Answered.{Answered as Told}
use Rattle.lx_instructions.specs.declared.instruction.Written.{Written}

-- the pages, and what is told, are those of the definition
pub record Has (pages : Pages) (told : Told) (a : Answered) : Type 0 where
  pub pages_are : pages ≡ a.pages
  pub told_is : told ≡ record { mark = a.mark; answer = a.answer; at = a.at; written = a.written }

-- an access has at most 32 bytes, and an atomic one 1 to 8
abbrev pub IsSmall : Access → Type 0
IsSmall access.None = ⊤
IsSmall (access.Load at len mark) = len ≤ 32
IsSmall (access.Store at len bytes exclusive) = len ≤ 32
IsSmall (access.Swap at len op value expected) = (1 ≤ len) × (len ≤ 8)
IsSmall access.ClearMark = ⊤

-- no call comes next
abbrev pub IsNoCall : Next → Type 0
IsNoCall Call = ⊥
IsNoCall _ = ⊤

-- what an instruction asks is small, and a trap in its place is no call
abbrev pub AsksLittle : Result Access Next → Type 0
AsksLittle (Ok a) = IsSmall a
AsksLittle (Err n) = IsNoCall n

-- the pages, the thread and what was written are those of the definition
pub record HasRun (pages : Pages) (thread : LxThread) (written : Written) (r : Ran) : Type 0 where
  pub pages_are : pages ≡ r.pages
  pub thread_is : thread ≡ r.thread
  pub written_is : written ≡ record { at = r.at; len = r.written }

-- the instruction is SVC
abbrev pub is_supervisor_call : Instr → Bool
is_supervisor_call instr.SupervisorCall = true
is_supervisor_call _ = false
