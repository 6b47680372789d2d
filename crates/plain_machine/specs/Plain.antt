-- Plain(program, k): the machine after k entries, each the row of its phase.
-- Source: what an instruction does is DDI 0487's, by the definitions of its rows; the phases are this project's own; the
-- calls are exit(2) and write(2), and their numbers those of Linux for arm64 (asm-generic/unistd.h).
use Rattle.std.specs.Prelude.{◌≡◌, ℕ, zero, suc, ◌+◌, ◌-◌, ◌%◌, ◌^◌, ◌<◌, Bool, true, false, ◌==◌, ◌&&◌, nat_le, if◌then◌else◌, List, [], ◌++◌, length, replicate, slice_index, slice_set, Option, Some, None, option_and_then, Result, Ok}
use Rattle.a64_model.specs.Exec.{needed, after, next}
use Rattle.a64_model.specs.declared.regs.Regs.{Regs}
use Rattle.a64_model.specs.declared.instr.Instr.{Instr}
use Rattle.a64_model.specs.declared.access.Access.{Access}
use Rattle.a64_model.specs.declared.access.Access.TheVariants as access
use Rattle.a64_model.specs.declared.access.Answer.TheVariants.{Done}
use Rattle.a64_model.specs.declared.access.Next.{Next}
use Rattle.a64_model.specs.declared.access.Next.TheVariants.{Go, Call, Trap}
use Rattle.plain_machine.specs.Program.{ProgramView, is_inside, bytes_at, instruction_at}
use Rattle.plain_machine.specs.declared.machine.Phase.{Phase}
use Rattle.plain_machine.specs.declared.machine.Phase.TheVariants.{User, Hold, Fetch, Look, Drop, Return, Leave}
use Rattle.plain_machine.specs.declared.machine.Piece.{Piece}
use Rattle.plain_machine.specs.declared.running.RunEnd.{RunEnd}
use Rattle.plain_machine.specs.declared.running.RunEnd.TheVariants as ended

-- the state: the thread's registers and phase, the piece that its call puts out, the call's answer, the bytes put out so
-- far, and the code with which the guest ended
pub record State : Type 0 where
  pub registers : Regs
  pub phase : Phase
  pub piece : Piece
  pub answer : ℕ
  pub out : List ℕ
  pub code : Option ℕ

-- the first state: all registers are 0 but for pc, which is the entry
abbrev pub start : ProgramView → State
start program = record {
  registers = record { x = replicate 31 0; sp = 0; pc = program.entry; nzcv = 0; tpidr = 0; v = replicate 32 0 };
  phase = User;
  piece = record { at = 0; len = 0 };
  answer = 0;
  out = [];
  code = None;
}

-- most bytes that are put out
abbrev pub most_out : ℕ
most_out = 65536

-- the state with these registers
abbrev pub with_registers : State → Regs → State
with_registers s registers = record s { registers = registers }

-- what the register x0 to x30 of this number holds
abbrev pub register : State → ℕ → ℕ
register s n = slice_index s.registers.x n

-- behind an SVC: the thread enters the call that x8 names, with its arguments from x0 on. Call 93 is exit. Call 64 is
-- write, and is built where the low 32 bits of x0 are descriptor 1 and the count x2 fits behind what was put out so far.
abbrev pub entered : State → Option State
entered s =
    if register s 8 == 93 then Some (record s { phase = Leave })
    else (if (register s 8 == 64) && ((register s 0 % 2 ^ 32 == 1) && nat_le (length s.out + register s 2) most_out)
    then Some (record s { phase = Hold; piece = record { at = register s 1; len = register s 2 } })
    else None)

-- behind an instruction, by what comes next: nothing more, or the call; a trap isn't built
abbrev pub followed : State → Next → Option State
followed s Go = Some s
followed s Call = entered s
followed s (Trap signal code address) = None

-- nothing is asked of memory: there is no access, or the exclusive mark is cleared, of which none ever stands here
abbrev pub asks_nothing : Result Access Next → Bool
asks_nothing (Ok access.None) = true
asks_nothing (Ok access.ClearMark) = true
asks_nothing _ = false

-- User: what an instruction does that asks nothing of memory, whose answer then is Done; any other isn't built
abbrev pub executed : State → Instr → Option State
executed s i =
    if asks_nothing (needed s.registers i)
    then followed (with_registers s (after s.registers i Done)) (next s.registers i Done)
    else None

-- User: the instruction at pc
abbrev pub user : ProgramView → State → Option State
user program s = option_and_then (executed s) (instruction_at program s.registers.pc)

-- Hold: the console stays open. A piece of no bytes has no Fetch.
abbrev pub held : State → State
held s = record s { phase = (if s.piece.len == 0 then Look else Fetch) }

-- Fetch: the piece is copied in whole, or where it isn't inside the segment the answer is EFAULT, which is -14
abbrev pub fetched : ProgramView → State → State
fetched program s =
    if is_inside program s.piece.at s.piece.len then record s { phase = Look }
    else record s { phase = Drop; answer = 2 ^ 64 - 14; piece = record { at = 0; len = 0 } }

-- Look: the piece's bytes are put out, and the answer is their number
abbrev pub looked : ProgramView → State → State
looked program s = record s {
  phase = Return;
  answer = s.piece.len;
  out = s.out ++ bytes_at program s.piece.at s.piece.len;
  piece = record { at = 0; len = 0 };
}

-- Return: the answer is put into x0
abbrev pub returned : State → State
returned s = record s { registers = record s.registers { x = slice_set s.registers.x 0 s.answer }; phase = User }

-- Leave: the guest ends with the low 8 bits of its code
abbrev pub left : State → State
left s = record s { code = Some (register s 0 % 256) }

-- one entry of a guest that hasn't ended, by the thread's phase
abbrev pub by_phase : ProgramView → State → Phase → Option State
by_phase program s User = user program s
by_phase program s Hold = Some (held s)
by_phase program s Fetch = Some (fetched program s)
by_phase program s Look = Some (looked program s)
by_phase program s Drop = Some (record s { phase = Return })
by_phase program s Return = Some (returned s)
by_phase program s Leave = Some (left s)

abbrev pub unless_ended : ProgramView → State → Option ℕ → Option State
unless_ended program s (Some code) = None
unless_ended program s None = by_phase program s s.phase

-- one entry; none where the guest has ended, or what stands at pc isn't built
abbrev pub step : ProgramView → State → Option State
step program s = unless_ended program s s.code

-- the state after k entries
abbrev pub plain : ProgramView → ℕ → Option State
plain program zero = Some (start program)
plain program (suc k) = option_and_then (step program) (plain program k)

-- a try at what may lead to a next state, and whether it did: else the state is as it was
abbrev pub TriesTo : Option State → State → Bool → State → Type 0
TriesTo next old true new = next ≡ Some new
TriesTo next old false new = (next ≡ None) × (new ≡ old)

-- a try at one entry
abbrev pub Steps : ProgramView → State → Bool → State → Type 0
Steps program old done new = TriesTo (step program old) old done new

-- how a run of at most `fuel` entries ended after `count` of them
abbrev pub EndsBy : ProgramView → ℕ → ℕ → State → RunEnd → Type 0
EndsBy program fuel count s (ended.Exited code) = s.code ≡ Some code
EndsBy program fuel count s ended.FuelSpent = (count ≡ fuel) × (s.code ≡ None)
EndsBy program fuel count s (ended.NotBuilt pc) = (count < fuel) × (s.code ≡ None) × (step program s ≡ None) × (pc ≡ s.registers.pc)

-- the end of a run of a state without a further entry, by its code
abbrev pub stopped_with : ℕ → Option ℕ → RunEnd
stopped_with pc (Some code) = ended.Exited code
stopped_with pc None = ended.NotBuilt pc

abbrev pub stopped : State → RunEnd
stopped s = stopped_with s.registers.pc s.code

-- the end of a run of a state whose fuel is spent, by its code
abbrev pub spent_with : Option ℕ → RunEnd
spent_with (Some code) = ended.Exited code
spent_with None = ended.FuelSpent

abbrev pub spent : State → RunEnd
spent s = spent_with s.code
