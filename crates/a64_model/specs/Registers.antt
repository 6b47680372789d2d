-- How instructions read and write the general registers: X[] and SP[] of the Arm manual (DDI 0487, C1.2.5).
use Rattle.std.specs.Prelude.{ℕ, ◌+◌, ◌%◌, ◌^◌, ◌==◌, slice_index, slice_set, if◌then◌else◌}
use Rattle.a64_model.specs.declared.operands.Reg.{Reg}
use Rattle.a64_model.specs.declared.regs.Regs.{Regs}

-- X[n]: what a register reads, where 31 is the zero register
abbrev pub x_zr : Regs → Reg → ℕ
x_zr regs r = if r.number == 31 then 0 else slice_index regs.x r.number

-- X[n], and SP[] where n is 31
abbrev pub x_sp : Regs → Reg → ℕ
x_sp regs r = if r.number == 31 then regs.sp else slice_index regs.x r.number

-- X[n] written: a write to 31, the zero register, is lost
abbrev pub with_x_zr : Regs → Reg → ℕ → Regs
with_x_zr regs r value = if r.number == 31 then regs else record regs { x = slice_set regs.x r.number value }

-- X[n] written, and SP[] where n is 31
abbrev pub with_x_sp : Regs → Reg → ℕ → Regs
with_x_sp regs r value = if r.number == 31 then record regs { sp = value } else record regs { x = slice_set regs.x r.number value }

-- the flags written, N as bit 3, Z as bit 2, C as bit 1 and V as bit 0
abbrev pub with_flags : Regs → ℕ → Regs
with_flags regs nzcv = record regs { nzcv = nzcv }

-- at this address
abbrev pub at_pc : Regs → ℕ → Regs
at_pc regs pc = record regs { pc = pc }

-- the address of the next instruction
abbrev pub next_pc : Regs → ℕ
next_pc regs = (regs.pc + 4) % 2 ^ 64

-- at the next instruction
abbrev pub advanced : Regs → Regs
advanced regs = at_pc regs (next_pc regs)
