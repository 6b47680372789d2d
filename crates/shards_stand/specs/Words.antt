-- Futex words, and the instruction that is fetched, on the shards.
-- Source: futex(2); mmap(2) for rights; that the code is fixed is this project's own.
use Rattle.std.specs.Prelude.{ℕ, ◌&&◌, Option, Some, None, if◌then◌else◌, pos}
use Rattle.a64_model.specs.Rows.{row}
use Rattle.linux_abi.specs.declared.signals.LinuxSig.TheVariants as signal
use Rattle.places.specs.Places.{number_at}
use Rattle.page_store.specs.Pages.{Pages}
use Rattle.lx_memory.specs.declared.right.Right.TheVariants.{Read, Write}
use Rattle.lx_machine.specs.Instruction.{Ran, executed, leaves}
use Rattle.lx_machine.specs.Threads.{trapped}
use Rattle.lx_machine.specs.declared.threads.LxThread.{LxThread}
use Rattle.machine_parts.specs.Parts.{Parts}
use Rattle.shards_stand.specs.Pieces.{bytes_in, may_copy}

-- ---- futex words

-- the word of 4 bytes at an address
abbrev pub word_in : Parts → ℕ → ℕ
word_in M at = number_at (bytes_in M at 4) 0 4

-- the word, if it may be read
abbrev pub readable_word_in : Parts → ℕ → Option ℕ
readable_word_in M at = if may_copy Read M at 4 then Some (word_in M at) else None

-- the word, if it may be written
abbrev pub writable_word_in : Parts → ℕ → Option ℕ
writable_word_in M at = if may_copy Write M at 4 then Some (word_in M at) else None

-- the word, if it may be read and written
abbrev pub lock_word_in : Parts → ℕ → Option ℕ
lock_word_in M at = if may_copy Read M at 4 && may_copy Write M at 4 then Some (word_in M at) else None

-- ---- the instruction

-- what the Linux thread does with the word that was fetched: it executes it, or traps where there is none
abbrev pub ran_word : Pages → LxThread → Option ℕ → Ran
ran_word pages t (Some word) = executed pages t (row word)
ran_word pages t None = leaves pages (trapped t signal.SIGSEGV (pos 0) t.regs.pc)
