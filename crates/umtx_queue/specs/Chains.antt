-- A chain: one queue of FreeBSD's umtx. Source: FreeBSD _umtx_op(2); the busy mark is that of its kernel's umtxq_busy.
use Rattle.std.specs.Prelude.{ℕ, Bool, true, ◌==◌, Option, Some, None}
use Rattle.umtx_queue.specs.Lines.{Line, empty_line}
use Rattle.umtx_queue.specs.PiLines.{PiLine, empty_pi_line}

-- the slot whose busy mark stands, the line of waits, and the line of waits for locks that name their owner
pub record ChainState : Type 0 where
  pub marked : Option ℕ
  pub line : Line
  pub pi : PiLine

-- nobody's mark stands, and nobody waits
abbrev pub empty_chain : ChainState
empty_chain = record { marked = None; line = empty_line; pi = empty_pi_line }

-- whether a slot may make a chain busy: no other slot's mark stands
abbrev pub is_free_for : ℕ → Option ℕ → Bool
is_free_for slot None = true
is_free_for slot (Some other) = other == slot
