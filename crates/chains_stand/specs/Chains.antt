-- Chains by their numbers, and what a change of some of them leaves. Source: FreeBSD's kernel keeps the waiters of _umtx_op(2) in
-- chains; that they have numbers is this project's own.
use Rattle.std.specs.Prelude.{ℕ, Bool, if◌then◌else◌, ◌==◌}
use Rattle.umtx_queue.specs.Lines.{Line}
use Rattle.umtx_queue.specs.PiLines.{PiLine}
use Rattle.umtx_queue.specs.Chains.{ChainState}

-- those of these numbers change
abbrev pub at_chains : {X : Type 0} → (ℕ → Bool) → (X → X) → (ℕ → X) → ℕ → X
at_chains among f V c = if among c then f (V c) else V c

-- one of them changes
abbrev pub at_chain : {X : Type 0} → ℕ → (X → X) → (ℕ → X) → ℕ → X
at_chain d f V c = at_chains (λ k. k == d) f V c

-- the lines of the chains, and their second lines
abbrev pub lines_of : (ℕ → ChainState) → ℕ → Line
lines_of V c = (V c).line

abbrev pub pis_of : (ℕ → ChainState) → ℕ → PiLine
pis_of V c = (V c).pi

-- a chain whose line changes, or its second line
abbrev pub on_line : (Line → Line) → ChainState → ChainState
on_line f ch = record ch { line = f ch.line }

abbrev pub on_pi : (PiLine → PiLine) → ChainState → ChainState
on_pi f ch = record ch { pi = f ch.pi }
