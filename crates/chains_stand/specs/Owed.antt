-- What a busy thread still has to do, and the chains after it. Source: Linux's futex(2) and FreeBSD _umtx_op(2) for what is done;
-- that a thread does it chain by chain is this project's own.
use Rattle.std.specs.Prelude.{ℕ, ◌+◌, Bool, if◌then◌else◌, List, [], ◌∷◌, length}
use Rattle.umtx_queue.specs.declared.waiter.Waiter.{Waiter}
use Rattle.umtx_queue.specs.declared.pi.PiWaiter.{PiWaiter}
use Rattle.umtx_queue.specs.Lists.{first_of}
use Rattle.umtx_queue.specs.Waiters.{matches}
use Rattle.umtx_queue.specs.Lines.{carried, joined, Line, signalled, taken}
use Rattle.umtx_queue.specs.PiLines.{pi_handed, pi_joined}
use Rattle.umtx_queue.specs.Chains.{ChainState}
use Rattle.places.specs.Places.{chain}
use Rattle.chains_stand.specs.Chains.{at_chain, on_line, on_pi}

-- one thing that a thread does to a chain
pub data Op : Type 0 where
  -- wakes the first n at an address with one of these bits
  Signal : ℕ → ℕ → ℕ → Op
  -- takes the first n of plain waits at an address out into its carry, for another address; the answer may count them
  Take : Bool → ℕ → ℕ → ℕ → Op
  -- puts its carry into the chain of an address
  Join : ℕ → Op
  -- queues
  Enter : Waiter → Op
  -- queues for a lock
  EnterPi : PiWaiter → Op
  -- hands a lock to the first that waits for it
  Hand : ℕ → Op

-- the chains, with the thread's carry and what it has counted
pub record Work : Type 0 where
  pub chains : ℕ → ChainState
  pub carry : List Waiter
  pub answer : ℕ

-- the chain where it is done
abbrev pub chain_of_op : Op → ℕ
chain_of_op (Signal a n bits) = chain a
chain_of_op (Take counts a n b) = chain a
chain_of_op (Join b) = chain b
chain_of_op (Enter x) = chain x.key
chain_of_op (EnterPi x) = chain x.key
chain_of_op (Hand a) = chain a

-- what it does to this chain, with this carry
abbrev pub done : Op → List Waiter → ChainState → ChainState
done (Signal a n bits) ws = on_line (λ l. signalled l a n bits)
done (Take counts a n b) ws = on_line (λ l. taken l a n b)
done (Join b) ws = on_line (λ l. joined l ws)
done (Enter x) ws = on_line (λ l. joined l (x ∷ []))
done (EnterPi x) ws = on_pi (λ l. pi_joined l x)
done (Hand a) ws = on_pi (λ l. pi_handed l a)

-- what is carried afterwards, where the chain's line was this
abbrev pub carry_after : Op → List Waiter → Line → List Waiter
carry_after (Take counts a n b) ws l = carried l a n b
carry_after (Join b) ws l = []
carry_after o ws l = ws

-- how many waiters it counts
abbrev pub counted : Op → Line → ℕ
counted (Signal a n bits) l = length (first_of (matches a bits) n l.waiters)
counted (Take counts a n b) l = if counts then length (carried l a n b) else 0
counted o l = 0

-- the line of its chain
abbrev pub line_at : Op → Work → Line
line_at o w = (w.chains (chain_of_op o)).line

-- the work once this is done
abbrev pub run_op : Op → Work → Work
run_op o w = record {
  chains = at_chain (chain_of_op o) (done o w.carry) w.chains;
  carry = carry_after o w.carry (line_at o w);
  answer = w.answer + counted o (line_at o w);
}

-- and once all of this is done, in this order
abbrev pub run : List Op → Work → Work
run [] w = w
run (o ∷ os) w = run os (run_op o w)

-- P of the chain of each
abbrev pub EachAt : (ℕ → Type 0) → List Op → Type 0
EachAt P [] = Unit {0}
EachAt P (o ∷ os) = P (chain_of_op o) × EachAt P os
