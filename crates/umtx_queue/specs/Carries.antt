-- The waiters that a requeue carries from one chain to another. Source: Linux's futex(2) (FUTEX_REQUEUE); that they are carried
-- from chain to chain is this project's own.
use Rattle.std.specs.Prelude.{◌≡◌, ℕ, ◌≤◌, false, List}
use Rattle.std.specs.List.{All}
use Rattle.umtx_queue.specs.declared.waiter.Waiter.{Waiter}
use Rattle.umtx_queue.specs.Lists.{tally}
use Rattle.umtx_queue.specs.Waiters.{IsWaiter, is_of_slot, is_queued, who}

-- what a carry holds: waiters of plain waits, of slots that differ
pub record IsCarry (ws : List Waiter) : Type 0 where
  pub each : All IsWaiter ws
  pub plain : All (λ w. w.many ≡ false) ws
  pub once : (slot : ℕ) → tally (is_of_slot slot) ws ≤ 1

-- none of these waiters is queued among the others
abbrev pub AreApart : List Waiter → List Waiter → Type 0
AreApart ws others = All (λ w. is_queued (who w) others ≡ false) ws
