-- Notes: where the notes of a waiter lead, in chains that owe nothing. A waiter is named by its slot and place, as one number.
-- Source: FreeBSD's kernel changes the sleeping thread's own entry (UMTX_OP_WAKE of _umtx_op(2)); that a chain keeps a note until
-- the thread looks is this project's own.
use Rattle.std.specs.Prelude.{◌≡◌, ℕ, zero, suc, Bool, true, Option, Some, None}
use Rattle.std.specs.List.{All, list_any}
use Rattle.umtx_queue.specs.declared.waiter.Waiter.{Waiter}
use Rattle.umtx_queue.specs.declared.waiter.Looked.{Looked}
use Rattle.umtx_queue.specs.declared.waiter.Looked.TheVariants as looked
use Rattle.umtx_queue.specs.Waiters.{who, has_key, AreWaiters}
use Rattle.umtx_queue.specs.Lines.{Line, finds}
use Rattle.places.specs.Places.{chain}

-- what a slot and place finds in each chain
abbrev pub finds_in : (ℕ → Line) → ℕ → ℕ → Option Looked
finds_in V i c = finds (V c) i

-- n notes lead from chain p to chain c
abbrev pub Leads : ℕ → (ℕ → Option Looked) → ℕ → ℕ → Type 0
Leads zero look p c = p ≡ c
Leads (suc n) look p c = (k : ℕ) × (look p ≡ Some (looked.Moved k)) × Leads n look (chain k) c

-- a way ends where the slot and place is queued or woken
abbrev pub IsEnd : Option Looked → Type 0
IsEnd None = ⊥
IsEnd (Some looked.Queued) = Unit {0}
IsEnd (Some looked.Woken) = Unit {0}
IsEnd (Some (looked.Moved key)) = ⊥

-- a place of a wait: the address at which it looks, its own or that of the note that it last followed, and whether it is one of
-- many (futex_waitv(2))
pub record Sleeper : Type 0 where
  pub at : ℕ
  pub many : Bool

-- from where it looks its notes lead to the chain where it is queued or woken; one of many places is never moved
pub record Waits (V : ℕ → Line) (i : ℕ) (h : Sleeper) : Type 0 where
  pub last : ℕ
  pub moves : ℕ
  pub way : Leads moves (finds_in V i) (chain h.at) last
  pub found : IsEnd (finds_in V i last)
  pub stays : h.many ≡ true → moves ≡ 0

-- a slot and place that is queued in chain c: it waits, and its notes lead to c
pub record IsAwaited (sleepers : ℕ → Option Sleeper) (V : ℕ → Line) (i c : ℕ) : Type 0 where
  pub sleeper : Sleeper
  pub sleeps : sleepers i ≡ Some sleeper
  pub moves : ℕ
  pub way : Leads moves (finds_in V i) (chain sleeper.at) c

-- the waiter of a place: it says whether this is one of many, and then it has the place's own address
pub record IsWaiterOf (h : Sleeper) (w : Waiter) : Type 0 where
  pub many : w.many ≡ h.many
  pub own : h.many ≡ true → w.key ≡ h.at

-- a waiter is that of the place for which it stands, if this waits
abbrev pub FitsSleeper : (ℕ → Option Sleeper) → Waiter → Type 0
FitsSleeper sleepers w = (h : Sleeper) → sleepers (who w) ≡ Some h → IsWaiterOf h w

-- each chain has waiters of its own addresses, each slot and place once, and of places that wait; each place that waits is queued or
-- woken at the end of its way
pub record NotesLead (sleepers : ℕ → Option Sleeper) (V : ℕ → Line) : Type 0 where
  pub keys : (c a : ℕ) → list_any (has_key a) (V c).waiters ≡ true → chain a ≡ c
  pub waiters : (c : ℕ) → AreWaiters (V c).waiters
  pub fit : (c : ℕ) → All (FitsSleeper sleepers) (V c).waiters
  pub awaited : (c i : ℕ) → finds_in V i c ≡ Some looked.Queued → IsAwaited sleepers V i c
  pub waits : (i : ℕ) (h : Sleeper) → sleepers i ≡ Some h → Waits V i h
