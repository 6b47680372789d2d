-- When the interests of an epoll and those of a queue are the same: as many pass each test, in whatever order they stand. A scan
-- moves what it reports to the end, and an epoll moves nothing. This project's own.
use Rattle.std.specs.Prelude.{◌≡◌, ℕ, ◌==◌, Bool, true, ◌&&◌, ◌||◌, if◌then◌else◌, List, Option, Some, None}
use Rattle.std.proofs.Math.Bool.{not}
use Rattle.linux_abi.specs.EpollBits.{is_edge}
use Rattle.kqueue_core.specs.Changes.{tally}
use Rattle.kqueue_core.specs.declared.knotes.Knote.{Knote}
use Rattle.kqueue_core.specs.declared.knotes.Watch.{Watch}
use Rattle.kqueue_laws.specs.Pairs.{edge_bit, is_pair}
use Rattle.lx_machine.specs.declared.files.Interest.{Interest}

-- ---- one interest

-- an interest as it is compared: of one without EPOLLET it doesn't matter whether it is armed (epoll(7))
abbrev pub seen : Interest → Interest
seen i = record i { armed = i.armed && is_edge i.asked }

-- the interest of this name with the events, the word and the enabling of a knote
abbrev pub interest_by : ℕ → ℕ → Knote → Bool → Interest
interest_by file descriptor k armed = record {
  descriptor = descriptor;
  file = file;
  asked = k.asked;
  «data» = k.user;
  armed = armed;
  enabled = k.enabled;
}

-- what two knotes of a name stand for: nothing where one is missing, or where they aren't of one interest. With EPOLLET it is armed
-- exactly where one of the two is active
abbrev pub stood_by : ℕ → ℕ → Option Knote → Option Knote → Option Interest
stood_by file descriptor (Some r) (Some k) =
    if is_pair r k then Some (interest_by file descriptor r ((r.active || k.active) && edge_bit r.asked)) else None
stood_by file descriptor _ _ = None

-- the interest that an interest of a queue stands for
abbrev pub stood_for : Watch → Option Interest
stood_for w = stood_by w.file w.descriptor w.read w.write

-- ---- all interests of a queue

-- the name of an interest
pub record Name : Type 0 where
  pub file : ℕ
  pub descriptor : ℕ

-- it isn't the name that is left out, if one is
abbrev pub is_kept : Option Name → ℕ → ℕ → Bool
is_kept None file descriptor = true
is_kept (Some x) file descriptor = not ((file == x.file) && (descriptor == x.descriptor))

-- without the one of a name that is left out, the interests of an epoll are those that the interests of a queue stand for: each test
-- of a name and what stands there passes as often
abbrev pub Same : Option Name → List Interest → List Watch → Type 0
Same x is ws = (p : ℕ → ℕ → Option Interest → Bool) →
    tally (λ i. is_kept x i.file i.descriptor && p i.file i.descriptor (Some (seen i))) is
    ≡ tally (λ w. is_kept x w.file w.descriptor && p w.file w.descriptor (stood_for w)) ws
