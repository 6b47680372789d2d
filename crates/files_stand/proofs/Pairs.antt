-- The interest that a pair of knotes stands for: when it is due, what it reports, what a report leaves of it.
use Rattle.std.proofs.Common.{◌≡◌, ℕ, Bool, true, false, not, ◌||◌, ◌&&◌, Option, Some, None, refl, ap}
use Rattle.std.specs.Prelude.{◌==◌, is_some}
use Rattle.std.specs.Option.{option_map}
use Rattle.linux_abi.specs.EpollBits.{is_edge, is_one_shot, wanted}
use Rattle.kqueue_core.specs.declared.knotes.Knote.{Knote}
use Rattle.kqueue_core.specs.Knotes.{told_knote}
use Rattle.kqueue_core.specs.Reports.{is_reported, watch_bits}
use Rattle.kqueue_laws.specs.Pairs.{edge_bit, is_lost, is_pair, knote_of, one_shot_bit}
use Rattle.kqueue_laws.proofs.Pairs.{IsWhole, pair_bits, pair_due, pair_of, watch_with, whole_by}
use Rattle.lx_machine.specs.Epoll.{is_due, ready_at, reported, told}
use Rattle.lx_machine.specs.Interests.{reported_once}
use Rattle.lx_machine.specs.Lists.{at_place}
use Rattle.lx_machine.specs.declared.files.Files.{Files}
use Rattle.lx_machine.specs.declared.files.Interest.{Interest}
use Rattle.open_files.specs.Plain.{readiness}
use Rattle.files_stand.specs.Same.{seen, stood_by}
use Rattle.files_stand.proofs.Halves.{halved, tells}

pub whole_stood : (f d : ℕ) (r k : Option Knote) → is_some (stood_by f d r k) ≡ true → IsWhole r k
whole_stood f d None k h = let z : false ≡ true = h in absurd (cc)
whole_stood f d (Some r) None h = let z : false ≡ true = h in absurd (cc)
whole_stood f d (Some r) (Some k) h = by (is_pair r k) refl
  where
    by : (b : Bool) → is_pair r k ≡ b → IsWhole (Some r) (Some k)
    by true e = whole_by r k e
    by false e = let g = rw e at h in let z : false ≡ true = g in absurd (cc)

abbrev pub interest_in : ℕ → ℕ → ℕ → ℕ → Bool → Bool → Interest
interest_in f d asked user enabled active = record { descriptor = d; file = f; asked = asked; «data» = user; armed = active && edge_bit asked; enabled = enabled }

pub stood_pair : (f d asked user : ℕ) (enabled x y : Bool) → stood_by f d (Some (knote_of asked user enabled x)) (Some (knote_of asked user enabled y)) ≡ Some (interest_in f d asked user enabled (x || y))
stood_pair f d asked user enabled x y = rw (pair_of asked user enabled x y) refl

-- its bits are those of the interest
pub pair_told : (F : Files) (f d asked user : ℕ) (enabled x y : Bool) → watch_bits (readiness F) (watch_with f d (Some (knote_of asked user enabled x)) (Some (knote_of asked user enabled y))) ≡ told F f asked
pair_told F f d asked user enabled x y = pair_bits (readiness F) f d (ready_at F (at_place F.files f)) asked user (tells F f) (halved F (at_place F.files f) (wanted asked)) enabled x y

abbrev pub passes : (Interest → Bool) → Option Interest → Bool
passes t None = false
passes t (Some i) = t i

-- a pair that stands for a due interest is reported, unless it is lost
pub due_whole : (F : Files) (f d : ℕ) (r k : Option Knote) → IsWhole r k → (passes (is_due F) (stood_by f d r k) && not (is_lost (readiness F) (watch_with f d r k))) ≡ is_reported (readiness F) (watch_with f d r k)
due_whole F f d r k h =
    rw (h.read, h.write) (rw (stood_pair f d h.asked h.user h.enabled h.reads h.writes)
    (pair_due (readiness F) f d (ready_at F (at_place F.files f)) h.asked h.user (tells F f) (halved F (at_place F.files f) (wanted h.asked)) h.enabled h.reads h.writes))

-- that it is seen makes no difference to what is due
seen_by : (e a edge z : Bool) → (e && ((a && edge) || not edge) && not z) ≡ (e && (a || not edge) && not z)
seen_by e true true z = refl
seen_by e true false z = refl
seen_by e false true z = refl
seen_by e false false z = refl

pub seen_due : (F : Files) (i : Interest) → is_due F (seen i) ≡ is_due F i
seen_due F i = seen_by i.enabled i.armed (is_edge i.asked) (reported F i == 0)

-- ---- a report

once_by : (x y edge : Bool) → (((x && not edge) || (y && not edge)) && edge) ≡ (((x || y) && edge) && not edge)
once_by true true true = refl
once_by true false true = refl
once_by false true true = refl
once_by false false true = refl
once_by true y false = refl
once_by false true false = refl
once_by false false false = refl

pub told_whole : (f d : ℕ) (r k : Option Knote) → IsWhole r k → stood_by f d (told_knote r) (told_knote k) ≡ option_map reported_once (stood_by f d r k)
told_whole f d r k h =
    rw (h.read, h.write) (rw (stood_pair f d h.asked h.user h.enabled h.reads h.writes, pair_of h.asked h.user (h.enabled && not (one_shot_bit h.asked)) (h.reads && not (edge_bit h.asked)) (h.writes && not (edge_bit h.asked)), once_by h.reads h.writes (edge_bit h.asked)) refl)

once_seen : (a edge : Bool) → ((a && not edge) && edge) ≡ ((a && edge) && not edge)
once_seen true true = refl
once_seen true false = refl
once_seen false edge = refl

abbrev with_armed : Interest → Bool → Interest
with_armed i b = record i { armed = b; enabled = i.enabled && not (is_one_shot i.asked) }

pub seen_once : (i : Interest) → seen (reported_once i) ≡ reported_once (seen i)
seen_once i = ap (with_armed i) (once_seen i.armed (is_edge i.asked))
