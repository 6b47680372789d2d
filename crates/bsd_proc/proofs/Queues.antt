-- The number of queued real-time signals, as slots change.
use Rattle.std.proofs.Common.{◌≡◌, ℕ, zero, suc, ◌+◌, ◌<◌, ◌≤◌, Bool, true, false, cond, List, [], ◌∷◌, ◌++◌, length, get_or, refl, sym, ap, ◌∙◌, arith, add-one}
use Rattle.std.specs.Prelude.{not, Option, Some, None, is_none, is_some, map, option_map, position, replicate, slice_set, sum_by, take}
use mir.Val.{bool_byte}
use Rattle.std.proofs.lemmas.List.{get_or-take, length-replicate, length-take}
use Rattle.std.proofs.lemmas.List.Folds.{sum_by-replicate}
use Rattle.std.proofs.lemmas.List.Quantifiers.{position-Some}
use Rattle.std.proofs.lemmas.List.Sums.{sum_by-cons, sum_by-set}
use Rattle.bsd_abi.specs.declared.signals.BsdSig.{BsdSig}
use Rattle.bsd_abi.specs.BsdSig.{is_real_time}
use Rattle.bsd_proc.specs.declared.lives.Life.{Life}
use Rattle.bsd_proc.specs.declared.signals.Signal.{Signal}
use Rattle.bsd_proc.specs.Actions.{without_sig}
use Rattle.bsd_proc.specs.declared.signals.Target.{Target}
use Rattle.bsd_proc.specs.declared.signals.Target.TheVariants.{All, One}
use Rattle.bsd_proc.specs.Sending.{IsTarget, queued, queued_at, queued_in}
use Rattle.bsd_proc.specs.Signals.{first_of, is_of, without_all}
use Rattle.bsd_proc.specs.Slots.{Slot, ProcessState, fresh, pending_of, with_asks}
use Rattle.bsd_proc.specs.Taking.{pending_for, without_first, without_for}
use Rattle.bsd_proc.proofs.Counts.{real_time_count-filter, real_time_count-without}

-- one slot changes
pub queued-set : (slots : List (Option Slot)) (i : ℕ) (y : Option Slot) (pending : List Signal) → i < length slots → queued_in (slice_set slots i y) pending + queued_at (get_or slots i None) ≡ queued_in slots pending + queued_at y
queued-set slots i y pending h = omega (arith, sum_by-set queued_at slots i y None h)

-- a signal leaves a slot's list
queued_at-without : (sig : BsdSig) (o : Option Slot) → is_some (first_of sig (pending_of o)) ≡ true → queued_at (option_map (without_first sig) o) + cond (is_real_time sig) 1 0 ≡ queued_at o
queued_at-without sig None e = absurd (cc)
queued_at-without sig (Some slot) e = real_time_count-without sig slot.pending e

pub queued-without : (slots : List (Option Slot)) (i : ℕ) (sig : BsdSig) (pending : List Signal) → i < length slots → is_some (first_of sig (pending_of (get_or slots i None))) ≡ true
    → queued_in (slice_set slots i (option_map (without_first sig) (get_or slots i None))) pending + cond (is_real_time sig) 1 0 ≡ queued_in slots pending
queued-without slots i sig pending h there =
    omega (arith, queued-set slots i (option_map (without_first sig) (get_or slots i None)) pending h, queued_at-without sig (get_or slots i None) there)

-- a signal leaves every list
queued_at-forgotten : (sig : BsdSig) (o : Option Slot) → queued_at (option_map (without_sig sig) o) ≤ queued_at o
queued_at-forgotten sig None = omega arith
queued_at-forgotten sig (Some slot) = real_time_count-filter (λ signal. not (is_of sig signal)) slot.pending

pub slots_forgotten : (sig : BsdSig) (slots : List (Option Slot)) → sum_by queued_at (map (option_map (without_sig sig)) slots) ≤ sum_by queued_at slots
slots_forgotten sig [] = omega arith
slots_forgotten sig (o ∷ slots) =
    omega (arith, slots_forgotten sig slots, queued_at-forgotten sig o, sum_by-cons queued_at o slots, sum_by-cons queued_at (option_map (without_sig sig) o) (map (option_map (without_sig sig)) slots))

pub queued_forgotten : (sig : BsdSig) (slots : List (Option Slot)) (pending : List Signal) → queued_in (map (option_map (without_sig sig)) slots) (without_all sig pending) ≤ queued_in slots pending
queued_forgotten sig slots pending = omega (arith, slots_forgotten sig slots, real_time_count-filter (λ signal. not (is_of sig signal)) pending)

-- asks end
queued_at-unasked : (o : Option Slot) → queued_at (option_map (with_asks false) o) ≡ queued_at o
queued_at-unasked None = refl
queued_at-unasked (Some slot) = refl

pub queued_unasked : (slots : List (Option Slot)) → sum_by queued_at (map (option_map (with_asks false)) slots) ≡ sum_by queued_at slots
queued_unasked [] = refl
queued_unasked (o ∷ slots) =
    omega (arith, queued_unasked slots, queued_at-unasked o, sum_by-cons queued_at o slots, sum_by-cons queued_at (option_map (with_asks false) o) (map (option_map (with_asks false)) slots))

-- of free slots and a fresh one nothing is queued
pub queued_started : (tid : ℕ) (life : Life) → sum_by queued_at (slice_set (replicate 128 None) 0 (Some (fresh tid life))) ≡ 0
queued_started tid life =
    let none : Option Slot = None in
    let within : 0 < length (replicate 128 none) = omega (arith, length-replicate 128 none) in
    omega (arith, sum_by-set queued_at (replicate 128 none) 0 (Some (fresh tid life)) None within, sum_by-replicate queued_at 128 none)

-- the slot that is found is free
free-none : (o : Option Slot) → is_none o ≡ true → queued_at o ≡ 0
free-none None e = refl
free-none (Some slot) e = absurd (cc)

pub queued-reserved : (n : ℕ) (slots : List (Option Slot)) (pending : List Signal) (i tid : ℕ) (life : Life) → n ≤ length slots → position is_none (take n slots) ≡ Some i
    → queued_in (slice_set slots i (Some (fresh tid life))) pending ≡ queued_in slots pending
queued-reserved n slots pending i tid life long e =
    let found = position-Some is_none (take n slots) i None e in
    let below : i < n = omega (arith, found.0, length-take n slots) in
    let same : get_or (take n slots) i None ≡ get_or slots i None = get_or-take n slots i None below in
    let free : queued_at (get_or slots i None) ≡ 0 = free-none (get_or slots i None) (sym (ap is_none same) ∙ found.1) in
    omega (arith, queued-set slots i (Some (fresh tid life)) pending (omega (arith, below, long)), free)

-- one element more
pub replicate-push : {X : Type 0} (n : ℕ) (x : X) → replicate n x ++ x ∷ [] ≡ replicate (n + 1) x
replicate-push zero x = refl
replicate-push (suc n) x = rw add-one (ap (λ xs. x ∷ xs) (replicate-push n x ∙ rw add-one refl))

-- a signal leaves the target's list
pub queued-taken : (p : ProcessState) (t : Target) (sig : BsdSig) → IsTarget t → length p.slots ≡ 128 → is_some (first_of sig (pending_for p t)) ≡ true
    → queued (without_for p t sig) + cond (is_real_time sig) 1 0 ≡ queued p
queued-taken p All sig within long there = omega (arith, real_time_count-without sig p.pending there)
queued-taken p (One s) sig within long there = queued-without p.slots s sig p.pending (omega (arith, within, long)) there

-- 1 for a signal that is counted
pub byte-one : (b : Bool) → bool_byte b ≡ cond b 1 0
byte-one true = refl
byte-one false = refl
