-- What is said of a tid among waiters is said of its slot, and tids differ however slots change.
use Rattle.std.proofs.Common.{◌≡◌, ◌≢◌, ℕ, zero, suc, ◌+◌, ◌<◌, Bool, true, false, not, ◌&&◌, ◌||◌, ◌==◌, List, [], ◌∷◌, map, filter, Option, Some, None, refl, sym, ap, ◌∙◌, arith, ◌⊎◌, inl, inr}
use Rattle.std.specs.List.{list_any}
use Rattle.std.specs.Prelude.{if◌then◌else◌, slice_index_or, slice_set}
use Rattle.std.proofs.lemmas.Bool.Decides.{nat_tests}
use Rattle.lx_machine.specs.Queue.{is_place, is_place_queued, is_queued, is_thread, without_waiters_of}
use Rattle.lx_machine.specs.declared.threads.LxWaiter.{LxWaiter}
use Rattle.lx_machine.proofs.Differ.{any_mapped}
use Rattle.umtx_queue.specs.Waiters.{is_of_slot, without_slot}
use Rattle.umtx_queue.specs.declared.waiter.Waiter.{Waiter}
use Rattle.bsd_proc.specs.Births.{reserved}
use Rattle.bsd_proc.specs.Slots.{ProcessState, Slot, fresh, slot_at}
use Rattle.bsd_proc.specs.declared.lives.Life.TheVariants.{Reserved}
use Rattle.threads_stand.specs.Slots.{TidsDiffer, tid_in, tid_of}
use Rattle.threads_stand.proofs.Mapped.{filter_mapped}

-- ---- a slot's tid

-- that of a slot in use is no other slot's
pub tid_apart : (p : ProcessState) (s : ℕ) (slot : Slot) → TidsDiffer p → slot_at p s ≡ Some slot → (x : ℕ) → x ≢ s
    → tid_of p x ≢ tid_of p s
tid_apart p s slot d there x ne e = by (slot_at p x) refl
  where
    here : tid_of p s ≡ slot.tid
    here = ap tid_in there

    by : (o : Option Slot) → slot_at p x ≡ o → ⊥
    by None f = let a = d.above s slot there in let g : tid_of p x ≡ 0 = ap tid_in f in omega (arith, here)
    by (Some other) f = d.differ s x slot other ne there f (sym (ap tid_in f) ∙ e ∙ here)

-- ---- waiters

-- waiters whose tids are those of their slots
module _ (tids : ℕ → ℕ) (s : ℕ) (apart : (x : ℕ) → x ≢ s → tids x ≢ tids s) where
  same_tid : (x : ℕ) → (tids x == tids s) ≡ (x == s)
  same_tid x = by (same_or_not x)
    where
      same_or_not : (x : ℕ) → (x ≡ s) ⊎ (x ≢ s)
      same_or_not x = grind arith

      by : (x ≡ s) ⊎ (x ≢ s) → (tids x == tids s) ≡ (x == s)
      by (inl e) = let f : tids x ≡ tids s = ap tids e in grind (arith, nat_tests)
      by (inr ne) = let f = apart x ne in grind (arith, nat_tests)

  module _ (f : Waiter → LxWaiter) (is : (w : Waiter) → (f w).tid ≡ tids w.slot) where
    pub same_waiter : (w : Waiter) → is_thread (tids s) (f w) ≡ is_of_slot s w
    same_waiter w = ap (λ (n : ℕ). n == tids s) (is w) ∙ same_tid w.slot

    pub queued_is : (ws : List Waiter) → is_queued (tids s) (map f ws) ≡ list_any (is_of_slot s) ws
    queued_is ws = any_mapped f (is_thread (tids s)) (is_of_slot s) same_waiter ws

    pub without_is : (ws : List Waiter) → without_waiters_of (tids s) (map f ws) ≡ map f (without_slot s ws)
    without_is ws = filter_mapped f (λ v. not (is_thread (tids s) v)) (λ w. not (is_of_slot s w)) (λ w. ap not (same_waiter w)) ws

    -- a place of its wait
    pub place_queued_is : ((w : Waiter) → (f w).place ≡ w.place) → (place : ℕ) (ws : List Waiter)
        → is_place_queued (tids s) place (map f ws) ≡ list_any (λ w. is_of_slot s w && (w.place == place)) ws
    place_queued_is same place ws =
        any_mapped f (is_place (tids s) place) (λ w. is_of_slot s w && (w.place == place))
        (λ w. ap (λ (b : Bool). b && ((f w).place == place)) (same_waiter w) ∙ ap (λ (n : ℕ). is_of_slot s w && (n == place)) (same w)) ws

-- a tid that is queued at no address is not queued
abbrev at_address : ℕ → LxWaiter → Bool
at_address a w = w.address == a

address_self : (n : ℕ) → (n == n) ≡ true
address_self n = grind (arith, nat_tests)

neither : (a b : Bool) → (a || b) ≡ false → (a ≡ false) × (b ≡ false)
neither false b h = (refl, h)
neither true b h = absurd (cc)

pub nowhere_queued : (tid : ℕ) (ws : List LxWaiter) → ((a : ℕ) → is_queued tid (filter (at_address a) ws) ≡ false)
    → is_queued tid ws ≡ false
nowhere_queued tid [] none = refl
nowhere_queued tid (w ∷ ws) none = both (is_thread tid w) (is_queued tid ws) here (nowhere_queued tid ws later)
  where
    both : (a b : Bool) → a ≡ false → b ≡ false → (a || b) ≡ false
    both false false e f = refl
    both true b e f = absurd (cc)
    both false true e f = absurd (cc)

    kept : (b : Bool) → b ≡ true
        → is_queued tid (if b then (w ∷ filter (at_address w.address) ws) else filter (at_address w.address) ws) ≡ false
        → is_thread tid w ≡ false
    kept true e f = (neither (is_thread tid w) (is_queued tid (filter (at_address w.address) ws)) f).0
    kept false e f = absurd (cc)

    here : is_thread tid w ≡ false
    here = kept (at_address w.address w) (address_self w.address) (none w.address)

    passed : (a : ℕ) (b : Bool) → is_queued tid (if b then (w ∷ filter (at_address a) ws) else filter (at_address a) ws) ≡ false
        → is_queued tid (filter (at_address a) ws) ≡ false
    passed a true e = (neither (is_thread tid w) (is_queued tid (filter (at_address a) ws)) e).1
    passed a false e = e

    later : (a : ℕ) → is_queued tid (filter (at_address a) ws) ≡ false
    later a = passed a (at_address a w) (none a)

-- ---- tids differ however slots change

-- where no slot gets another tid
pub tids_kept : (p q : ProcessState) → TidsDiffer p → q.next_tid ≡ p.next_tid
    → ((s : ℕ) (slot : Slot) → slot_at q s ≡ Some slot → (old : Slot) × (slot_at p s ≡ Some old) × (old.tid ≡ slot.tid)) → TidsDiffer q
tids_kept p q d same was = record {
  next = (let a = d.next in omega arith);
  above = λ s slot there. (let w = was s slot there in let a = d.above s w.0 w.1 in let e = w.2 in omega arith);
  below = λ s slot there. (let w = was s slot there in let a = d.below s w.0 w.1 in let e = w.2 in omega arith);
  differ = λ s x slot other ne here there e.
      (let v = was s slot here in let w = was x other there in d.differ s x v.0 w.0 ne v.1 w.1 (w.2 ∙ e ∙ sym v.2));
}

-- a place of a list of places, after a write
written_at : {X : Type 0} (xs : List (Option X)) (s x : ℕ) (v : Option X) (w : X) → slice_index_or (slice_set xs s v) x None ≡ Some w
    → ((x ≡ s) × (v ≡ Some w)) ⊎ ((x ≢ s) × (slice_index_or xs x None ≡ Some w))
written_at [] s x v w e = absurd (cc)
written_at (y ∷ xs) zero zero v w e = inl (refl, e)
written_at (y ∷ xs) zero (suc x) v w e = inr ((λ f. (cc)), e)
written_at (y ∷ xs) (suc s) zero v w e = inr ((λ f. (cc)), e)
written_at (y ∷ xs) (suc s) (suc x) v w e = elim (written_at xs s x v w e) [
  | inl here ↦ inl (ap suc here.0, here.1)
  | inr there ↦ inr ((λ f. there.0 (omega arith)), there.1)
]

-- where a slot is reserved for the next tid
pub tids_reserved : (p : ProcessState) (s : ℕ) → TidsDiffer p → TidsDiffer (reserved p s)
tids_reserved p s d = record {
  next = (let a = d.next in omega arith);
  above = λ x slot there. at_above x slot (written_at p.slots s x (Some (fresh p.next_tid Reserved)) slot there);
  below = λ x slot there. at_below x slot (written_at p.slots s x (Some (fresh p.next_tid Reserved)) slot there);
  differ = λ x y slot other ne here there.
      at_differ x y slot other ne (written_at p.slots s x (Some (fresh p.next_tid Reserved)) slot here) (written_at p.slots s y (Some (fresh p.next_tid Reserved)) other there);
}
  where
    New : ℕ → Slot → Type 0
    New x slot = (x ≡ s) × (Some (fresh p.next_tid Reserved) ≡ Some slot)

    Old : ℕ → Slot → Type 0
    Old x slot = (x ≢ s) × (slot_at p x ≡ Some slot)

    new_tid : (slot : Slot) → Some (fresh p.next_tid Reserved) ≡ Some slot → p.next_tid ≡ slot.tid
    new_tid slot e = let f : fresh p.next_tid Reserved ≡ slot = cc in ap (λ (z : Slot). z.tid) f

    at_above : (x : ℕ) (slot : Slot) → New x slot ⊎ Old x slot → 0 < slot.tid
    at_above x slot (inl new) = let a = d.next in let e = new_tid slot new.1 in omega arith
    at_above x slot (inr old) = d.above x slot old.1

    at_below : (x : ℕ) (slot : Slot) → New x slot ⊎ Old x slot → slot.tid < p.next_tid + 1
    at_below x slot (inl new) = let e = new_tid slot new.1 in omega arith
    at_below x slot (inr old) = let a = d.below x slot old.1 in omega arith

    at_differ : (x y : ℕ) (slot other : Slot) → y ≢ x → New x slot ⊎ Old x slot → New y other ⊎ Old y other → other.tid ≢ slot.tid
    at_differ x y slot other ne (inl new) (inl also) e = ne (also.0 ∙ sym new.0)
    at_differ x y slot other ne (inl new) (inr old) e = let f = new_tid slot new.1 in let a = d.below y other old.1 in omega arith
    at_differ x y slot other ne (inr old) (inl new) e = let f = new_tid other new.1 in let a = d.below x slot old.1 in omega arith
    at_differ x y slot other ne (inr old) (inr also) e = d.differ x y slot other ne old.1 also.1 e

-- at boot
pub tids_started : (p : ProcessState) (slot : Slot) (rest : List (Option Slot)) → p.slots ≡ Some slot ∷ rest
    → ((s : ℕ) → slice_index_or rest s None ≡ None) → 0 < slot.tid → slot.tid < p.next_tid → TidsDiffer p
tids_started p slot rest is free positive less = record {
  next = omega arith;
  above = λ s other there. (let e = only s other there in let f : other.tid ≡ slot.tid = ap (λ (z : Slot). z.tid) (sym e.1) in omega arith);
  below = λ s other there. (let e = only s other there in let f : other.tid ≡ slot.tid = ap (λ (z : Slot). z.tid) (sym e.1) in omega arith);
  differ = λ s x one other ne here there e. ne ((only x other there).0 ∙ sym (only s one here).0);
}
  where
    at : (s : ℕ) (other : Slot) → slice_index_or (Some slot ∷ rest) s None ≡ Some other → (s ≡ 0) × (slot ≡ other)
    at zero other e = (refl, cc)
    at (suc s) other e = absurd (let f = free s in cc)

    only : (s : ℕ) (other : Slot) → slot_at p s ≡ Some other → (s ≡ 0) × (slot ≡ other)
    only s other e = at s other (sym (ap (λ (l : List (Option Slot)). slice_index_or l s None) is) ∙ e)
