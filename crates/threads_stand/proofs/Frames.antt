-- What keeps the clauses: entries that change one thread and its slot, and writes.
use Rattle.std.proofs.Common.{◌≡◌, ◌≢◌, ℕ, zero, suc, ◌+◌, ◌-◌, ◌<◌, ◌==◌, Bool, true, false, List, [], ◌∷◌, length, Option, Some, None, if◌then◌else◌, refl, sym, ap, ◌∙◌, subst, arith, ◌⊎◌, inl, inr}
use Rattle.std.proofs.lemmas.Bool.Decides.{nat_tests}
use Rattle.places.specs.Places as place
use Rattle.lx_machine.specs.Lists.{at_place}
use Rattle.lx_machine.specs.Threads.{after_write, mark_left, unmarked, unmarked_from}
use Rattle.lx_machine.specs.declared.state.LinuxState.{LinuxState}
use Rattle.places.specs.declared.limits.TheConstants.{SLOTS}
use Rattle.lx_machine.specs.declared.threads.LxThread.{LxThread}
use Rattle.bsd_proc.specs.Slots.{ProcessState, Slot, slot_at}
use Rattle.bsd_proc.specs.declared.lives.Life.{Life}
use Rattle.bsd_proc.specs.declared.lives.Life.TheVariants.{Reserved, Live, Dying}
use Rattle.bsd_thread.specs.declared.thread.ThreadState.{ThreadState}
use Rattle.threads_stand.specs.Phases.{Fits}
use Rattle.threads_stand.specs.Slots.{SlotFits, ThreadsSound, TidsDiffer}
use Rattle.threads_stand.specs.Stands.{InUse, ThreadStands, ThreadsStand}

same_or_not : (i j : ℕ) → (j ≡ i) ⊎ (j ≢ i)
same_or_not i j = grind arith

-- ---- one thread, its slot and its place change

module _ (threads now : ℕ → Option ThreadState) (s : ℕ) (t : ThreadState) (here : now s ≡ Some t) (others : (x : ℕ) → x ≢ s → now x ≡ threads x) (p q : ProcessState) (slots : (x : ℕ) → x ≢ s → slot_at q x ≡ slot_at p x) where
  is_here : (u : ThreadState) → now s ≡ Some u → t ≡ u
  is_here u e = let f = here in cc

  pub sound_own : ThreadsSound threads p → t.slot ≡ s → Fits t.call t.phase → SlotFits q.rules t (slot_at q s) → q.rules ≡ p.rules
      → length q.slots ≡ length p.slots → TidsDiffer q → ThreadsSound now q
  sound_own ok numbered fits lives rules room tids = record {
    there = λ x less. at_there x less (same_or_not s x);
    numbered = λ x u e. at_number x u e (same_or_not s x);
    fits = λ x u e. at_fits x u e (same_or_not s x);
    lives = λ x u e. at_lives x u e (same_or_not s x);
    slots = room ∙ ok.slots;
    tids = tids;
  }
    where
      was : (x : ℕ) (u : ThreadState) → x ≢ s → now x ≡ Some u → threads x ≡ Some u
      was x u ne e = sym (others x ne) ∙ e

      own : (x : ℕ) (u : ThreadState) → x ≡ s → now x ≡ Some u → t ≡ u
      own x u same e = is_here u (sym (ap now same) ∙ e)

      at_there : (x : ℕ) → x < SLOTS → (x ≡ s) ⊎ (x ≢ s) → (u : ThreadState) × (now x ≡ Some u)
      at_there x less (inl e) = (t, ap now e ∙ here)
      at_there x less (inr ne) = let u = ok.there x less in (u.0, others x ne ∙ u.1)

      at_number : (x : ℕ) (u : ThreadState) → now x ≡ Some u → (x ≡ s) ⊎ (x ≢ s) → u.slot ≡ x
      at_number x u e (inl same) = sym (ap (λ (z : ThreadState). z.slot) (own x u same e)) ∙ numbered ∙ sym same
      at_number x u e (inr ne) = ok.numbered x u (was x u ne e)

      at_fits : (x : ℕ) (u : ThreadState) → now x ≡ Some u → (x ≡ s) ⊎ (x ≢ s) → Fits u.call u.phase
      at_fits x u e (inl same) = subst (λ (z : ThreadState). Fits z.call z.phase) (own x u same e) fits
      at_fits x u e (inr ne) = ok.fits x u (was x u ne e)

      at_lives : (x : ℕ) (u : ThreadState) → now x ≡ Some u → (x ≡ s) ⊎ (x ≢ s) → SlotFits q.rules u (slot_at q x)
      at_lives x u e (inl same) =
          subst (λ (z : ThreadState). SlotFits q.rules z (slot_at q x)) (own x u same e)
          (subst (λ (y : ℕ). SlotFits q.rules t (slot_at q y)) (sym same) lives)
      at_lives x u e (inr ne) =
          subst (λ (o : Option Slot). SlotFits q.rules u o) (sym (slots x ne))
          (subst (λ (n : ℕ). SlotFits n u (slot_at p x)) (sym rules) (ok.lives x u (was x u ne e)))

  module _ (rest rests : ℕ → ℕ) (same_rest : (x : ℕ) → x ≢ s → rests x ≡ rest x) (L M : LinuxState) (room : length M.threads ≡ length L.threads) where
    -- where the other places are as they were, or stand as they did
    pub stands_own : ((x : ℕ) (u : ThreadState) (o : Option Slot) (n : ℕ) → x ≢ s → ThreadStands u o n (at_place L.threads x)
        → ThreadStands u o n (at_place M.threads x))
        → ThreadsStand threads p rest L → ThreadStands t (slot_at q s) (rests s) (at_place M.threads s) → ThreadsStand now q rests M
    stands_own places st own = record {
      places = room ∙ st.places;
      each = λ x u e. at_each x u e (same_or_not s x);
    }
      where
        at_each : (x : ℕ) (u : ThreadState) → now x ≡ Some u → (x ≡ s) ⊎ (x ≢ s)
            → ThreadStands u (slot_at q x) (rests x) (at_place M.threads x)
        at_each x u e (inl same) =
            subst (λ (z : ThreadState). ThreadStands z (slot_at q x) (rests x) (at_place M.threads x)) (is_here u (sym (ap now same) ∙ e))
            (subst (λ (y : ℕ). ThreadStands t (slot_at q y) (rests y) (at_place M.threads y)) (sym same) own)
        at_each x u e (inr ne) =
            places x u (slot_at q x) (rests x) ne
            (subst (λ (o : Option Slot). ThreadStands u o (rests x) (at_place L.threads x)) (sym (slots x ne))
            (subst (λ (n : ℕ). ThreadStands u (slot_at p x) n (at_place L.threads x)) (sym (same_rest x ne)) (st.each x u (sym (others x ne) ∙ e))))

    pub stands_alone : ((x : ℕ) → x ≢ s → at_place M.threads x ≡ at_place L.threads x) → ThreadsStand threads p rest L
        → ThreadStands t (slot_at q s) (rests s) (at_place M.threads s) → ThreadsStand now q rests M
    stands_alone same st own =
        stands_own (λ x u o n ne h. subst (λ (lt : Option LxThread). ThreadStands u o n lt) (sym (same x ne)) h) st own

-- ---- writes: marks of others end, of which the clause says nothing

pub unmarked_stands : (first last : ℕ) (t : ThreadState) (o : Option Slot) (n : ℕ) (lt : Option LxThread) → ThreadStands t o n lt
    → ThreadStands t o n (unmarked first last lt)
unmarked_stands first last t None n lt st = ap (unmarked first last) st
unmarked_stands first last t (Some slot) n lt st = by slot.life st
  where
    by : (l : Life) → InUse t slot n lt l → InUse t slot n (unmarked first last lt) l
    by Reserved g = record { mask = g.mask; is = ap (unmarked first last) g.is }
    by Live g = record { mark = mark_left first last g.mark; is = ap (unmarked first last) g.is }
    by Dying g = record { mark = mark_left first last g.mark; is = ap (unmarked first last) g.is }

unmarked_place : (k s first last : ℕ) (ts : List (Option LxThread)) (x : ℕ) → k + x ≢ s
    → at_place (unmarked_from k s first last ts) x ≡ unmarked first last (at_place ts x)
unmarked_place k s first last [] x ne = refl
unmarked_place k s first last (t ∷ ts) zero ne =
    let f : k + 0 ≡ k = omega arith in
    let g : k ≢ s = (λ e. ne (f ∙ e)) in
    let h : (k == s) ≡ false = grind (arith, nat_tests) in
    ap (λ (b : Bool). if b then t else unmarked first last t) h
unmarked_place k s first last (t ∷ ts) (suc x) ne = unmarked_place (suc k) s first last ts x (λ e. ne (omega arith))

unmarked_own : (k s first last : ℕ) (ts : List (Option LxThread)) (x : ℕ) → k + x ≡ s
    → at_place (unmarked_from k s first last ts) x ≡ at_place ts x
unmarked_own k s first last [] x e = refl
unmarked_own k s first last (t ∷ ts) zero e =
    let f : k ≡ s = omega arith in
    let h : (k == s) ≡ true = grind (arith, nat_tests) in
    ap (λ (b : Bool). if b then t else unmarked first last t) h
unmarked_own k s first last (t ∷ ts) (suc x) e = unmarked_own (suc k) s first last ts x (omega arith)

unmarked_long : (k s first last : ℕ) (ts : List (Option LxThread)) → length (unmarked_from k s first last ts) ≡ length ts
unmarked_long k s first last [] = refl
unmarked_long k s first last (t ∷ ts) = ap suc (unmarked_long (suc k) s first last ts)

-- after a write of slot s: its own place is as it was, and the others stand as they did
pub written_own : (s at len : ℕ) (ts : List (Option LxThread)) → at_place (after_write s at len ts) s ≡ at_place ts s
written_own s at len ts = by (len == 0)
  where
    by : (b : Bool) → at_place (if b then ts else unmarked_from 0 s (place.granule at) (place.granule (at + len - 1)) ts) s ≡ at_place ts s
    by true = refl
    by false = unmarked_own 0 s (place.granule at) (place.granule (at + len - 1)) ts s (omega arith)

pub written_long : (s at len : ℕ) (ts : List (Option LxThread)) → length (after_write s at len ts) ≡ length ts
written_long s at len ts = by (len == 0)
  where
    by : (b : Bool) → length (if b then ts else unmarked_from 0 s (place.granule at) (place.granule (at + len - 1)) ts) ≡ length ts
    by true = refl
    by false = unmarked_long 0 s (place.granule at) (place.granule (at + len - 1)) ts

pub written_others : (s at len : ℕ) (ts : List (Option LxThread)) (x : ℕ) (t : ThreadState) (o : Option Slot) (n : ℕ) → x ≢ s
    → ThreadStands t o n (at_place ts x) → ThreadStands t o n (at_place (after_write s at len ts) x)
written_others s at len ts x t o n ne st = by (len == 0)
  where
    by : (b : Bool)
        → ThreadStands t o n (at_place (if b then ts else unmarked_from 0 s (place.granule at) (place.granule (at + len - 1)) ts) x)
    by true = st
    by false =
        subst (λ (lt : Option LxThread). ThreadStands t o n lt)
        (sym (unmarked_place 0 s (place.granule at) (place.granule (at + len - 1)) ts x (λ e. ne (omega arith))))
        (unmarked_stands (place.granule at) (place.granule (at + len - 1)) t o n (at_place ts x) st)
