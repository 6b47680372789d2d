-- The thread of an entry: its slot, its place in the Linux machine, and the step that is taken there.
use Rattle.std.proofs.Common.{◌≡◌, ◌≢◌, ℕ, zero, suc, ◌<◌, Bool, true, List, [], ◌∷◌, length, Option, Some, None, option_map, if◌then◌else◌, refl, sym, ap, ◌∙◌, subst, arith}
use Rattle.std.specs.Prelude.{slice_set}
use Rattle.lx_machine.specs.Lists.{at_place, bind}
use Rattle.lx_machine.specs.Shape.{stage_of}
use Rattle.lx_machine.specs.Step.{in_call, on_thread}
use Rattle.lx_machine.specs.Threads.{InCall, OfThread, after_write, is_user, outside_call, without_thread}
use Rattle.lx_machine.specs.declared.calls.Stage.{Stage}
use Rattle.lx_machine.specs.declared.state.LinuxState.{LinuxState}
use Rattle.lx_machine.specs.declared.threads.GuestEnd.{GuestEnd as LxEnd}
use Rattle.lx_machine.specs.declared.threads.LxThread.{LxThread}
use Rattle.lx_machine.proofs.Places.{place-refilled, place-refilled_other, place-set_other, place-there, place-within}
use Rattle.lx_machine.proofs.Steps.{in_call_is}
use Rattle.bsd_proc.specs.Slots.{ProcessState, Slot, slot_at}
use Rattle.bsd_proc.specs.declared.lives.Life.{Life}
use Rattle.bsd_proc.specs.declared.lives.Life.TheVariants.{Reserved, Live, Dying}
use Rattle.bsd_thread.specs.Phases.{has_call}
use Rattle.bsd_thread.specs.declared.phase.Phase.{Phase}
use Rattle.bsd_thread.specs.declared.phase.Phase.TheVariants as phase
use Rattle.bsd_thread.specs.declared.thread.ThreadState.{ThreadState}
use Rattle.threads_stand.specs.Image.{linux_call, linux_thread}
use Rattle.threads_stand.specs.Numbers.{linux_life, told_end}
use Rattle.threads_stand.specs.Slots.{IsStarted, LifeFits, SlotFits, ThreadsSound}
use Rattle.threads_stand.specs.Stands.{InUse, ProcessStands, ThreadStands, ThreadsStand}
use Rattle.threads_stand.proofs.Frames.{stands_own, written_long, written_others}
use Rattle.threads_stand.proofs.Threads.{image_call, image_without_call}

-- ---- its slot

-- a thread that doesn't idle has a slot in use, and has started
pub record OwnSlot (rules : ℕ) (t : ThreadState) (o : Option Slot) : Type 0 where
  pub slot : Slot
  pub is : o ≡ Some slot
  pub started : IsStarted t slot
  pub life : LifeFits rules t slot slot.life

pub own_slot : (rules : ℕ) (t : ThreadState) (o : Option Slot) → SlotFits rules t o → t.phase ≢ phase.Idle → OwnSlot rules t o
own_slot rules t None fits ne = absurd (ne fits)
own_slot rules t (Some slot) fits ne = record { slot = slot; is = refl; started = by slot.life fits; life = fits }
  where
    by : (l : Life) → LifeFits rules t slot l → IsStarted t slot
    by Reserved f = absurd (ne f.idle)
    by Live f = f
    by Dying f = f.started

-- ---- its place

-- it stands there as its image
pub record InPlace (t : ThreadState) (slot : Slot) (rest : ℕ) (lt : Option LxThread) : Type 0 where
  pub mark : Option ℕ
  pub is : lt ≡ Some (linux_thread t t.phase slot mark rest)

pub in_place : (rules : ℕ) (t : ThreadState) (slot : Slot) (rest : ℕ) (lt : Option LxThread) → t.phase ≢ phase.Idle
    → LifeFits rules t slot slot.life → ThreadStands t (Some slot) rest lt → InPlace t slot rest lt
in_place rules t slot rest lt ne fits st = by slot.life fits st
  where
    by : (l : Life) → LifeFits rules t slot l → InUse t slot rest lt l → InPlace t slot rest lt
    by Reserved f g = absurd (ne f.idle)
    by Live f g = record { mark = g.mark; is = g.is }
    by Dying f g = record { mark = g.mark; is = g.is }

-- and whatever stands there as its image stands for it
pub stands_there : (rules : ℕ) (t : ThreadState) (slot : Slot) (rest : ℕ) (m : Option ℕ) → t.phase ≢ phase.Idle
    → LifeFits rules t slot slot.life → ThreadStands t (Some slot) rest (Some (linux_thread t t.phase slot m rest))
stands_there rules t slot rest m ne fits = by slot.life fits
  where
    by : (l : Life) → LifeFits rules t slot l → InUse t slot rest (Some (linux_thread t t.phase slot m rest)) l
    by Reserved f = absurd (ne f.idle)
    by Live f = record { mark = m; is = refl }
    by Dying f = record { mark = m; is = refl }

-- both at once
pub record Actor (threads : ℕ → Option ThreadState) (p : ProcessState) (rest : ℕ → ℕ) (L : LinuxState) (s : ℕ) (t : ThreadState) : Type 0 where
  pub slot : Slot
  pub has_slot : slot_at p s ≡ Some slot
  pub started : IsStarted t slot
  pub life : LifeFits p.rules t slot slot.life
  pub mark : Option ℕ
  pub there : at_place L.threads s ≡ Some (linux_thread t t.phase slot mark (rest s))

pub actor_of : (threads : ℕ → Option ThreadState) (p : ProcessState) (rest : ℕ → ℕ) (L : LinuxState) (s : ℕ) (t : ThreadState)
    → ThreadsSound threads p → ThreadsStand threads p rest L → threads s ≡ Some t → t.phase ≢ phase.Idle → Actor threads p rest L s t
actor_of threads p rest L s t ok st here ne =
    let own = own_slot p.rules t (slot_at p s) (ok.lives s t here) ne in
    let at = in_place p.rules t own.slot (rest s) (at_place L.threads s) ne own.life (subst (λ (o : Option Slot). ThreadStands t o (rest s) (at_place L.threads s)) own.is (st.each s t here)) in
    record { slot = own.slot; has_slot = own.is; started = own.started; life = own.life; mark = at.mark; there = at.is }

-- ---- its step

-- of a call, by the stage that it has
pub step_in_call : (L : LinuxState) (s : ℕ) (t : ThreadState) (p : Phase) (slot : Slot) (m : Option ℕ) (rest : ℕ) (st : Stage)
    → (f : Stage → InCall)
    → at_place L.threads s ≡ Some (linux_thread t p slot m rest) → has_call p ≡ true → stage_of (linux_call p t.call rest) ≡ st
    → in_call L s f ≡ f st (without_thread L s) s (linux_thread t phase.User slot m 0) (linux_call p t.call rest)
step_in_call L s t p slot m rest st f there inside next =
    in_call_is L s (linux_thread t p slot m rest) (linux_call p t.call rest) st f there (image_call t p slot m rest inside) next
    ∙ ap (λ (z : LxThread). f st (without_thread L s) s z (linux_call p t.call rest)) (image_without_call t p slot m rest inside)

-- of a thread, whatever it is in
pub step_of_thread : (L : LinuxState) (s : ℕ) (lt : LxThread) (f : OfThread) → at_place L.threads s ≡ Some lt
    → on_thread L s f ≡ f (without_thread L s) s lt
step_of_thread L s lt f there = ap (λ (o : Option LxThread). bind o (λ z. f (without_thread L s) s z)) there

-- of a live thread that takes an instruction
pub step_of_user : (L : LinuxState) (s : ℕ) (t : ThreadState) (slot : Slot) (m : Option ℕ) (rest : ℕ) (f : LxThread → Option LinuxState)
    → at_place L.threads s ≡ Some (linux_thread t phase.User slot m rest) → slot.life ≡ Live → outside_call L s f
    ≡ f (linux_thread t phase.User slot m rest)
step_of_user L s t slot m rest f there live =
    ap (λ (o : Option LxThread). bind o (λ z. if is_user z then f z else None)) there
    ∙ ap (λ (b : Bool). if b then f (linux_thread t phase.User slot m rest) else None) user
  where
    user : is_user (linux_thread t phase.User slot m rest) ≡ true
    user = ap (λ (l : Life). is_user (record (linux_thread t phase.User slot m rest) { life = linux_life l })) live

-- ---- what is left

long_set : {X : Type 0} (xs : List X) (k : ℕ) (x : X) → length (slice_set xs k x) ≡ length xs
long_set [] k x = refl
long_set (y ∷ xs) zero x = refl
long_set (y ∷ xs) (suc k) x = ap suc (long_set xs k x)

module _ (threads now : ℕ → Option ThreadState) (s : ℕ) (t : ThreadState) (here : now s ≡ Some t) (others : (x : ℕ) → x ≢ s → now x ≡ threads x) (p q : ProcessState) (slots : (x : ℕ) → x ≢ s → slot_at q x ≡ slot_at p x) (rest rests : ℕ → ℕ) (same_rest : (x : ℕ) → x ≢ s → rests x ≡ rest x) (L M : LinuxState) (was : LxThread) (there : at_place L.threads s ≡ Some was) (lt : LxThread) where
  -- its place was made free and filled again
  pub stands_refilled : M.threads ≡ slice_set (slice_set L.threads s None) s (Some lt) → ThreadsStand threads p rest L
      → ThreadStands t (slot_at q s) (rests s) (Some lt) → ThreadsStand now q rests M
  stands_refilled made st own =
      stands_own threads now s t here others p q slots rest rests same_rest L M room
      (λ x u o n ne h. subst (λ (z : Option LxThread). ThreadStands u o n z) (sym (ap (λ (l : List (Option LxThread)). at_place l x) made ∙ place-refilled_other L.threads s x lt ne)) h) st
      (subst (λ (z : Option LxThread). ThreadStands t (slot_at q s) (rests s) z) (sym (ap (λ (l : List (Option LxThread)). at_place l s) made ∙ place-refilled L.threads s was lt there)) own)
    where
      room : length M.threads ≡ length L.threads
      room =
          ap (λ (l : List (Option LxThread)). length l) made ∙ long_set (slice_set L.threads s None) s (Some lt) ∙ long_set L.threads s None

  -- and bytes were written between
  pub stands_written : (at len : ℕ) → M.threads ≡ slice_set (after_write s at len (slice_set L.threads s None)) s (Some lt)
      → ThreadsStand threads p rest L → ThreadStands t (slot_at q s) (rests s) (Some lt) → ThreadsStand now q rests M
  stands_written at len made st own =
      stands_own threads now s t here others p q slots rest rests same_rest L M (room ∙ shorter) other st
      (subst (λ (z : Option LxThread). ThreadStands t (slot_at q s) (rests s) z) (sym (ap (λ (l : List (Option LxThread)). at_place l s) made ∙ place-within written s lt less)) own)
    where
      written : List (Option LxThread)
      written = after_write s at len (slice_set L.threads s None)

      shorter : length written ≡ length L.threads
      shorter = written_long s at len (slice_set L.threads s None) ∙ long_set L.threads s None

      room : length M.threads ≡ length written
      room = ap (λ (l : List (Option LxThread)). length l) made ∙ long_set written s (Some lt)

      less : s < length written
      less = let a = place-there L.threads s was there in let e = shorter in omega arith

      other : (x : ℕ) (u : ThreadState) (o : Option Slot) (n : ℕ) → x ≢ s → ThreadStands u o n (at_place L.threads x)
          → ThreadStands u o n (at_place M.threads x)
      other x u o n ne h =
          subst (λ (z : Option LxThread). ThreadStands u o n z)
          (sym (ap (λ (l : List (Option LxThread)). at_place l x) made ∙ place-set_other written s x (Some lt) ne))
          (written_others s at len (slice_set L.threads s None) x u o n ne
          (subst (λ (z : Option LxThread). ThreadStands u o n z) (sym (place-set_other L.threads s x None ne)) h))

-- ---- the guest goes on in the one as in the other

pub goes_on : (p : ProcessState) (L : LinuxState) → ProcessStands p L → p.end ≡ None → L.end ≡ None
goes_on p L ps on = by L.end ps.end
  where
    by : (o : Option LxEnd) → p.end ≡ option_map told_end o → o ≡ None
    by None e = refl
    by (Some end) e = absurd (cc)
