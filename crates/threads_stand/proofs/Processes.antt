-- What is done to the process, in the image: slots that are reserved, freed and changed, signals that are sent, actions that are set
-- and signals that are forgotten, and Time.
use Rattle.std.proofs.Common.{◌≡◌, ◌≢◌, ℕ, zero, suc, ◌+◌, ◌<◌, Bool, true, false, ◌&&◌, List, [], ◌∷◌, map, length, nat_le, Option, Some, None, option_map, if◌then◌else◌, refl, sym, ap, ◌∙◌, subst, arith}
use Rattle.std.specs.Prelude.{slice_index_or, slice_set}
use Rattle.bsd_abi.specs.declared.signals.BsdSig.{BsdSig}
use Rattle.signal_map.specs.Signals.{signal_out_of}
use Rattle.lx_machine.specs.Kill as kill
use Rattle.lx_machine.specs.Lists.{at_place}
use Rattle.lx_machine.specs.Signal as lx
use Rattle.lx_machine.specs.declared.signals.Action.{Action as LxAction}
use Rattle.lx_machine.specs.declared.signals.SigInfo.{SigInfo}
use Rattle.lx_machine.specs.declared.state.LinuxState.{LinuxState}
use Rattle.lx_machine.specs.declared.threads.LxThread.{LxThread}
use Rattle.bsd_proc.specs.Actions as bsd
use Rattle.bsd_proc.specs.Births.{reserved}
use Rattle.bsd_proc.specs.Clock.{passed}
use Rattle.bsd_proc.specs.Sending.{added, is_over_limit, queued, sent}
use Rattle.bsd_proc.specs.Slots.{ProcessState, Slot, fresh, on_slot, slot_at, with_asks}
use Rattle.bsd_proc.specs.declared.lives.Life.{Life}
use Rattle.bsd_proc.specs.declared.lives.Life.TheVariants.{Reserved, Live, Dying}
use Rattle.bsd_proc.specs.declared.signals.Action.{Action}
use Rattle.bsd_proc.specs.declared.signals.Signal.{Signal}
use Rattle.bsd_proc.specs.declared.signals.Target.TheVariants.{All}
use Rattle.bsd_thread.specs.declared.thread.ThreadState.{ThreadState}
use Rattle.threads_stand.specs.Numbers.{linux_action, linux_info}
use Rattle.threads_stand.specs.Slots.{IsStarted, LifeFits, SlotFits, ThreadsSound}
use Rattle.threads_stand.specs.Stands.{InUse, ProcessStands, ThreadStands, ThreadsStand}
use Rattle.threads_stand.proofs.Actions.{forgotten_image, ignored_image, sent_image, with_action_image}
use Rattle.threads_stand.proofs.Mapped.{index_mapped}
use Rattle.threads_stand.proofs.Signals.{real_time_image, without_all_image}
use Rattle.threads_stand.proofs.Tids.{tids_kept}

-- ---- one slot, after a write

index_here : {X : Type 0} (xs : List (Option X)) (s : ℕ) (o : Option X) → s < length xs → slice_index_or (slice_set xs s o) s None ≡ o
index_here [] s o less = absurd (omega arith)
index_here (x ∷ xs) zero o less = refl
index_here (x ∷ xs) (suc s) o less = index_here xs s o (omega arith)

index_other : {X : Type 0} (xs : List (Option X)) (s x : ℕ) (o : Option X) → x ≢ s
    → slice_index_or (slice_set xs s o) x None ≡ slice_index_or xs x None
index_other [] s x o ne = refl
index_other (y ∷ xs) zero zero o ne = absurd (ne refl)
index_other (y ∷ xs) zero (suc x) o ne = refl
index_other (y ∷ xs) (suc s) zero o ne = refl
index_other (y ∷ xs) (suc s) (suc x) o ne = index_other xs s x o (λ e. ne (ap suc e))

index_length : {X : Type 0} (xs : List (Option X)) (s : ℕ) (o : Option X) → length (slice_set xs s o) ≡ length xs
index_length [] s o = refl
index_length (x ∷ xs) zero o = refl
index_length (x ∷ xs) (suc s) o = ap suc (index_length xs s o)

-- a process whose slot s is this now
pub record SlotChange (p q : ProcessState) (s : ℕ) (o : Option Slot) : Type 0 where
  pub now : slot_at q s ≡ o
  pub others : (x : ℕ) → x ≢ s → slot_at q x ≡ slot_at p x
  pub room : length q.slots ≡ length p.slots

pub slot_written : (p q : ProcessState) (s : ℕ) (o : Option Slot) → s < length p.slots → q.slots ≡ slice_set p.slots s o
    → SlotChange p q s o
slot_written p q s o less is = record {
  now = ap (λ (l : List (Option Slot)). slice_index_or l s None) is ∙ index_here p.slots s o less;
  others = λ x ne. ap (λ (l : List (Option Slot)). slice_index_or l x None) is ∙ index_other p.slots s x o ne;
  room = ap (λ (l : List (Option Slot)). length l) is ∙ index_length p.slots s o;
}

-- a slot in use that changes so
pub slot_changed : (p : ProcessState) (s : ℕ) (slot : Slot) (f : Slot → Slot) → s < length p.slots → slot_at p s ≡ Some slot
    → SlotChange p (on_slot p s f) s (Some (f slot))
slot_changed p s slot f less there =
    subst (λ (o : Option Slot). SlotChange p (on_slot p s f) s o) (ap (option_map f) there)
    (slot_written p (on_slot p s f) s (option_map f (slot_at p s)) less refl)

-- what else the process keeps is as it was
pub process_slots : (p : ProcessState) (L : LinuxState) (slots : List (Option Slot)) (threads : List (Option LxThread)) → ProcessStands p L
    → ProcessStands (record p { slots = slots }) (record L { threads = threads })
process_slots p L slots threads h = record {
  rules = h.rules;
  next_tid = h.next_tid;
  break_at = h.break_at;
  break_start = h.break_start;
  actions = h.actions;
  pending = h.pending;
  clock = h.clock;
  end = h.end;
}

-- Birth: the next tid
pub process_reserved : (p : ProcessState) (L : LinuxState) (s : ℕ) (threads : List (Option LxThread)) → ProcessStands p L
    → ProcessStands (reserved p s) (record L { threads = threads; next_tid = L.next_tid + 1 })
process_reserved p L s threads h = record {
  rules = h.rules;
  next_tid = ap (λ (n : ℕ). n + 1) h.next_tid;
  break_at = h.break_at;
  break_start = h.break_start;
  actions = h.actions;
  pending = h.pending;
  clock = h.clock;
  end = h.end;
}

-- ---- changes of all slots, which keep tids, lives and deadlines

pub record Keeps (slot other : Slot) : Type 0 where
  pub tid : other.tid ≡ slot.tid
  pub life : other.life ≡ slot.life
  pub deadline : other.deadline ≡ slot.deadline

module _ (h : Slot → Slot) (keeps : (slot : Slot) → Keeps slot (h slot)) (same : (tid : ℕ) → h (fresh tid Reserved) ≡ fresh tid Reserved) where
  fits_all : (rules : ℕ) (t : ThreadState) (o : Option Slot) → SlotFits rules t o → SlotFits rules t (option_map h o)
  fits_all rules t None f = f
  fits_all rules t (Some slot) f = subst (λ (l : Life). LifeFits rules t (h slot) l) (sym (keeps slot).life) (by slot.life f)
    where
      started : IsStarted t slot → IsStarted t (h slot)
      started g = record { awake = g.awake; tid = g.tid ∙ sym (keeps slot).tid; deadline = (keeps slot).deadline ∙ g.deadline }

      by : (l : Life) → LifeFits rules t slot l → LifeFits rules t (h slot) l
      by Reserved g =
          record { idle = g.idle; fresh = ap h g.fresh ∙ same slot.tid ∙ ap (λ (n : ℕ). fresh n Reserved) (sym (keeps slot).tid) }
      by Live g = started g
      by Dying g = record { started = started g.started; dies = g.dies }

  long_map : (xs : List (Option Slot)) → length (map (option_map h) xs) ≡ length xs
  long_map [] = refl
  long_map (x ∷ xs) = ap suc (long_map xs)

  some_changed : (o : Option Slot) (slot : Slot) → option_map h o ≡ Some slot → (old : Slot) × (o ≡ Some old) × (old.tid ≡ slot.tid)
  some_changed None slot e = absurd (cc)
  some_changed (Some old) slot e = let f : h old ≡ slot = cc in (old, refl, sym (keeps old).tid ∙ ap (λ (z : Slot). z.tid) f)

  pub slots_changed : (p q : ProcessState) → q.slots ≡ map (option_map h) p.slots → (s : ℕ) → slot_at q s ≡ option_map h (slot_at p s)
  slots_changed p q is s = ap (λ (l : List (Option Slot)). slice_index_or l s None) is ∙ index_mapped (option_map h) p.slots s None

  pub sound_all : (threads : ℕ → Option ThreadState) (p q : ProcessState) → q.slots ≡ map (option_map h) p.slots → q.rules ≡ p.rules
      → q.next_tid ≡ p.next_tid → ThreadsSound threads p → ThreadsSound threads q
  sound_all threads p q is rules next ok = record {
    there = ok.there;
    numbered = ok.numbered;
    fits = ok.fits;
    lives = λ s t e.
        subst (λ (o : Option Slot). SlotFits q.rules t o) (sym (slots_changed p q is s))
        (subst (λ (n : ℕ). SlotFits n t (option_map h (slot_at p s))) (sym rules) (fits_all p.rules t (slot_at p s) (ok.lives s t e)));
    slots = ap (λ (l : List (Option Slot)). length l) is ∙ long_map p.slots ∙ ok.slots;
    tids = tids_kept p q ok.tids next (λ s slot e. some_changed (slot_at p s) slot (sym (slots_changed p q is s) ∙ e));
  }

-- ---- Time: asks end, and the clock rises

pub sound_passed : (threads : ℕ → Option ThreadState) (p : ProcessState) (clock : ℕ) → ThreadsSound threads p
    → ThreadsSound threads (passed p clock)
sound_passed threads p clock ok =
    sound_all (with_asks false) (λ slot. record { tid = refl; life = refl; deadline = refl }) (λ tid. refl) threads p (passed p clock) refl refl refl ok

unasked_stands : (t : ThreadState) (o : Option Slot) (n : ℕ) (lt : Option LxThread) → ThreadStands t o n lt
    → ThreadStands t (option_map (with_asks false) o) n lt
unasked_stands t None n lt st = st
unasked_stands t (Some slot) n lt st = by slot.life st
  where
    by : (l : Life) → InUse t slot n lt l → InUse t (with_asks false slot) n lt l
    by Reserved g = record { mask = g.mask; is = g.is }
    by Live g = record { mark = g.mark; is = g.is }
    by Dying g = record { mark = g.mark; is = g.is }

pub threads_passed : (threads : ℕ → Option ThreadState) (p : ProcessState) (rest : ℕ → ℕ) (L : LinuxState) (clock : ℕ)
    → ThreadsStand threads p rest L → ThreadsStand threads (passed p clock) rest (record L { clock = clock })
threads_passed threads p rest L clock st = record {
  places = st.places;
  each = λ s t e.
      subst (λ (o : Option Slot). ThreadStands t o (rest s) (at_place L.threads s))
      (sym (index_mapped (option_map (with_asks false)) p.slots s None))
      (unasked_stands t (slot_at p s) (rest s) (at_place L.threads s) (st.each s t e));
}

pub process_passed : (p : ProcessState) (L : LinuxState) (clock : ℕ) → ProcessStands p L
    → ProcessStands (passed p clock) (record L { clock = clock })
process_passed p L clock h = record {
  rules = h.rules;
  next_tid = h.next_tid;
  break_at = h.break_at;
  break_start = h.break_start;
  actions = h.actions;
  pending = h.pending;
  clock = refl;
  end = h.end;
}

-- ---- a signal that is forgotten

at_mapped : {X : Type 0} (f : Option X → Option X) → f None ≡ None → (xs : List (Option X)) (s : ℕ)
    → at_place (map f xs) s ≡ f (at_place xs s)
at_mapped f none [] s = sym none
at_mapped f none (x ∷ xs) zero = refl
at_mapped f none (x ∷ xs) (suc s) = at_mapped f none xs s

long_mapped : {X Y : Type 0} (f : X → Y) (xs : List X) → length (map f xs) ≡ length xs
long_mapped f [] = refl
long_mapped f (x ∷ xs) = ap suc (long_mapped f xs)

pub sound_forgotten : (threads : ℕ → Option ThreadState) (p : ProcessState) (sig : BsdSig) → ThreadsSound threads p
    → ThreadsSound threads (bsd.forgotten sig p)
sound_forgotten threads p sig ok =
    sound_all (bsd.without_sig sig) (λ slot. record { tid = refl; life = refl; deadline = refl }) (λ tid. refl) threads p (bsd.forgotten sig p) refl refl refl ok

forgotten_at_place : (sig : BsdSig) (t : ThreadState) (o : Option Slot) (n : ℕ) (lt : Option LxThread) → ThreadStands t o n lt
    → ThreadStands t (option_map (bsd.without_sig sig) o) n (lx.forgotten_at (signal_out_of sig) lt)
forgotten_at_place sig t None n lt st = ap (lx.forgotten_at (signal_out_of sig)) st
forgotten_at_place sig t (Some slot) n lt st = by slot.life st
  where
    by : (l : Life) → InUse t slot n lt l → InUse t (bsd.without_sig sig slot) n (lx.forgotten_at (signal_out_of sig) lt) l
    by Reserved g = record { mask = g.mask; is = ap (lx.forgotten_at (signal_out_of sig)) g.is }
    by Live g = record { mark = g.mark; is = ap (lx.forgotten_at (signal_out_of sig)) g.is ∙ forgotten_image t t.phase slot g.mark n sig }
    by Dying g = record { mark = g.mark; is = ap (lx.forgotten_at (signal_out_of sig)) g.is ∙ forgotten_image t t.phase slot g.mark n sig }

pub threads_forgotten : (threads : ℕ → Option ThreadState) (p : ProcessState) (rest : ℕ → ℕ) (L : LinuxState) (sig : BsdSig)
    → ThreadsStand threads p rest L
    → ThreadsStand threads (bsd.forgotten sig p) rest (lx.forgotten (Some (signal_out_of sig)) L)
threads_forgotten threads p rest L sig st = record {
  places = long_mapped (lx.forgotten_at (signal_out_of sig)) L.threads ∙ st.places;
  each = λ s t e.
      subst (λ (lt : Option LxThread). ThreadStands t (slot_at (bsd.forgotten sig p) s) (rest s) lt)
      (sym (at_mapped (lx.forgotten_at (signal_out_of sig)) refl L.threads s))
      (subst (λ (o : Option Slot). ThreadStands t o (rest s) (lx.forgotten_at (signal_out_of sig) (at_place L.threads s))) (sym (index_mapped (option_map (bsd.without_sig sig)) p.slots s None))
      (forgotten_at_place sig t (slot_at p s) (rest s) (at_place L.threads s) (st.each s t e)));
}

pub process_forgotten : (p : ProcessState) (L : LinuxState) (sig : BsdSig) → ProcessStands p L
    → ProcessStands (bsd.forgotten sig p) (lx.forgotten (Some (signal_out_of sig)) L)
process_forgotten p L sig h = record {
  rules = h.rules;
  next_tid = h.next_tid;
  break_at = h.break_at;
  break_start = h.break_start;
  actions = h.actions;
  pending = ap (λ (l : List SigInfo). lx.without_all (signal_out_of sig) l) h.pending ∙ without_all_image sig p.pending;
  clock = h.clock;
  end = h.end;
}

-- ---- an action that is set

pub process_acted : (p : ProcessState) (L : LinuxState) (sig : BsdSig) (a : Action) → ProcessStands p L
    → ProcessStands (bsd.with_action p sig a) (record L { actions = lx.with_action L.actions (signal_out_of sig) (linux_action a) })
process_acted p L sig a h = record {
  rules = h.rules;
  next_tid = h.next_tid;
  break_at = h.break_at;
  break_start = h.break_start;
  actions = ap (λ (l : List LxAction). lx.with_action l (signal_out_of sig) (linux_action a)) h.actions ∙ with_action_image p.actions sig a;
  pending = h.pending;
  clock = h.clock;
  end = h.end;
}

-- the signal is then forgotten where the new action ignores it
pub forgets_image : (a : Action) (sig : BsdSig)
    → (if lx.is_ignored (linux_action a) (signal_out_of sig) then Some (signal_out_of sig) else None)
    ≡ (if bsd.is_ignored a sig then Some (signal_out_of sig) else None)
forgets_image a sig = ap (λ (b : Bool). if b then Some (signal_out_of sig) else None) (ignored_image a sig)

-- ---- a signal that is sent to the process

pub process_sent : (p : ProcessState) (L : LinuxState) (x : Signal) → ProcessStands p L
    → ProcessStands (sent p All x) (record L { pending = lx.sent L.actions (linux_info x) L.pending })
process_sent p L x h = record {
  rules = h.rules ∙ by (λ q. q.rules) (λ l. refl);
  next_tid = h.next_tid ∙ by (λ q. q.next_tid) (λ l. refl);
  break_at = h.break_at ∙ by (λ q. q.break_at) (λ l. refl);
  break_start = h.break_start ∙ by (λ q. q.break_start) (λ l. refl);
  actions = h.actions ∙ by (λ q. map linux_action q.actions) (λ l. refl);
  pending =
      ap (λ (l : List LxAction). lx.sent l (linux_info x) L.pending) h.actions
      ∙ ap (λ (l : List SigInfo). lx.sent (map linux_action p.actions) (linux_info x) l) h.pending
      ∙ sent_image p.actions x p.pending ∙ in_list (bsd.is_ignored (bsd.action_of p.actions x.sig) x.sig);
  clock = h.clock ∙ by (λ q. q.clock) (λ l. refl);
  end = sym (by (λ q. q.end) (λ l. refl)) ∙ h.end;
}
  where
    by : {X : Type 0} (f : ProcessState → X) → ((l : List Signal) → f p ≡ f (record p { pending = l })) → f p ≡ f (sent p All x)
    by f same = either (bsd.is_ignored (bsd.action_of p.actions x.sig) x.sig)
      where
        either : (b : Bool) → f p ≡ f (if b then p else record p { pending = added x p.pending })
        either true = refl
        either false = same (added x p.pending)

    in_list : (b : Bool)
        → map linux_info (if b then p.pending else added x p.pending)
        ≡ map linux_info (if b then p else record p { pending = added x p.pending }).pending
    in_list true = refl
    in_list false = refl

-- a real-time signal that meets 64 queued ones
pub over_limit_image : (p : ProcessState) (sig : BsdSig) → kill.is_over_limit (queued p) (signal_out_of sig) ≡ is_over_limit p sig
over_limit_image p sig = ap (λ (b : Bool). b && nat_le 64 (queued p)) (real_time_image sig)
