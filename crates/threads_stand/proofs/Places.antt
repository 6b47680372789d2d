-- What is told of all slots is told of all places: sums, tests and the first that passes, over both lists.
use Rattle.std.proofs.Common.{◌≡◌, ℕ, zero, suc, ◌+◌, ◌<◌, ◌==◌, Bool, true, false, not, ◌&&◌, ◌||◌, is_some, List, [], ◌∷◌, map, length, take, Option, Some, None, option_map, if◌then◌else◌, nat_lt, refl, sym, ap, ◌∙◌, arith}
use Rattle.std.proofs.lemmas.List.Sums.{sum_by-cons, sum_by-set}
use Rattle.std.specs.List.{count_by, fold, list_all, list_any, position, position_or_len, sum_by}
use Rattle.std.specs.Prelude.{is_none, slice_index_or, slice_set}
use Rattle.std.proofs.lemmas.Bool.Decides.{nat_tests}
use Rattle.lx_machine.specs.Clone.{last_tid, place_for}
use Rattle.lx_machine.specs.FutexPi.{has_owner, is_owner}
use Rattle.lx_machine.specs.Lists.{at_place, first_free, first_free_from}
use Rattle.lx_machine.specs.Signal as lx
use Rattle.lx_machine.specs.Threads.{has_no_thread}
use Rattle.lx_machine.specs.Signal.{is_live_as, live_slot, queued_signals, queued_signals_at}
use Rattle.lx_machine.specs.declared.signals.SigInfo.{SigInfo}
use Rattle.lx_machine.specs.declared.state.LinuxState.{LinuxState}
use Rattle.places.specs.declared.limits.TheConstants.{SLOTS}
use Rattle.lx_machine.specs.declared.threads.LxThread.{LxThread}
use Rattle.bsd_proc.specs.Births.{slot_for}
use Rattle.bsd_proc.specs.Ends.{in_use, left}
use Rattle.bsd_proc.specs.Sending.{queued, queued_at}
use Rattle.bsd_proc.specs.Signals.{real_time_count}
use Rattle.bsd_proc.specs.Slots.{ProcessState, Slot, slot_at, slot_limit}
use Rattle.bsd_proc.specs.declared.lives.Life.{Life}
use Rattle.bsd_proc.specs.declared.lives.Life.TheVariants.{Reserved, Live, Dying}
use Rattle.bsd_thread.specs.declared.thread.ThreadState.{ThreadState}
use Rattle.threads_stand.specs.Image.{linux_thread}
use Rattle.threads_stand.specs.Numbers.{linux_life}
use Rattle.threads_stand.specs.Slots.{LifeFits, SlotFits, ThreadsSound, has_live_tid, has_started_tid}
use Rattle.threads_stand.specs.Stands.{InUse, ProcessStands, ThreadStands, ThreadsStand}
use Rattle.threads_stand.proofs.Mapped.{set_mapped}
use Rattle.threads_stand.proofs.Signals.{real_time_count_image}

-- ---- lists that agree place by place

abbrev Agree : {A B C : Type 0} → (Option A → C) → (Option B → C) → List (Option A) → List (Option B) → Type 0
Agree f g xs ys = (s : ℕ) → s < length xs → f (at_place xs s) ≡ g (slice_index_or ys s None)

module _ {A B C : Type 0} (f : Option A → C) (g : Option B → C) where
  later : (x : Option A) (y : Option B) (xs : List (Option A)) (ys : List (Option B)) → Agree f g (x ∷ xs) (y ∷ ys) → Agree f g xs ys
  later x y xs ys e s less = e (suc s) (omega arith)

  pub mapped : (xs : List (Option A)) (ys : List (Option B)) → length xs ≡ length ys → Agree f g xs ys → map f xs ≡ map g ys
  mapped [] [] same e = refl
  mapped [] (y ∷ ys) same e = absurd (cc)
  mapped (x ∷ xs) [] same e = absurd (cc)
  mapped (x ∷ xs) (y ∷ ys) same e =
      let here : f x ≡ g y = e 0 (omega arith) in
      let rest = mapped xs ys (omega arith) (later x y xs ys e) in
      ap (λ (z : C). z ∷ map f xs) here ∙ ap (λ (l : List C). g y ∷ l) rest

any_of : {X : Type 0} (p : X → Bool) (xs : List X) → list_any p xs ≡ list_any (λ (b : Bool). b) (map p xs)
any_of p [] = refl
any_of p (x ∷ xs) = ap (λ (b : Bool). p x || b) (any_of p xs)

sum_from : {X : Type 0} (f : X → ℕ) (xs : List X) (n : ℕ) → fold (λ a x. a + f x) n xs ≡ fold (λ a b. a + b) n (map f xs)
sum_from f [] n = refl
sum_from f (x ∷ xs) n = sum_from f xs (n + f x)

all_of : {X : Type 0} (p : X → Bool) (xs : List X) → list_all p xs ≡ list_all (λ (b : Bool). b) (map p xs)
all_of p [] = refl
all_of p (x ∷ xs) = ap (λ (b : Bool). p x && b) (all_of p xs)

-- no place is in use exactly where none is counted
none_counted : {X : Type 0} (xs : List (Option X)) → list_all is_none xs ≡ (count_by is_some xs == 0)
none_counted [] = refl
none_counted (None ∷ xs) =
    none_counted xs ∙ ap (λ (n : ℕ). n == 0) (let e = sum_by-cons (λ o. if is_some o then 1 else 0) None xs in omega arith)
none_counted (Some x ∷ xs) =
    let e = sum_by-cons (λ o. if is_some o then 1 else 0) (Some x) xs in
    let f : (count_by is_some (Some x ∷ xs) == 0) ≡ false = grind (arith, nat_tests) in
    sym f

-- the first that passes, element by element
position_next : {X : Type 0} (p : X → Bool) (x : X) (xs : List X)
    → position p (x ∷ xs) ≡ (if p x then Some 0 else option_map suc (position p xs))
position_next p x xs = by (p x)
  where
    n : ℕ
    n = position_or_len p xs

    past : (b c : Bool) → b ≡ c → (if b then Some (1 + n) else None) ≡ option_map suc (if c then Some n else None)
    past true true e = let f : 1 + n ≡ suc n = omega arith in ap (λ (k : ℕ). Some k) f
    past false false e = refl
    past true false e = absurd (cc)
    past false true e = absurd (cc)

    by : (b : Bool)
        → (if nat_lt (if not b then 1 + n else 0) (suc (length xs)) then Some (if not b then 1 + n else 0) else None)
        ≡ (if b then Some 0 else option_map suc (if nat_lt n (length xs) then Some n else None))
    by true = let e : nat_lt 0 (suc (length xs)) ≡ true = grind (arith, nat_tests) in ap (λ (b : Bool). if b then Some 0 else None) e
    by false = past (nat_lt (1 + n) (suc (length xs))) (nat_lt n (length xs)) (grind (arith, nat_tests))

position_of : {X : Type 0} (p : X → Bool) (xs : List X) → position p xs ≡ position (λ (b : Bool). b) (map p xs)
position_of p [] = refl
position_of p (x ∷ xs) =
    position_next p x xs ∙ ap (λ (o : Option ℕ). if p x then Some 0 else option_map suc o) (position_of p xs)
    ∙ sym (position_next (λ (b : Bool). b) (p x) (map p xs))

free_position : {X : Type 0} (k : ℕ) (xs : List (Option X)) → first_free_from k xs ≡ option_map (λ n. k + n) (position is_none xs)
free_position k [] = refl
free_position k (None ∷ xs) =
    let e : k ≡ k + 0 = omega arith in
    ap (λ (n : ℕ). Some n) e ∙ ap (λ (o : Option ℕ). option_map (λ n. k + n) o) (sym (position_next is_none None xs))
free_position {X = X} k (Some x ∷ xs) =
    free_position (suc k) xs ∙ by (position is_none xs)
    ∙ ap (λ (o : Option ℕ). option_map (λ n. k + n) o) (sym (position_next is_none (Some x) xs))
  where
    by : (o : Option ℕ) → option_map (λ n. suc k + n) o ≡ option_map (λ n. k + n) (option_map suc o)
    by None = refl
    by (Some n) = let e : suc k + n ≡ k + suc n = omega arith in ap (λ (j : ℕ). Some j) e

no_shift : (o : Option ℕ) → option_map (λ n. 0 + n) o ≡ o
no_shift None = refl
no_shift (Some n) = let e : 0 + n ≡ n = omega arith in ap (λ (k : ℕ). Some k) e

first_free_is : {X : Type 0} (xs : List (Option X)) → first_free xs ≡ position is_none xs
first_free_is xs = free_position 0 xs ∙ no_shift (position is_none xs)

-- the first ones of lists that agree
take_mapped : {X Y : Type 0} (f : X → Y) (n : ℕ) (xs : List X) → map f (take n xs) ≡ take n (map f xs)
take_mapped f zero xs = refl
take_mapped f (suc n) [] = refl
take_mapped {Y = Y} f (suc n) (x ∷ xs) = ap (λ (l : List Y). f x ∷ l) (take_mapped f n xs)

-- how many slots are in use once one of them is free
abbrev one_if : Option Slot → ℕ
one_if o = if is_some o then 1 else 0

pub in_use_left : (p : ProcessState) (s : ℕ) (slot : Slot) → s < length p.slots → slot_at p s ≡ Some slot → in_use (left p s) + 1 ≡ in_use p
in_use_left p s slot less there =
    let e : in_use (left p s) + one_if (slot_at p s) ≡ in_use p + 0 = sum_by-set one_if p.slots s None None less in
    let f : one_if (slot_at p s) ≡ 1 = ap one_if there in
    omega arith

-- ---- a slot and its place

-- how many real-time signals are pending for it
queued_in_place : (rules : ℕ) (t : ThreadState) (o : Option Slot) (rest : ℕ) (lt : Option LxThread) → SlotFits rules t o
    → ThreadStands t o rest lt → queued_signals_at lt ≡ queued_at o
queued_in_place rules t None rest lt fits st = ap queued_signals_at st
queued_in_place rules t (Some slot) rest lt fits st = by slot.life fits st
  where
    by : (l : Life) → LifeFits rules t slot l → InUse t slot rest lt l → queued_signals_at lt ≡ real_time_count slot.pending
    by Reserved f g = ap queued_signals_at g.is ∙ ap (λ (z : Slot). real_time_count z.pending) (sym f.fresh)
    by Live f g = ap queued_signals_at g.is ∙ real_time_count_image slot.pending
    by Dying f g = ap queued_signals_at g.is ∙ real_time_count_image slot.pending

-- whether a live thread with this tid is there
live_in_place : (rules tid : ℕ) (t : ThreadState) (o : Option Slot) (rest : ℕ) (lt : Option LxThread) → SlotFits rules t o
    → ThreadStands t o rest lt → is_live_as tid lt ≡ has_live_tid tid o
live_in_place rules tid t None rest lt fits st = ap (is_live_as tid) st
live_in_place rules tid t (Some slot) rest lt fits st = by slot.life refl fits st
  where
    by : (l : Life) → slot.life ≡ l → LifeFits rules t slot l → InUse t slot rest lt l → is_live_as tid lt ≡ has_live_tid tid (Some slot)
    by Reserved e f g = ap (is_live_as tid) g.is ∙ ap (λ (l : Life). has_live_tid tid (Some (record slot { life = l }))) (sym e)
    by Live e f g =
        ap (is_live_as tid) g.is
        ∙ ap (λ (l : Life). is_live_as tid (Some (record (linux_thread t t.phase slot g.mark rest) { life = linux_life l }))) e
        ∙ ap (λ (n : ℕ). has_live_tid tid (Some (record slot { tid = n; life = Live }))) f.tid
        ∙ ap (λ (l : Life). has_live_tid tid (Some (record slot { life = l }))) (sym e)
    by Dying e f g =
        ap (is_live_as tid) g.is
        ∙ ap (λ (l : Life). is_live_as tid (Some (record (linux_thread t t.phase slot g.mark rest) { life = linux_life l }))) e
        ∙ ap (λ (n : ℕ). has_live_tid tid (Some (record slot { tid = n; life = Dying }))) f.started.tid
        ∙ ap (λ (l : Life). has_live_tid tid (Some (record slot { life = l }))) (sym e)

-- whether a live or dying thread with this tid is there
owner_in_place : (rules tid : ℕ) (t : ThreadState) (o : Option Slot) (rest : ℕ) (lt : Option LxThread) → SlotFits rules t o
    → ThreadStands t o rest lt → is_owner tid lt ≡ has_started_tid tid o
owner_in_place rules tid t None rest lt fits st = ap (is_owner tid) st
owner_in_place rules tid t (Some slot) rest lt fits st = by slot.life refl fits st
  where
    by : (l : Life) → slot.life ≡ l → LifeFits rules t slot l → InUse t slot rest lt l → is_owner tid lt ≡ has_started_tid tid (Some slot)
    by Reserved e f g = ap (is_owner tid) g.is ∙ ap (λ (l : Life). has_started_tid tid (Some (record slot { life = l }))) (sym e)
    by Live e f g =
        ap (is_owner tid) g.is
        ∙ ap (λ (l : Life). is_owner tid (Some (record (linux_thread t t.phase slot g.mark rest) { life = linux_life l }))) e
        ∙ ap (λ (n : ℕ). has_started_tid tid (Some (record slot { tid = n; life = Live }))) f.tid
        ∙ ap (λ (l : Life). has_started_tid tid (Some (record slot { life = l }))) (sym e)
    by Dying e f g =
        ap (is_owner tid) g.is
        ∙ ap (λ (l : Life). is_owner tid (Some (record (linux_thread t t.phase slot g.mark rest) { life = linux_life l }))) e
        ∙ ap (λ (n : ℕ). has_started_tid tid (Some (record slot { tid = n; life = Dying }))) f.started.tid
        ∙ ap (λ (l : Life). has_started_tid tid (Some (record slot { life = l }))) (sym e)

-- whether it is free
free_in_place : (t : ThreadState) (o : Option Slot) (rest : ℕ) (lt : Option LxThread) → ThreadStands t o rest lt → is_none lt ≡ is_none o
free_in_place t None rest lt st = ap (λ (z : Option LxThread). is_none z) st
free_in_place t (Some slot) rest lt st = by slot.life st
  where
    by : (l : Life) → InUse t slot rest lt l → is_none lt ≡ false
    by Reserved g = ap (λ (z : Option LxThread). is_none z) g.is
    by Live g = ap (λ (z : Option LxThread). is_none z) g.is
    by Dying g = ap (λ (z : Option LxThread). is_none z) g.is

-- ---- all slots and all places

module _ (threads : ℕ → Option ThreadState) (p : ProcessState) (rest : ℕ → ℕ) (L : LinuxState) (ok : ThreadsSound threads p) (st : ThreadsStand threads p rest L) where
  long : length L.threads ≡ length p.slots
  long = st.places ∙ sym ok.slots

  within : (s : ℕ) → s < length L.threads → s < SLOTS
  within s less = let e = st.places in omega arith

  agree : {C : Type 0} (f : Option LxThread → C) (g : Option Slot → C)
      → ((t : ThreadState) (o : Option Slot) (n : ℕ) (lt : Option LxThread) → SlotFits p.rules t o → ThreadStands t o n lt → f lt ≡ g o)
      → map f L.threads ≡ map g p.slots
  agree f g same =
      mapped f g L.threads p.slots long (λ s less.
      let t = ok.there s (within s less) in same t.0 (slot_at p s) (rest s) (at_place L.threads s) (ok.lives s t.0 t.1) (st.each s t.0 t.1))

  -- real-time signals that are queued, of all threads and the process
  pub queued_image : ProcessStands p L → queued_signals L.threads L.pending ≡ queued p
  queued_image ps =
      let own : sum_by queued_signals_at L.threads ≡ sum_by queued_at p.slots =
      sum_from queued_signals_at L.threads 0
      ∙ ap (λ (l : List ℕ). fold (λ (a b : ℕ). a + b) 0 l) (agree queued_signals_at queued_at (queued_in_place p.rules))
      ∙ sym (sum_from queued_at p.slots 0) in
      ap (λ (n : ℕ). n + lx.real_time_count L.pending) own
      ∙ ap (λ (l : List SigInfo). sum_by queued_at p.slots + lx.real_time_count l) ps.pending
      ∙ ap (λ (n : ℕ). sum_by queued_at p.slots + n) (real_time_count_image p.pending)

  -- the slot of the live thread with a tid
  pub live_slot_image : (tid : ℕ) → live_slot tid L.threads ≡ position (has_live_tid tid) p.slots
  unfolding live_slot
  live_slot_image tid =
      position_of (is_live_as tid) L.threads
      ∙ ap (λ (l : List Bool). position (λ (b : Bool). b) l) (agree (is_live_as tid) (has_live_tid tid) (live_in_place p.rules tid))
      ∙ sym (position_of (has_live_tid tid) p.slots)

  -- whether a lock's owner lives or dies
  pub has_owner_image : (tid : ℕ) → has_owner L.threads tid ≡ list_any (has_started_tid tid) p.slots
  has_owner_image tid =
      any_of (is_owner tid) L.threads
      ∙ ap (λ (l : List Bool). list_any (λ (b : Bool). b) l) (agree (is_owner tid) (has_started_tid tid) (owner_in_place p.rules tid))
      ∙ sym (any_of (has_started_tid tid) p.slots)

  -- the slot that a clone reserves
  pub place_for_image : ProcessStands p L → place_for L.rules L.threads L.next_tid ≡ slot_for p
  place_for_image ps =
      ap (λ (n : ℕ). place_for n L.threads L.next_tid) ps.rules ∙ ap (λ (n : ℕ). place_for p.rules L.threads n) ps.next_tid
      ∙ ap (λ (o : Option ℕ). if nat_lt last_tid p.next_tid then None else o) first
    where
      n : ℕ
      n = slot_limit p.rules

      free : map is_none (take n L.threads) ≡ map is_none (take n p.slots)
      free =
          take_mapped is_none n L.threads
          ∙ ap (λ (l : List Bool). take n l)
          (agree (λ (lt : Option LxThread). is_none lt) (λ (o : Option Slot). is_none o) (λ t o k lt f g. free_in_place t o k lt g))
          ∙ sym (take_mapped is_none n p.slots)

      first : first_free (take n L.threads) ≡ position is_none (take n p.slots)
      first =
          first_free_is (take n L.threads) ∙ position_of is_none (take n L.threads)
          ∙ ap (λ (l : List Bool). position (λ (b : Bool). b) l) free ∙ sym (position_of is_none (take n p.slots))

  -- whether the thread of slot s is the only one
  pub alone_image : (s : ℕ) → has_no_thread (slice_set L.threads s None) ≡ (in_use (left p s) == 0)
  alone_image s =
      all_of is_none (slice_set L.threads s None)
      ∙ ap (λ (l : List Bool). list_all (λ (b : Bool). b) l)
      (sym (set_mapped is_none L.threads s None)
      ∙ ap (λ (l : List Bool). slice_set l s true)
      (agree (λ (lt : Option LxThread). is_none lt) (λ (o : Option Slot). is_none o) (λ t o k lt f g. free_in_place t o k lt g))
      ∙ set_mapped is_none p.slots s None)
      ∙ sym (all_of is_none (slice_set p.slots s None)) ∙ none_counted (slice_set p.slots s None)
