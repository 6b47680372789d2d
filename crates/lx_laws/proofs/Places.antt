-- The tids of the threads in their places, and what steps leave of them.
use Rattle.std.proofs.Common.{◌≡◌, ◌≤◌, ◌<◌, ℕ, zero, suc, ◌+◌, ◌-◌, Bool, true, false, List, [], ◌∷◌, map, Option, Some, None, option_map, refl, sym, ap, ◌∙◌, arith, ◌⊎◌, inl, inr, if◌then◌else◌, ◌==◌, le_refl}
use Rattle.std.specs.Prelude.{slice_set}
use Rattle.linux_abi.specs.declared.signals.LinuxSig.{LinuxSig}
use Rattle.lx_machine.specs.Lists.{at_place}
use Rattle.lx_machine.specs.Signal.{forgotten_at, sent_to}
use Rattle.lx_machine.specs.Threads.{after_write, unmarked, unmarked_from}
use Rattle.lx_machine.specs.Whole.{call_put}
use Rattle.lx_machine.specs.declared.calls.LxCall.{LxCall}
use Rattle.lx_machine.specs.declared.signals.Action.{Action}
use Rattle.lx_machine.specs.declared.signals.SigInfo.{SigInfo}
use Rattle.lx_machine.specs.declared.state.LinuxState.{LinuxState}
use Rattle.lx_machine.specs.declared.threads.LxThread.{LxThread}
use Rattle.places.specs.Places as place
use Rattle.lx_laws.specs.Tids.{TidsDiffer, tids}
use Rattle.lx_laws.proofs.Apart.{some_is}

abbrev tid_in : Option LxThread → Option ℕ
tid_in o = option_map (λ (t : LxThread). t.tid) o

-- ---- lists of places

pub tids_set : (ts : List (Option LxThread)) (s : ℕ) (o : Option LxThread) → tids (slice_set ts s o) ≡ slice_set (tids ts) s (tid_in o)
tids_set [] s o = refl
tids_set (x ∷ ts) zero o = refl
tids_set (x ∷ ts) (suc s) o = ap (λ (l : List (Option ℕ)). tid_in x ∷ l) (tids_set ts s o)

pub tids_at : (ts : List (Option LxThread)) (s : ℕ) (t : LxThread) → at_place ts s ≡ Some t → at_place (tids ts) s ≡ Some t.tid
tids_at [] s t e = absurd (cc)
tids_at (x ∷ ts) zero t e = ap tid_in e
tids_at (x ∷ ts) (suc s) t e = tids_at ts s t e

unmarked_tid : (first last : ℕ) (o : Option LxThread) → tid_in (unmarked first last o) ≡ tid_in o
unmarked_tid first last None = refl
unmarked_tid first last (Some t) = refl

unmarked_tids : (k s first last : ℕ) (ts : List (Option LxThread)) → tids (unmarked_from k s first last ts) ≡ tids ts
unmarked_tids k s first last [] = refl
unmarked_tids k s first last (t ∷ ts) = by (k == s) (unmarked_tids (suc k) s first last ts)
  where
    by : (b : Bool) → tids (unmarked_from (suc k) s first last ts) ≡ tids ts → tids ((if b then t else unmarked first last t) ∷ unmarked_from (suc k) s first last ts) ≡ tids (t ∷ ts)
    by true e = ap (λ (l : List (Option ℕ)). tid_in t ∷ l) e
    by false e = ap (λ (x : Option ℕ). x ∷ tids (unmarked_from (suc k) s first last ts)) (unmarked_tid first last t) ∙ ap (λ (l : List (Option ℕ)). tid_in t ∷ l) e

pub tids_written : (s at len : ℕ) (ts : List (Option LxThread)) → tids (after_write s at len ts) ≡ tids ts
tids_written s at len ts = by (len == 0)
  where
    by : (b : Bool) → tids (if b then ts else unmarked_from 0 s (place.granule at) (place.granule (at + len - 1)) ts) ≡ tids ts
    by true = refl
    by false = unmarked_tids 0 s (place.granule at) (place.granule (at + len - 1)) ts

pub tids_forgotten : (sig : LinuxSig) (ts : List (Option LxThread)) → tids (map (forgotten_at sig) ts) ≡ tids ts
tids_forgotten sig [] = refl
tids_forgotten sig (None ∷ ts) = ap (λ (l : List (Option ℕ)). None ∷ l) (tids_forgotten sig ts)
tids_forgotten sig (Some t ∷ ts) = ap (λ (l : List (Option ℕ)). Some t.tid ∷ l) (tids_forgotten sig ts)

pub tids_sent : (slot : ℕ) (actions : List Action) (info : SigInfo) (ts : List (Option LxThread)) → tids (sent_to slot actions info ts) ≡ tids ts
tids_sent slot actions info [] = refl
tids_sent zero actions info (None ∷ ts) = refl
tids_sent zero actions info (Some t ∷ ts) = refl
tids_sent (suc slot) actions info (x ∷ ts) = ap (λ (l : List (Option ℕ)). tid_in x ∷ l) (tids_sent slot actions info ts)

pub tids_put : (ts : List (Option LxThread)) (s : ℕ) (c : LxCall) → tids (call_put ts s c) ≡ tids ts
tids_put [] s c = refl
tids_put (None ∷ ts) zero c = refl
tids_put (Some t ∷ ts) zero c = refl
tids_put (x ∷ ts) (suc s) c = ap (λ (l : List (Option ℕ)). tid_in x ∷ l) (tids_put ts s c)

-- ---- reading a place after a write

pub at_set : (xs : List (Option ℕ)) (s : ℕ) (o : Option ℕ) (i m : ℕ) → at_place (slice_set xs s o) i ≡ Some m → ((i ≡ s) × (o ≡ Some m)) ⊎ (at_place xs i ≡ Some m)
at_set [] s o i m e = inr e
at_set (x ∷ xs) zero o zero m e = inl (refl, e)
at_set (x ∷ xs) zero o (suc i) m e = inr e
at_set (x ∷ xs) (suc s) o zero m e = inr e
at_set (x ∷ xs) (suc s) o (suc i) m e = by (at_set xs s o i m e)
  where
    by : ((i ≡ s) × (o ≡ Some m)) ⊎ (at_place xs i ≡ Some m) → ((suc i ≡ suc s) × (o ≡ Some m)) ⊎ (at_place xs i ≡ Some m)
    by (inl h) = inl (ap suc h.0, h.1)
    by (inr h) = inr h

-- ---- what a step leaves, of a thread with this tid, whose place s was free

-- `new`: the place that a new thread has got, if there is one
pub record Left (xs : List (Option ℕ)) (next : ℕ) (s tid : ℕ) (xs' : List (Option ℕ)) (next' : ℕ) : Type 0 where
  pub new : ℕ
  pub rises : next ≤ next'
  pub from : (ys : List (Option ℕ)) → ((i m : ℕ) → at_place xs i ≡ Some m → at_place ys i ≡ Some m) → at_place ys s ≡ Some tid →
      (i m : ℕ) → at_place xs' i ≡ Some m → (at_place ys i ≡ Some m) ⊎ ((i ≡ new) × (m ≡ next) × (next < next'))

abbrev pub Leaves : LinuxState → ℕ → ℕ → LinuxState → Type 0
Leaves L s tid next = Left (tids L.threads) L.next_tid s tid (tids next.threads) next.next_tid

-- a thread with this tid is back in its place, and no other tid is there that wasn't
back_at : (xs ys : List (Option ℕ)) (s tid : ℕ) → ((i m : ℕ) → at_place xs i ≡ Some m → at_place ys i ≡ Some m) → at_place ys s ≡ Some tid → (i m : ℕ) → at_place (slice_set xs s (Some tid)) i ≡ Some m → at_place ys i ≡ Some m
back_at xs ys s tid sub own i m e = by (at_set xs s (Some tid) i m e)
  where
    by : ((i ≡ s) × (◌≡◌ {A = Option ℕ} (Some tid) (Some m))) ⊎ (at_place xs i ≡ Some m) → at_place ys i ≡ Some m
    by (inl h) = ap (at_place ys) h.0 ∙ own ∙ h.1
    by (inr h) = sub i m h

-- the place is still free
pub free : (xs : List (Option ℕ)) (next s tid : ℕ) → Left xs next s tid xs next
free xs next s tid = record { new = 0; rises = le_refl next; from = λ ys sub own i m e. inl (sub i m e) }

-- the thread is back
pub back_to : (xs xs' : List (Option ℕ)) (next s tid : ℕ) → xs' ≡ slice_set xs s (Some tid) → Left xs next s tid xs' next
back_to xs xs' next s tid same = record {
  new = 0;
  rises = le_refl next;
  from = λ ys sub own i m e. inl (back_at xs ys s tid sub own i m (ap (λ (l : List (Option ℕ)). at_place l i) (sym same) ∙ e));
}

set_tids : (xs : List (Option ℕ)) (ts : List (Option LxThread)) (s tid : ℕ) (t : LxThread) → tids ts ≡ xs → t.tid ≡ tid → tids (slice_set ts s (Some t)) ≡ slice_set xs s (Some tid)
set_tids xs ts s tid t same own =
    tids_set ts s (Some t) ∙ ap (λ (l : List (Option ℕ)). slice_set l s (Some t.tid)) same ∙ ap (λ (n : ℕ). slice_set xs s (Some n)) own

module _ (L : LinuxState) (s : ℕ) where
  pub back : (t : LxThread) → Left (tids L.threads) L.next_tid s t.tid (tids (slice_set L.threads s (Some t))) L.next_tid
  back t = back_to (tids L.threads) _ L.next_tid s t.tid (set_tids (tids L.threads) L.threads s t.tid t refl refl)

  -- the thread has this tid, and other places have changed
  pub back_after : (ts : List (Option LxThread)) (tid : ℕ) (t : LxThread) → tids ts ≡ tids L.threads → t.tid ≡ tid → Left (tids L.threads) L.next_tid s tid (tids (slice_set ts s (Some t))) L.next_tid
  back_after ts tid t same own = back_to (tids L.threads) _ L.next_tid s tid (set_tids (tids L.threads) ts s tid t same own)

  -- the thread is back, has this tid, and then places change, but none of their tids
  pub back_then : (ts : List (Option LxThread)) (tid : ℕ) (t : LxThread) → tids ts ≡ tids (slice_set L.threads s (Some t)) → t.tid ≡ tid → Left (tids L.threads) L.next_tid s tid (tids ts) L.next_tid
  back_then ts tid t same own = back_to (tids L.threads) _ L.next_tid s tid (same ∙ set_tids (tids L.threads) L.threads s tid t refl own)

  -- a call that looks at all threads: the thread is in its place before, and stays there
  pub back_whole : (ts : List (Option LxThread)) (t : LxThread) (c : LxCall) → tids ts ≡ tids (slice_set L.threads s (Some t)) → Left (tids L.threads) L.next_tid s t.tid (tids (call_put ts s c)) L.next_tid
  back_whole ts t c same = back_then (call_put ts s c) t.tid t (tids_put ts s c ∙ same) refl

  -- clone: a place gets a thread with the next tid
  pub with_new : (t : LxThread) (slot : ℕ) (new : LxThread) (c : LxCall) → new.tid ≡ L.next_tid → Left (tids L.threads) L.next_tid s t.tid (tids (call_put (slice_set (slice_set L.threads s (Some t)) slot (Some new)) s c)) (L.next_tid + 1)
  with_new t slot new c own = record {
    new = slot;
    rises = omega arith;
    from = λ ys sub is i m e. by ys sub is i m (at_set xs slot (Some L.next_tid) i m (ap (λ (l : List (Option ℕ)). at_place l i) (sym same) ∙ e));
  }
    where
      xs : List (Option ℕ)
      xs = slice_set (tids L.threads) s (Some t.tid)

      same : tids (call_put (slice_set (slice_set L.threads s (Some t)) slot (Some new)) s c) ≡ slice_set xs slot (Some L.next_tid)
      same = tids_put (slice_set (slice_set L.threads s (Some t)) slot (Some new)) s c ∙ set_tids xs (slice_set L.threads s (Some t)) slot L.next_tid new (set_tids (tids L.threads) L.threads s t.tid t refl refl) own

      by : (ys : List (Option ℕ)) → ((i m : ℕ) → at_place (tids L.threads) i ≡ Some m → at_place ys i ≡ Some m) → at_place ys s ≡ Some t.tid → (i m : ℕ) → ((i ≡ slot) × (◌≡◌ {A = Option ℕ} (Some L.next_tid) (Some m))) ⊎ (at_place xs i ≡ Some m) →
          (at_place ys i ≡ Some m) ⊎ ((i ≡ slot) × (m ≡ L.next_tid) × (L.next_tid < L.next_tid + 1))
      by ys sub is i m (inl h) = inr (h.0, sym (some_is L.next_tid m h.1), omega arith)
      by ys sub is i m (inr h) = inl (back_at (tids L.threads) ys s t.tid sub is i m h)

-- a place that gets the tid that it has
pub set_same : (xs : List (Option ℕ)) (i m : ℕ) → at_place xs i ≡ Some m → slice_set xs i (Some m) ≡ xs
set_same [] i m e = refl
set_same (x ∷ xs) zero m e = ap (λ (o : Option ℕ). o ∷ xs) (sym e)
set_same (x ∷ xs) (suc i) m e = ap (λ (l : List (Option ℕ)). x ∷ l) (set_same xs i m e)

-- ---- tids differ after it

module _ (L next : LinuxState) (xs : List (Option ℕ)) (s tid : ℕ) (sub : (i m : ℕ) → at_place xs i ≡ Some m → at_place (tids L.threads) i ≡ Some m) (own : at_place (tids L.threads) s ≡ Some tid) (left : Left xs L.next_tid s tid (tids next.threads) next.next_tid) (h : TidsDiffer L) where
  abbrev Was : ℕ → ℕ → Type 0
  Was i m = (at_place (tids L.threads) i ≡ Some m) ⊎ ((i ≡ left.new) × (m ≡ L.next_tid) × (L.next_tid < next.next_tid))

  was : (i m : ℕ) → at_place (tids next.threads) i ≡ Some m → Was i m
  was i m e = left.from (tids L.threads) sub own i m e

  not_new : (i m : ℕ) → at_place (tids L.threads) i ≡ Some m → m ≡ L.next_tid → ⊥
  not_new i m e f = let b = h.below i m e in omega arith

  two : (i j m : ℕ) → Was i m → Was j m → i ≡ j
  two i j m (inl a) (inl b) = h.differ i j m a b
  two i j m (inl a) (inr b) = absurd (not_new i m a b.1)
  two i j m (inr a) (inl b) = absurd (not_new j m b a.1)
  two i j m (inr a) (inr b) = a.0 ∙ sym b.0

  less : (i m : ℕ) → Was i m → m < next.next_tid
  less i m (inl a) = let b = h.below i m a in let r = left.rises in omega arith
  less i m (inr a) = let e = a.1 in let r = a.2 in omega arith

  pub still_differ : TidsDiffer next
  still_differ = record {
    differ = λ i j m a b. two i j m (was i m a) (was j m b);
    below = λ i m a. less i m (was i m a);
  }

-- a step of the thread in a place, which was free
pub after_step : (L next : LinuxState) (s : ℕ) (t : LxThread) → at_place L.threads s ≡ Some t → Left (tids (slice_set L.threads s None)) L.next_tid s t.tid (tids next.threads) next.next_tid → TidsDiffer L → TidsDiffer next
after_step L next s t at left h = still_differ L next (tids (slice_set L.threads s None)) s t.tid sub (tids_at L.threads s t at) left h
  where
    sub : (i m : ℕ) → at_place (tids (slice_set L.threads s None)) i ≡ Some m → at_place (tids L.threads) i ≡ Some m
    sub i m e = by (at_set (tids L.threads) s None i m (ap (λ (l : List (Option ℕ)). at_place l i) (sym (tids_set L.threads s None)) ∙ e))
      where
        by : ((i ≡ s) × (◌≡◌ {A = Option ℕ} None (Some m))) ⊎ (at_place (tids L.threads) i ≡ Some m) → at_place (tids L.threads) i ≡ Some m
        by (inl f) = absurd (nothing f.1)
          where
            nothing : ◌≡◌ {A = Option ℕ} None (Some m) → ⊥
            nothing g = cc
        by (inr f) = f

-- a step of the thread in a place, which stays there
pub after_own : (L next : LinuxState) (s : ℕ) (t : LxThread) → at_place L.threads s ≡ Some t → Left (tids L.threads) L.next_tid s t.tid (tids next.threads) next.next_tid → TidsDiffer L → TidsDiffer next
after_own L next s t at left h = still_differ L next (tids L.threads) s t.tid (λ i m e. e) (tids_at L.threads s t at) left h
