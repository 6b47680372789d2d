-- Which waits may resume, and what becomes of them.
use Rattle.std.proofs.Common.{◌≡◌, ◌<◌, ℕ, zero, suc, ◌+◌, Bool, true, false, not, ◌&&◌, List, [], ◌∷◌, Option, Some, None, IfSome, IsSome, is_some, ◌⊎◌, inl, inr, refl, sym, ap, ◌∙◌, subst, arith, option_map, if◌then◌else◌}
use Rattle.std.specs.List.{range_with_len}
use Rattle.std.specs.Prelude.{find, slice_set}
use Rattle.linux_abi.specs.LinuxErrno.{answer_of}
use Rattle.linux_abi.specs.declared.errno.LinuxErrno.{LinuxErrno}
use Rattle.lx_machine.specs.Calls.{answered, refused, waits_no_more}
use Rattle.lx_machine.specs.Futex.{on_queue}
use Rattle.lx_machine.specs.FutexWaitv.{answers_places, released_place, waitv_answered_by}
use Rattle.lx_machine.specs.Lists.{at_place, bind}
use Rattle.lx_machine.specs.PiQueue.{is_pi_queued}
use Rattle.lx_machine.specs.Queue.{QueueOutcome, is_place_queued, is_queued}
use Rattle.lx_machine.specs.Shape.{stage_of}
use Rattle.lx_machine.specs.Step.{LStep, of_call, step_of, unless_ended}
use Rattle.lx_machine.specs.Threads.{in_call_of, with_call, without_call, without_thread}
use Rattle.lx_machine.specs.Waits.{resume}
use Rattle.lx_machine.specs.declared.calls.LxCall.{LxCall}
use Rattle.lx_machine.specs.declared.calls.Stage.{Stage}
use Rattle.lx_machine.specs.declared.calls.Stage.TheVariants as stage
use Rattle.lx_machine.specs.declared.label.Label.TheVariants as label
use Rattle.lx_machine.specs.declared.state.LinuxState.{LinuxState}
use Rattle.lx_machine.specs.declared.threads.GuestEnd.{GuestEnd}
use Rattle.lx_machine.specs.declared.threads.LxThread.{LxThread}
use Rattle.lx_laws.specs.Callers.{IsInCall}
use Rattle.lx_laws.specs.Waiters.{IsAnswer, IsRefusedAt, IsReleasedAt, IsReleasedPlace, OnlyTheReleasedResume, ResumeAnswers, ResumedWaitsNoMore, ResumesOnce, TheReleasedMayResume, WaitsNoMore}
use Rattle.lx_laws.proofs.Apart.{some_is}
use Rattle.lx_laws.proofs.Callers.{follow, known}
use Rattle.lx_laws.proofs.Frame.{unended}
use Rattle.lx_laws.proofs.Results.{in_option}

abbrev MayGoOn : Stage → LinuxState → LxThread → LxCall → Type 0
MayGoOn st L t c = IsReleasedAt st L t c ⊎ IsRefusedAt st c

-- ---- the first that passes a test

module _ (test : ℕ → Bool) where
  -- among these numbers, none
  none_found : (from n : ℕ) → find test (range_with_len from n) ≡ None → (i : ℕ) → i < n → test (from + i) ≡ false
  none_found from zero e i below = absurd (omega arith)
  none_found from (suc n) e i below = by (none_found (from + 1) n) (test from) refl e i below
    where
      by : (find test (range_with_len (from + 1) n) ≡ None → (j : ℕ) → j < n → test (from + 1 + j) ≡ false) → (b : Bool) → test from ≡ b → (if b then Some from else find test (range_with_len (from + 1) n)) ≡ None → (j : ℕ) → j < suc n → test (from + j) ≡ false
      by ih true is f j less = absurd (cc)
      by ih false is f zero less = subst (λ (m : ℕ). test m ≡ false) (omega arith) is
      by ih false is f (suc j) less = subst (λ (m : ℕ). test m ≡ false) (omega arith) (ih f j (omega arith))

  -- the first one
  pub record FirstFound (from n found : ℕ) : Type 0 where
    pub within : found < from + n
    pub passes : test found ≡ true
    pub least : (i : ℕ) → from + i < found → test (from + i) ≡ false

  first_found : (from n found : ℕ) → find test (range_with_len from n) ≡ Some found → FirstFound from n found
  first_found from zero found e = absurd (cc)
  first_found from (suc n) found e = by (first_found (from + 1) n found) (test from) refl e
    where
      by : (find test (range_with_len (from + 1) n) ≡ Some found → FirstFound (from + 1) n found) → (b : Bool) → test from ≡ b → (if b then Some from else find test (range_with_len (from + 1) n)) ≡ Some found → FirstFound from (suc n) found
      by ih true is f = let same = some_is from found f in record {
        within = omega arith;
        passes = subst (λ (m : ℕ). test m ≡ true) same is;
        least = λ i less. absurd (omega arith);
      }
      by ih false is f = let rest = ih f in let within = rest.within in record {
        within = omega arith;
        passes = rest.passes;
        least = λ i less. least_from rest i less;
      }
        where
          least_from : FirstFound (from + 1) n found → (i : ℕ) → from + i < found → test (from + i) ≡ false
          least_from rest zero less = subst (λ (m : ℕ). test m ≡ false) (omega arith) is
          least_from rest (suc i) less = subst (λ (m : ℕ). test m ≡ false) (omega arith) (rest.least i (omega arith))

  -- one that passes is found, or one before it
  some_found : (from n i : ℕ) → i < n → test (from + i) ≡ true → IsSome (find test (range_with_len from n))
  some_found from n i below passes = by (find test (range_with_len from n)) refl
    where
      by : (o : Option ℕ) → find test (range_with_len from n) ≡ o → IsSome o
      by (Some m) e = refl
      by None e = absurd (differ (sym (none_found from n e i below) ∙ passes))
        where
          differ : false ≡ true → ⊥
          differ f = cc

-- ---- what a Resume leaves

turned : (b : Bool) → not b ≡ true → b ≡ false
turned false e = refl
turned true e = absurd (cc)

turned_back : (b : Bool) → not b ≡ false → b ≡ true
turned_back true e = refl
turned_back false e = absurd (cc)

pub record Resumed (st : Stage) (L : LinuxState) (s : ℕ) (t : LxThread) (c : LxCall) (next : LinuxState) : Type 0 where
  pub may : MayGoOn st L t c
  pub after : LxCall
  pub in_place : next.threads ≡ slice_set (without_thread L s).threads s (Some (with_call (without_call t) after))
  pub ended : WaitsNoMore after
  pub answer : ℕ
  pub answers : after.result ≡ Some answer
  pub right : IsAnswer st L t c answer

both_true : (a b : Bool) → (a && not b) ≡ true → (a ≡ true) × (b ≡ false)
both_true true false e = (refl, refl)
both_true true true e = absurd (cc)
both_true false b e = absurd (cc)

module _ (L : LinuxState) (s : ℕ) (t : LxThread) (c : LxCall) where
  -- a wait of one place, which was released
  one_resumed : (st : Stage) (queued : Bool) → ((c.waits ≡ true) × (queued ≡ false) → MayGoOn st L t c) → IsAnswer st L t c 0 →
      IfSome (option_map (in_call_of (without_thread L s) s (without_call t)) (if c.waits && not queued then Some (waits_no_more (answered c 0)) else None)) (Resumed st L s t c)
  one_resumed st queued may right = by (c.waits && not queued) refl
    where
      by : (b : Bool) → (c.waits && not queued) ≡ b → IfSome (option_map (in_call_of (without_thread L s) s (without_call t)) (if b then Some (waits_no_more (answered c 0)) else None)) (Resumed st L s t c)
      by true e = record {
        may = may (both_true c.waits queued e);
        after = waits_no_more (answered c 0);
        in_place = refl;
        ended = record { waits = refl; nowhere = refl; refusal = refl };
        answer = 0;
        answers = refl;
        right = right;
      }
      by false e = tt

  -- a wait in many places
  abbrev is_free : ℕ → Bool
  is_free i = not (is_place_queued t.tid i L.queue)

  from_zero : (j : ℕ) → is_free (0 + j) ≡ false → is_free j ≡ false
  from_zero j e = subst (λ (m : ℕ). is_free m ≡ false) (omega arith) e

  many_resumed : (o : Option ℕ) (r : Option LinuxErrno) → released_place t.tid L.queue c ≡ o → c.refusal ≡ r →
      IfSome (option_map (on_queue (without_thread L s) s (without_call t)) (option_map (answers_places t.tid L.queue) (waitv_answered_by c o r))) (Resumed stage.WaitMany L s t c)
  many_resumed (Some i) r e f =
      let first = first_found is_free 0 c.queued i e in
      let within = first.within in
      let known : IsReleasedPlace L t c i = (omega arith, turned (is_place_queued t.tid i L.queue) first.passes) in
      record {
        may = inl (i, known);
        after = waits_no_more (answered c i);
        in_place = refl;
        ended = record { waits = refl; nowhere = refl; refusal = refl };
        answer = i;
        answers = refl;
        right = inl (known, λ j less. turned_back (is_place_queued t.tid j L.queue) (from_zero j (first.least j (omega arith))));
      }
  many_resumed None (Some e) f g = record {
    may = inr (e, g);
    after = waits_no_more (refused c e);
    in_place = refl;
    ended = record { waits = refl; nowhere = refl; refusal = refl };
    answer = answer_of e;
    answers = refl;
    right = inr (λ j less. turned_back (is_place_queued t.tid j L.queue) (from_zero j (none_found is_free 0 c.queued f j less)), (e, g, refl));
  }
  many_resumed None None e f = tt

resumes : (st : Stage) (L : LinuxState) (s : ℕ) (t : LxThread) (c : LxCall) → IfSome (resume st (without_thread L s) s (without_call t) c) (Resumed st L s t c)
resumes stage.Wait L s t c = one_resumed L s t c stage.Wait (is_queued t.tid L.queue) (λ h. inl h) refl
resumes stage.PiWait L s t c = one_resumed L s t c stage.PiWait (is_pi_queued t.tid L.pi_queue) (λ h. inl h) refl
resumes stage.WaitMany L s t c = many_resumed L s t c (released_place t.tid L.queue c) c.refusal refl refl
resumes _ L s t c = tt

told : (L next : LinuxState) (s : ℕ) → LStep L (label.Resume s) ≡ Some next → IsInCall L s (λ t c. Resumed (stage_of c) L s t c next)
told L next s e =
    in_option (λ M. IsInCall L s (λ t c. Resumed (stage_of c) L s t c M)) (step_of L (label.Resume s)) next
    (known resume (λ t c M. Resumed (stage_of c) L s t c M) L s (λ t c. resumes (stage_of c) L s t c)) (unended L.end (step_of L (label.Resume s)) next e)

pub only_the_released : OnlyTheReleasedResume
only_the_released L next s e = follow L s (λ t c. Resumed (stage_of c) L s t c next) (λ t c. MayGoOn (stage_of c) L t c) (λ t c h. h.may) (told L next s e)

-- ---- each that was released may resume

one_may : {X : Type 0} (waits queued : Bool) (f : LxCall → X) (c : LxCall) → waits ≡ true → queued ≡ false → IsSome (option_map f (if waits && not queued then Some c else None))
one_may true false f c e g = refl
one_may true true f c e g = absurd (cc)
one_may false queued f c e g = absurd (cc)

many_may : {X : Type 0} (f : LxCall → QueueOutcome) (g : QueueOutcome → X) (c : LxCall) (o : Option ℕ) (r : Option LinuxErrno) → IsSome o ⊎ IsSome r → IsSome (option_map g (option_map f (waitv_answered_by c o r)))
many_may f g c (Some i) r h = refl
many_may f g c None (Some e) h = refl
many_may f g c None None (inl h) = absurd (cc)
many_may f g c None None (inr h) = absurd (cc)

goes : (st : Stage) (L : LinuxState) (s : ℕ) (t : LxThread) (c : LxCall) → MayGoOn st L t c → IsSome (resume st (without_thread L s) s (without_call t) c)
goes stage.Wait L s t c (inl h) = one_may c.waits (is_queued t.tid L.queue) (in_call_of (without_thread L s) s (without_call t)) (waits_no_more (answered c 0)) h.0 h.1
goes stage.PiWait L s t c (inl h) = one_may c.waits (is_pi_queued t.tid L.pi_queue) (in_call_of (without_thread L s) s (without_call t)) (waits_no_more (answered c 0)) h.0 h.1
goes stage.WaitMany L s t c (inl h) =
    let place = h.1 in
    many_may (answers_places t.tid L.queue) (on_queue (without_thread L s) s (without_call t)) c (released_place t.tid L.queue c) c.refusal
    (inl (some_found (λ i. not (is_place_queued t.tid i L.queue)) 0 c.queued h.0 place.0 (subst (λ (m : ℕ). not (is_place_queued t.tid m L.queue) ≡ true) (omega arith) (ap not place.1))))
goes stage.WaitMany L s t c (inr h) =
    many_may (answers_places t.tid L.queue) (on_queue (without_thread L s) s (without_call t)) c (released_place t.tid L.queue c) c.refusal (inr (ap is_some h.1))
goes _ L s t c (inl h) = absurd h
goes _ L s t c (inr h) = absurd h

pub the_released_may : TheReleasedMayResume
the_released_may L s on h =
    let free = without_thread L s in
    let t = h.thread in
    let c = h.call in
    let step = ap (λ (o : Option LxThread). bind o (λ t. of_call resume free s t)) h.in_place
    ∙ ap (λ (o : Option LxCall). bind o (λ c. resume (stage_of c) free s (without_call t) c)) h.in_call in
    ap (λ (end : Option GuestEnd). is_some (unless_ended end (step_of L (label.Resume s)))) on ∙ ap is_some step ∙ goes (stage_of c) L s t c h.holds

-- ---- after it

-- a place that was made free and filled again
refilled : {X : Type 0} (xs : List (Option X)) (i : ℕ) (x y : X) → at_place xs i ≡ Some x → at_place (slice_set (slice_set xs i None) i (Some y)) i ≡ Some y
refilled [] i x y e = absurd (cc)
refilled (z ∷ xs) zero x y e = refl
refilled (z ∷ xs) (suc i) x y e = refilled xs i x y e

-- the thread is in its place, in the call that this is of
stands_in : (L next : LinuxState) (s : ℕ) (P : LxCall → Type 0) (h : IsInCall L s (λ t c. Resumed (stage_of c) L s t c next)) → P h.holds.after → IsInCall next s (λ u d. P d)
stands_in L next s P h p = record {
  thread = with_call (without_call h.thread) h.holds.after;
  call = h.holds.after;
  in_place = ap (λ (ts : List (Option LxThread)). at_place ts s) h.holds.in_place ∙ refilled L.threads s h.thread (with_call (without_call h.thread) h.holds.after) h.in_place;
  in_call = refl;
  holds = p;
}

pub waits_no_longer : ResumedWaitsNoMore
waits_no_longer L next s e = let h = told L next s e in stands_in L next s WaitsNoMore h h.holds.ended

pub answers : ResumeAnswers
answers L next s e =
    let h = told L next s e in
    record {
      thread = h.thread;
      call = h.call;
      in_place = h.in_place;
      in_call = h.in_call;
      holds = (h.holds.answer, h.holds.right, stands_in L next s (λ d. d.result ≡ Some h.holds.answer) h h.holds.answers);
    }

-- a call that waits no more was neither released nor refused
differ : false ≡ true → ⊥
differ e = cc

not_released : (st : Stage) (L : LinuxState) (t : LxThread) (c : LxCall) → WaitsNoMore c → MayGoOn st L t c → ⊥
not_released stage.Wait L t c h (inl k) = differ (sym h.waits ∙ k.0)
not_released stage.PiWait L t c h (inl k) = differ (sym h.waits ∙ k.0)
not_released stage.WaitMany L t c h (inl k) = let place = k.1 in let less = place.0 in let none = h.nowhere in omega arith
not_released stage.WaitMany L t c h (inr k) = nothing (sym h.refusal ∙ k.1)
  where
    nothing : ◌≡◌ {A = Option LinuxErrno} None (Some k.0) → ⊥
    nothing e = cc
not_released _ L t c h (inl k) = k
not_released _ L t c h (inr k) = k

pub once : ResumesOnce
once L next s e h =
    let known = waits_no_longer L next s e in
    let same_thread = some_is known.thread h.thread (sym known.in_place ∙ h.in_place) in
    let same_call = some_is known.call h.call (sym known.in_call ∙ ap (λ (u : LxThread). u.call) same_thread ∙ h.in_call) in
    not_released (stage_of h.call) next h.thread h.call (subst WaitsNoMore same_call known.holds) h.holds
