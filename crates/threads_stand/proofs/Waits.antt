-- Which calls have stages at a futex's word, and which sleep.
use Rattle.std.proofs.Common.{◌≡◌, ◌≢◌, ℕ, Bool, true, false, List, [], ◌∷◌, Option, Some, None, if◌then◌else◌, is_some, ◌&&◌, ◌==◌, refl, sym, ap, ◌∙◌, ◌⊎◌, inl, inr}
use Rattle.std.proofs.Math.Bool.{not}
use Rattle.linux_abi.specs.Call.{call_of}
use Rattle.linux_abi.specs.declared.calls.Call.{Call as LinuxCall}
use Rattle.linux_abi.specs.declared.calls.Call.TheVariants as call
use Rattle.linux_abi.specs.declared.futexes.Comparison.{Comparison}
use Rattle.linux_abi.specs.declared.futexes.FutexOperation.{FutexOperation}
use Rattle.linux_abi.specs.declared.futexes.FutexOperation.TheVariants as operation
use Rattle.linux_abi.specs.declared.futexes.WordOperation.{WordOperation}
use Rattle.lx_machine.specs.Calls.{answered_stage, low_argument, storing}
use Rattle.lx_machine.specs.Clone.{born_from}
use Rattle.lx_machine.specs.EpollCtl.{epoll_ctl_stage_of}
use Rattle.lx_machine.specs.EpollWait.{epoll_pwait_by, epoll_pwait_held, has_timeout}
use Rattle.lx_machine.specs.Exit.{exit_stage}
use Rattle.lx_machine.specs.Futex.{comparison_in, futex_stage_by, has_time, lock_of, operation_in, wait_of, waiting_from, wake_op_by, word_operation_in}
use Rattle.lx_machine.specs.FutexWaitv.{has_queued, place_wait, waitv_from}
use Rattle.lx_machine.specs.Nanosleep.{sleep_from, sleeping}
use Rattle.lx_machine.specs.Queue.{all_bits}
use Rattle.lx_machine.specs.Read.{read_stage}
use Rattle.lx_machine.specs.Readv.{readv_stage}
use Rattle.lx_machine.specs.RobustList.{stage_at}
use Rattle.lx_machine.specs.Shape.{finishing_stage, stage_of, stage_with}
use Rattle.lx_machine.specs.SignalCalls.{fetch_then}
use Rattle.lx_machine.specs.Sigreturn.{sigreturn_of}
use Rattle.lx_machine.specs.Table.{rules_at}
use Rattle.lx_machine.specs.Transfers.{fetch_first}
use Rattle.lx_machine.specs.Write.{write_stage}
use Rattle.lx_machine.specs.declared.calls.LxCall.{LxCall}
use Rattle.lx_machine.specs.declared.calls.Piece.{Piece}
use Rattle.lx_machine.specs.declared.calls.Stage.{Stage}
use Rattle.lx_machine.specs.declared.calls.Stage.TheVariants as stage
use Rattle.lx_machine.specs.declared.death.Death.{Death}
use Rattle.lx_machine.specs.declared.death.DeathPlace.{DeathPlace}
use Rattle.lx_machine.specs.declared.death.DeathPlace.TheVariants as place
use Rattle.lx_machine.specs.declared.futexes.PiLock.{PiLock}
use Rattle.lx_machine.specs.declared.futexes.Wait.{Wait}
use Rattle.bsd_thread.specs.declared.call.Call.{Call}
use Rattle.bsd_thread.specs.declared.phase.Phase.TheVariants as phase
use Rattle.threads_stand.specs.Image.{is_many, is_waitv, linux_call, resting}
use Rattle.threads_stand.specs.Phases.{WaitsOn, next_in, next_phase, phase_of}
use Rattle.threads_stand.proofs.Calls.{sleeping_one}
use Rattle.threads_stand.proofs.Stages.{SleepStage, sleeps, sleeps_many, sleeps_pi, stage_at_next}

-- ---- stages at a futex's word, and waits there; Mark and Release apart, which a death has too

abbrev pub is_futex_stage : Stage → Bool
is_futex_stage (stage.Queue w) = true
is_futex_stage (stage.Requeue r) = true
is_futex_stage (stage.WakeOp w) = true
is_futex_stage (stage.PiLock l) = true
is_futex_stage (stage.PiUnlock at) = true
is_futex_stage stage.Wait = true
is_futex_stage stage.WaitMany = true
is_futex_stage stage.PiWait = true
is_futex_stage _ = false

abbrev pub is_sleep_stage : Stage → Bool
is_sleep_stage stage.Wait = true
is_sleep_stage stage.WaitMany = true
is_sleep_stage stage.PiWait = true
is_sleep_stage _ = false

-- ---- no other call has one

storing_apart : (ps : List Piece) (bytes : List ℕ) → is_futex_stage (storing ps bytes) ≡ false
storing_apart [] bytes = refl
storing_apart (p ∷ ps) [] = refl
storing_apart (p ∷ ps) (b ∷ bytes) = refl

held_apart : (c : LxCall) (o : Option ℕ) → is_futex_stage (answered_stage c o) ≡ false
held_apart c (Some file) = refl
held_apart c None = storing_apart c.pieces c.bytes

born_apart : (ps : List Piece) → is_futex_stage (born_from ps) ≡ false
born_apart [] = refl
born_apart (p ∷ ps) = refl

finishing_apart : (c : LxCall) (o : Option ℕ) → is_futex_stage (finishing_stage c o) ≡ false
finishing_apart c (Some slot) = born_apart c.pieces
finishing_apart c None = held_apart c c.held

fetch_apart : (next : Stage) (ps : List Piece) → is_futex_stage next ≡ false → is_futex_stage (fetch_then next ps) ≡ false
fetch_apart next [] e = e
fetch_apart next (p ∷ ps) e = refl

control_apart : (ps : List Piece) → is_futex_stage (epoll_ctl_stage_of ps) ≡ false
control_apart [] = refl
control_apart (p ∷ ps) = refl

either_apart : (b : Bool) (x y : Stage) → is_futex_stage x ≡ false → is_futex_stage y ≡ false → is_futex_stage (if b then x else y) ≡ false
either_apart true x y e f = e
either_apart false x y e f = f

pwait_held_apart : (c : LxCall) (o : Option ℕ) → is_futex_stage (epoll_pwait_held c o) ≡ false
pwait_held_apart c None = refl
pwait_held_apart c (Some file) = either_apart (has_timeout c && not (is_some c.deadline)) stage.Clock stage.Move refl refl

pwait_apart : (c : LxCall) (ps : List Piece) → is_futex_stage (epoll_pwait_by c ps) ≡ false
pwait_apart c [] = pwait_held_apart c c.held
pwait_apart c (p ∷ ps) = refl

read_apart : (c : LxCall) (o : Option ℕ) → is_futex_stage (read_stage c o) ≡ false
read_apart c None = refl
read_apart c (Some file) = refl

first_apart : (ps : List Piece) → is_futex_stage (fetch_first ps) ≡ false
first_apart [] = refl
first_apart (p ∷ ps) = refl

readv_apart : (c : LxCall) (o : Option ℕ) → is_futex_stage (readv_stage c o) ≡ false
readv_apart c None = refl
readv_apart c (Some file) = either_apart (c.fetched == 0) (fetch_first c.pieces) stage.Move (first_apart c.pieces) refl

write_apart : (c : LxCall) (o : Option ℕ) → is_futex_stage (write_stage c o) ≡ false
write_apart c None = refl
write_apart c (Some file) = first_apart c.pieces

sleeping_apart : (o : Option ℕ) → is_futex_stage (sleeping o) ≡ false
sleeping_apart None = refl
sleeping_apart (Some deadline) = refl

sleep_apart : (c : LxCall) (ps : List Piece) → is_futex_stage (sleep_from c ps) ≡ false
sleep_apart c [] = sleeping_apart c.deadline
sleep_apart c (p ∷ ps) = refl

sigreturn_apart : (fetched : ℕ) (ps : List Piece) → is_futex_stage (sigreturn_of fetched ps) ≡ false
sigreturn_apart fetched [] = either_apart (fetched == 0) stage.Kill stage.Effect refl refl
sigreturn_apart fetched (p ∷ ps) = refl

death_apart : (d : Death) (p : DeathPlace) → is_futex_stage (stage_at d p) ≡ false
death_apart d place.Head = refl
death_apart d place.Next = refl
death_apart d (place.Entry next) = refl
death_apart d place.Pending = refl
death_apart d place.Clear = refl
death_apart d place.Wake = refl
death_apart d place.Gone = refl

exit_apart : (o : Option Death) → is_futex_stage (exit_stage o) ≡ false
exit_apart None = refl
exit_apart (Some d) = death_apart d d.place

-- whose stage this is
data Owner (k : Option LinuxCall) (st : Stage) : Type 0 where
  elsewhere : is_futex_stage st ≡ false → Owner k st
  futex : k ≡ Some call.Futex → Owner k st
  waitv : k ≡ Some call.FutexWaitv → Owner k st

owner : (c : LxCall) (k : Option LinuxCall) → Owner k ((rules_at k).stage c)
owner c None = elsewhere refl
owner c (Some call.Eventfd2) = elsewhere refl
owner c (Some call.EpollCreate1) = elsewhere refl
owner c (Some call.EpollCtl) = elsewhere (control_apart c.pieces)
owner c (Some call.EpollPwait) = elsewhere (pwait_apart c c.pieces)
owner c (Some call.Dup) = elsewhere refl
owner c (Some call.Dup3) = elsewhere refl
owner c (Some call.Fcntl) = elsewhere refl
owner c (Some call.Ioctl) = elsewhere refl
owner c (Some call.Close) = elsewhere refl
owner c (Some call.Pipe2) = elsewhere refl
owner c (Some call.Lseek) = elsewhere refl
owner c (Some call.Read) = elsewhere (read_apart c c.held)
owner c (Some call.Write) = elsewhere (write_apart c c.held)
owner c (Some call.Readv) = elsewhere (readv_apart c c.held)
owner c (Some call.Writev) = elsewhere (write_apart c c.held)
owner c (Some call.Exit) = elsewhere (exit_apart c.death)
owner c (Some call.ExitGroup) = elsewhere refl
owner c (Some call.SetTidAddress) = elsewhere refl
owner c (Some call.Futex) = futex refl
owner c (Some call.SetRobustList) = elsewhere refl
owner c (Some call.GetRobustList) = elsewhere refl
owner c (Some call.Nanosleep) = elsewhere (sleep_apart c c.pieces)
owner c (Some call.ClockGettime) = elsewhere refl
owner c (Some call.SchedYield) = elsewhere refl
owner c (Some call.Kill) = elsewhere refl
owner c (Some call.Tkill) = elsewhere refl
owner c (Some call.Tgkill) = elsewhere refl
owner c (Some call.Sigaltstack) = elsewhere (fetch_apart stage.Effect c.pieces refl)
owner c (Some call.RtSigsuspend) = elsewhere (fetch_apart stage.Rest c.pieces refl)
owner c (Some call.RtSigaction) = elsewhere (fetch_apart stage.Effect c.pieces refl)
owner c (Some call.RtSigprocmask) = elsewhere (fetch_apart stage.Effect c.pieces refl)
owner c (Some call.RtSigpending) = elsewhere refl
owner c (Some call.RtSigreturn) = elsewhere (sigreturn_apart c.fetched c.pieces)
owner c (Some call.Uname) = elsewhere refl
owner c (Some call.Getpid) = elsewhere refl
owner c (Some call.Getppid) = elsewhere refl
owner c (Some call.Getuid) = elsewhere refl
owner c (Some call.Geteuid) = elsewhere refl
owner c (Some call.Getgid) = elsewhere refl
owner c (Some call.Getegid) = elsewhere refl
owner c (Some call.Gettid) = elsewhere refl
owner c (Some call.Brk) = elsewhere refl
owner c (Some call.Munmap) = elsewhere refl
owner c (Some call.Clone) = elsewhere refl
owner c (Some call.Mmap) = elsewhere refl
owner c (Some call.Mprotect) = elsewhere refl
owner c (Some call.Madvise) = elsewhere refl
owner c (Some call.FutexWaitv) = waitv refl

-- a call with such a stage has no result, and is one of the two
pub data OfFutex (c : LxCall) : Type 0 where
  of_futex : c.result ≡ None → call_of c.number ≡ Some call.Futex → OfFutex c
  of_waitv : c.result ≡ None → call_of c.number ≡ Some call.FutexWaitv → OfFutex c

pub futex_stages : (c : LxCall) → is_futex_stage (stage_of c) ≡ true → OfFutex c
futex_stages c h = by c.result refl h
  where
    known : c.result ≡ None → is_futex_stage ((rules_at (call_of c.number)).stage c) ≡ true
        → Owner (call_of c.number) ((rules_at (call_of c.number)).stage c) → OfFutex c
    known e f (elsewhere g) = absurd (cc)
    known e f (futex g) = of_futex e g
    known e f (waitv g) = of_waitv e g

    by : (o : Option ℕ) → c.result ≡ o → is_futex_stage (stage_with c o) ≡ true → OfFutex c
    by (Some n) e f = absurd (let g = finishing_apart c c.child in cc)
    by None e f = known e f (owner c (call_of c.number))

-- the stage of a call without a result, by which call it is
pub stage_by : (c : LxCall) (k : Option LinuxCall) → c.result ≡ None → call_of c.number ≡ k → stage_of c ≡ (rules_at k).stage c
stage_by c k none known = ap (λ (o : Option ℕ). stage_with c o) none ∙ ap (λ (o : Option LinuxCall). (rules_at o).stage c) known

-- ---- a futex that rests doesn't sleep

awake_from : (c : LxCall) (first then_waits : Stage) (ps : List Piece) → c.waits ≡ false → is_sleep_stage first ≡ false
    → is_sleep_stage (waiting_from c first then_waits ps) ≡ false
awake_from c first then_waits (p ∷ ps) rests e = refl
awake_from c first then_waits [] rests e = by (has_time c) c.waits rests
  where
    by : (timed waits : Bool) → waits ≡ false
        → is_sleep_stage (if timed then stage.Clock else (if waits then then_waits else first)) ≡ false
    by true waits f = refl
    by false false f = e
    by false true f = absurd (cc)

wake_op_awake : (c : LxCall) (a : Option WordOperation) (b : Option Comparison) → is_sleep_stage (wake_op_by c a b) ≡ false
wake_op_awake c (Some a) (Some b) = refl
wake_op_awake c (Some a) None = refl
wake_op_awake c None b = refl

awake_by : (c : LxCall) (o : Option FutexOperation) → c.waits ≡ false → is_sleep_stage (futex_stage_by c o) ≡ false
awake_by c (Some operation.Wait) rests = awake_from c (stage.Queue (wait_of c all_bits)) stage.Wait c.pieces rests refl
awake_by c (Some operation.WaitBitset) rests = awake_from c (stage.Queue (wait_of c (low_argument c 5))) stage.Wait c.pieces rests refl
awake_by c (Some operation.LockPi) rests = awake_from c (stage.PiLock (lock_of c false)) stage.PiWait c.pieces rests refl
awake_by c (Some operation.TryLockPi) rests = refl
awake_by c (Some operation.UnlockPi) rests = refl
awake_by c (Some operation.Wake) rests = refl
awake_by c (Some operation.WakeBitset) rests = refl
awake_by c (Some operation.Requeue) rests = refl
awake_by c (Some operation.CompareRequeue) rests = refl
awake_by c (Some operation.WakeOp) rests = wake_op_awake c (word_operation_in (low_argument c 5)) (comparison_in (low_argument c 5))
awake_by c None rests = refl

pub sleep_is : (st : Stage) → SleepStage st → (is_sleep_stage st ≡ true) × (is_futex_stage st ≡ true)
sleep_is st (sleeps e) = (ap is_sleep_stage e, ap is_futex_stage e)
sleep_is st (sleeps_many e) = (ap is_sleep_stage e, ap is_futex_stage e)
sleep_is st (sleeps_pi e) = (ap is_sleep_stage e, ap is_futex_stage e)

-- a call that rests sleeps only where it is futex_waitv
pub many_sleeps : (c : Call) → next_phase c ≡ phase.Sleep → is_many c ≡ true
many_sleeps c e = by (futex_stages (resting c) is.1)
  where
    is : (is_sleep_stage (stage_of (resting c)) ≡ true) × (is_futex_stage (stage_of (resting c)) ≡ true)
    is = sleep_is (stage_of (resting c)) (stage_at_next c phase.Sleep e)

    by : OfFutex (resting c) → is_many c ≡ true
    by (of_futex none known) =
        let f = ap is_sleep_stage (stage_by (resting c) (Some call.Futex) none known) in
        let g = awake_by (resting c) (operation_in (resting c)) refl in
        let h = is.0 in
        absurd (cc)
    by (of_waitv none known) = ap is_waitv known

-- ---- Queue

abbrev waiting : LxCall → LxCall
waiting c = record c { waits = true }

-- a plain wait: after its Queue it sleeps
pub record OneQueues (c : Call) (w : Wait) : Type 0 where
  pub one : is_many c ≡ false
  pub plain : w.many ≡ false
  pub place : w.place ≡ 0
  pub follows : next_in phase.Sleep c ≡ phase.Sleep

-- a place of futex_waitv
pub record ManyQueues (c : Call) (w : Wait) : Type 0 where
  pub many : is_many c ≡ true
  pub of_many : w.many ≡ true
  pub place : w.place ≡ c.queued

same_wait : (v w : Wait) → stage.Queue v ≡ stage.Queue w → v ≡ w
same_wait v w e = cc

-- what a plain wait's Queue was, and what comes after it
record Queues (c : LxCall) (o : Option FutexOperation) (w : Wait) : Type 0 where
  plain : w.many ≡ false
  place : w.place ≡ 0
  waits : futex_stage_by (waiting c) o ≡ stage.Wait

module _ (c : LxCall) (w : Wait) (bits : ℕ) where
  queue_from : (ps : List Piece) → waiting_from c (stage.Queue (wait_of c bits)) stage.Wait ps ≡ stage.Queue w
      → (waiting_from (waiting c) (stage.Queue (wait_of (waiting c) bits)) stage.Wait ps ≡ stage.Wait) × (wait_of c bits ≡ w)
  queue_from (p ∷ ps) e = absurd (cc)
  queue_from [] e = by (has_time c) c.waits e
    where
      by : (timed waits : Bool)
          → (if timed then stage.Clock else (if waits then stage.Wait else stage.Queue (wait_of c bits))) ≡ stage.Queue w
          → ((if timed then stage.Clock else stage.Wait) ≡ stage.Wait) × (wait_of c bits ≡ w)
      by true waits f = absurd (cc)
      by false true f = absurd (cc)
      by false false f = (refl, same_wait (wait_of c bits) w f)

wake_op_no_queue : (c : LxCall) (a : Option WordOperation) (b : Option Comparison) (w : Wait) → wake_op_by c a b ≢ stage.Queue w
wake_op_no_queue c (Some a) (Some b) w e = cc
wake_op_no_queue c (Some a) None w e = cc
wake_op_no_queue c None b w e = cc

lock_no_queue : (c : LxCall) (ps : List Piece) (w : Wait) → waiting_from c (stage.PiLock (lock_of c false)) stage.PiWait ps ≢ stage.Queue w
lock_no_queue c (p ∷ ps) w e = cc
lock_no_queue c [] w e = by (has_time c) c.waits e
  where
    by : (timed waits : Bool)
        → (if timed then stage.Clock else (if waits then stage.PiWait else stage.PiLock (lock_of c false))) ≢ stage.Queue w
    by true waits f = cc
    by false true f = cc
    by false false f = cc

queue_by : (c : LxCall) (o : Option FutexOperation) (w : Wait) → futex_stage_by c o ≡ stage.Queue w → Queues c o w
queue_by c (Some operation.Wait) w e =
    let q = queue_from c w all_bits c.pieces e in record { plain = ap (λ (v : Wait). v.many) (sym q.1); place = ap (λ (v : Wait). v.place) (sym q.1); waits = q.0 }
queue_by c (Some operation.WaitBitset) w e =
    let q = queue_from c w (low_argument c 5) c.pieces e in record { plain = ap (λ (v : Wait). v.many) (sym q.1); place = ap (λ (v : Wait). v.place) (sym q.1); waits = q.0 }
queue_by c (Some operation.LockPi) w e = absurd (lock_no_queue c c.pieces w e)
queue_by c (Some operation.TryLockPi) w e = absurd (cc)
queue_by c (Some operation.UnlockPi) w e = absurd (cc)
queue_by c (Some operation.Wake) w e = absurd (cc)
queue_by c (Some operation.WakeBitset) w e = absurd (cc)
queue_by c (Some operation.Requeue) w e = absurd (cc)
queue_by c (Some operation.CompareRequeue) w e = absurd (cc)
queue_by c (Some operation.WakeOp) w e =
    absurd (wake_op_no_queue c (word_operation_in (low_argument c 5)) (comparison_in (low_argument c 5)) w e)
queue_by c None w e = absurd (cc)

place_from : (c : LxCall) (ps : List Piece) (w : Wait) → waitv_from c ps ≡ stage.Queue w → place_wait c c.queued ≡ w
place_from c (p ∷ ps) w e = absurd (cc)
place_from c [] w e = by (has_time c) (has_queued c) e
  where
    by : (timed queued : Bool)
        → (if timed then stage.Clock else (if queued then stage.WaitMany else stage.Queue (place_wait c c.queued))) ≡ stage.Queue w
        → place_wait c c.queued ≡ w
    by true queued f = absurd (cc)
    by false true f = absurd (cc)
    by false false f = same_wait (place_wait c c.queued) w f

-- where the next stage is one that a call has as it waits, its phase then is Sleep
sleeps_then : (c : Call) (st : Stage) → is_many c ≡ false → (resting c).result ≡ None → call_of c.number ≡ Some call.Futex
    → (rules_at (Some call.Futex)).stage (waiting (resting c)) ≡ st → phase_of (linux_call phase.Sleep c 0) st ≡ phase.Sleep
    → next_in phase.Sleep c ≡ phase.Sleep
sleeps_then c st one none known is then_sleeps =
    ap (λ (z : Stage). phase_of (linux_call phase.Sleep c 0) z)
    (stage_by (linux_call phase.Sleep c 0) (Some call.Futex) none known ∙ ap (λ (z : LxCall). (rules_at (Some call.Futex)).stage z) (sleeping_one c one) ∙ is)
    ∙ then_sleeps

pub queue_at : (c : Call) (w : Wait) → stage_of (resting c) ≡ stage.Queue w → OneQueues c w ⊎ ManyQueues c w
queue_at c w e = by (futex_stages (resting c) (ap is_futex_stage e))
  where
    by : OfFutex (resting c) → OneQueues c w ⊎ ManyQueues c w
    by (of_futex none known) =
        let q = queue_by (resting c) (operation_in (resting c)) w (sym (stage_by (resting c) (Some call.Futex) none known) ∙ e) in
        inl (record { one = ap is_waitv known; plain = q.plain; place = q.place; follows = sleeps_then c stage.Wait (ap is_waitv known) none known q.waits refl })
    by (of_waitv none known) =
        let q = place_from (resting c) (resting c).pieces w (sym (stage_by (resting c) (Some call.FutexWaitv) none known) ∙ e) in
        inr (record { many = ap is_waitv known; of_many = ap (λ (v : Wait). v.many) (sym q); place = ap (λ (v : Wait). v.place) (sym q) })

-- after its Queue a call waits on
pub queue_waits : (c : Call) (w : Wait) → stage_of (resting c) ≡ stage.Queue w → WaitsOn c
queue_waits c w e waits = elim (queue_at c w e) [
  | inl one ↦ one.follows
  | inr many ↦ absurd (let f = many.many in let g : not (is_many c) ≡ true = waits in cc)
]

-- ---- PiLock

same_lock : (k l : PiLock) → stage.PiLock k ≡ stage.PiLock l → k ≡ l
same_lock k l e = cc

lock_from : (c : LxCall) (l : PiLock) (ps : List Piece) → waiting_from c (stage.PiLock (lock_of c false)) stage.PiWait ps ≡ stage.PiLock l
    → waiting_from (waiting c) (stage.PiLock (lock_of (waiting c) false)) stage.PiWait ps ≡ stage.PiWait
lock_from c l (p ∷ ps) e = absurd (cc)
lock_from c l [] e = by (has_time c) c.waits e
  where
    by : (timed waits : Bool)
        → (if timed then stage.Clock else (if waits then stage.PiWait else stage.PiLock (lock_of c false))) ≡ stage.PiLock l
        → (if timed then stage.Clock else stage.PiWait) ≡ stage.PiWait
    by true waits f = absurd (cc)
    by false true f = absurd (cc)
    by false false f = refl

wait_no_lock : (c : LxCall) (bits : ℕ) (ps : List Piece) (l : PiLock)
    → waiting_from c (stage.Queue (wait_of c bits)) stage.Wait ps ≢ stage.PiLock l
wait_no_lock c bits (p ∷ ps) l e = cc
wait_no_lock c bits [] l e = by (has_time c) c.waits e
  where
    by : (timed waits : Bool)
        → (if timed then stage.Clock else (if waits then stage.Wait else stage.Queue (wait_of c bits))) ≢ stage.PiLock l
    by true waits f = cc
    by false true f = cc
    by false false f = cc

wake_op_no_lock : (c : LxCall) (a : Option WordOperation) (b : Option Comparison) (l : PiLock) → wake_op_by c a b ≢ stage.PiLock l
wake_op_no_lock c (Some a) (Some b) l e = cc
wake_op_no_lock c (Some a) None l e = cc
wake_op_no_lock c None b l e = cc

lock_by : (c : LxCall) (o : Option FutexOperation) (l : PiLock) → l.tries ≡ false → futex_stage_by c o ≡ stage.PiLock l
    → futex_stage_by (waiting c) o ≡ stage.PiWait
lock_by c (Some operation.Wait) l asks e = absurd (wait_no_lock c all_bits c.pieces l e)
lock_by c (Some operation.WaitBitset) l asks e = absurd (wait_no_lock c (low_argument c 5) c.pieces l e)
lock_by c (Some operation.LockPi) l asks e = lock_from c l c.pieces e
lock_by c (Some operation.TryLockPi) l asks e =
    absurd (let f : true ≡ l.tries = ap (λ (k : PiLock). k.tries) (same_lock (lock_of c true) l e) in cc)
lock_by c (Some operation.UnlockPi) l asks e = absurd (cc)
lock_by c (Some operation.Wake) l asks e = absurd (cc)
lock_by c (Some operation.WakeBitset) l asks e = absurd (cc)
lock_by c (Some operation.Requeue) l asks e = absurd (cc)
lock_by c (Some operation.CompareRequeue) l asks e = absurd (cc)
lock_by c (Some operation.WakeOp) l asks e =
    absurd (wake_op_no_lock c (word_operation_in (low_argument c 5)) (comparison_in (low_argument c 5)) l e)
lock_by c None l asks e = absurd (cc)

waitv_no_lock : (c : LxCall) (ps : List Piece) (l : PiLock) → waitv_from c ps ≢ stage.PiLock l
waitv_no_lock c (p ∷ ps) l e = cc
waitv_no_lock c [] l e = by (has_time c) (has_queued c) e
  where
    by : (timed queued : Bool)
        → (if timed then stage.Clock else (if queued then stage.WaitMany else stage.Queue (place_wait c c.queued))) ≢ stage.PiLock l
    by true queued f = cc
    by false true f = cc
    by false false f = cc

-- a wait for a lock: after its PiLock it sleeps
pub record Locks (c : Call) : Type 0 where
  pub one : is_many c ≡ false
  pub follows : next_in phase.Sleep c ≡ phase.Sleep

pub lock_at : (c : Call) (l : PiLock) → l.tries ≡ false → stage_of (resting c) ≡ stage.PiLock l → Locks c
lock_at c l asks e = by (futex_stages (resting c) (ap is_futex_stage e))
  where
    by : OfFutex (resting c) → Locks c
    by (of_futex none known) =
        let q = lock_by (resting c) (operation_in (resting c)) l asks (sym (stage_by (resting c) (Some call.Futex) none known) ∙ e) in
        record { one = ap is_waitv known; follows = sleeps_then c stage.PiWait (ap is_waitv known) none known q refl }
    by (of_waitv none known) =
        absurd (waitv_no_lock (resting c) (resting c).pieces l (sym (stage_by (resting c) (Some call.FutexWaitv) none known) ∙ e))

pub lock_waits : (c : Call) (l : PiLock) → l.tries ≡ false → stage_of (resting c) ≡ stage.PiLock l → WaitsOn c
lock_waits c l asks e waits = (lock_at c l asks e).follows
