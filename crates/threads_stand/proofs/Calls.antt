-- What is done to a call is done to its image.
use Rattle.std.proofs.Common.{◌≡◌, ℕ, ◌+◌, Bool, true, false, not, List, [], ◌++◌, Option, Some, None, option_map, refl, sym, ap, arith}
use Rattle.abi_map.specs.Errors.{errno_in_of, errno_out_of}
use Rattle.abi_map.proofs.ErrnoBack.{errno_back}
use Rattle.bsd_abi.specs.declared.errno.BsdErrno.{BsdErrno}
use Rattle.linux_abi.specs.declared.errno.LinuxErrno.{LinuxErrno}
use Rattle.lx_machine.specs.Calls.{answered, answered_with, first_refusal, new_call, refused, waits_no_more}
use Rattle.lx_machine.specs.Delivery.{with_kept}
use Rattle.lx_machine.specs.Rules.{Rules}
use Rattle.lx_machine.specs.Shape.{entered, entered_unless}
use Rattle.lx_machine.specs.Step.{with_fetched, with_stored}
use Rattle.lx_machine.specs.Table.{rules_of}
use Rattle.lx_machine.specs.Time.{with_deadline}
use Rattle.lx_machine.specs.declared.calls.Piece.{Piece}
use Rattle.bsd_thread.specs.Calls.{answers, answers_with, copies, fresh, has_fetched, has_stored, passes_fetched, refuses, refuses_or_copies}
use Rattle.bsd_thread.specs.declared.call.Answer.{Answer}
use Rattle.bsd_thread.specs.declared.call.Answer.TheVariants.{Number}
use Rattle.bsd_thread.specs.declared.call.Call.{Call}
use Rattle.bsd_thread.specs.declared.call.Kept.{Kept}
use Rattle.bsd_thread.specs.declared.phase.Owed.TheVariants as owed
use Rattle.bsd_thread.specs.declared.phase.Phase.TheVariants as phase
use Rattle.bsd_thread.specs.declared.phase.Turn.{Turn}
use Rattle.threads_stand.specs.Entering.{enters}
use Rattle.threads_stand.specs.Image.{is_many, linux_call, resting}
use Rattle.threads_stand.specs.Numbers.{linux_answer, linux_kept}

-- ---- a new call

pub fresh_image : (number : ℕ) (arguments : List ℕ) → resting (fresh number arguments) ≡ new_call number arguments
fresh_image number arguments = refl

pub copies_image : (c : Call) (pieces : List Piece) → resting (copies c pieces) ≡ record (resting c) { pieces = pieces }
copies_image c pieces = refl

-- ---- answers

pub answers_image : (c : Call) (a : Answer) → resting (answers c a) ≡ answered (resting c) (linux_answer a)
answers_image c a = refl

pub answers_with_image : (c : Call) (a : Answer) (pieces : List Piece) (bytes : List ℕ)
    → resting (answers_with c a pieces bytes) ≡ answered_with (resting c) (linux_answer a) pieces bytes
answers_with_image c a pieces bytes = refl

pub refuses_image : (c : Call) (e : BsdErrno) → resting (refuses c e) ≡ refused (resting c) (errno_out_of e)
refuses_image c e = refl

-- with the FreeBSD error of a Linux error
pub refuses_in_image : (c : Call) (e : LinuxErrno) → resting (refuses c (errno_in_of e)) ≡ refused (resting c) e
refuses_in_image c e = ap (λ (z : LinuxErrno). refused (resting c) z) (errno_back e)

-- ---- SVC

entered_by : (sp : ℕ) (c : Call) (r : Rules) (o : Option LinuxErrno)
    → resting (refuses_or_copies c (option_map errno_in_of o) (r.pieces sp (resting c))) ≡ entered_unless sp (resting c) r o
entered_by sp c r (Some e) = refuses_in_image c e
entered_by sp c r None = refl

-- of every number
pub entered_image : (sp number : ℕ) (arguments : List ℕ) → resting (enters sp number arguments) ≡ entered sp (new_call number arguments)
entered_image sp number arguments =
    entered_by sp (fresh number arguments) (rules_of (new_call number arguments)) (first_refusal ((rules_of (new_call number arguments)).refusals (new_call number arguments)))

-- ---- pieces

pub has_fetched_image : (c : Call) (bytes : List ℕ) → resting (has_fetched c bytes) ≡ with_fetched (resting c) bytes
has_fetched_image c bytes = refl

-- where the bytes stand in the buffer already
pub passes_fetched_image : (c : Call) (bytes : List ℕ)
    → resting (passes_fetched (record c { bytes = c.bytes ++ bytes })) ≡ with_fetched (resting c) bytes
passes_fetched_image c bytes = refl

pub has_stored_image : (c : Call) (len : ℕ) → resting (has_stored c len) ≡ with_stored (resting c) len
has_stored_image c len = refl

-- ---- waits

pub timed_image : (c : Call) (deadline : ℕ)
    → resting (record c { deadline = Some deadline; bytes = [] }) ≡ with_deadline (resting c) deadline
timed_image c deadline = refl

pub kept_image : (c : Call) (k : Kept) → resting (record c { kept = Some k }) ≡ with_kept (resting c) (linux_kept k)
kept_image c k = refl

-- it waits nowhere any more
pub stopped_image : (c : Call) → resting (record c { queued = 0; refusal = None }) ≡ waits_no_more (resting c)
stopped_image c = refl

-- a place of futex_waitv was refused
pub place_refused_image : (c : Call) (e : LinuxErrno)
    → resting (record c { refusal = Some (errno_in_of e) }) ≡ record (resting c) { refusal = Some e }
place_refused_image c e = ap (λ (z : LinuxErrno). record (resting c) { refusal = Some z }) (errno_back e)

-- the wait of any other call
pub inserting_one : (c : Call) (turn : Turn) → is_many c ≡ false
    → linux_call (phase.Finish turn owed.Insertion) c 0 ≡ record (resting c) { waits = true }
inserting_one c turn one = ap (λ (b : Bool). record (resting c) { waits = not b }) one

pub sleeping_one : (c : Call) → is_many c ≡ false → linux_call phase.Sleep c 0 ≡ record (resting c) { waits = true }
sleeping_one c one = ap (λ (b : Bool). record (resting c) { waits = not b }) one

-- futex_waitv rests as it waits
pub inserting_many : (c : Call) (turn : Turn) → is_many c ≡ true → linux_call (phase.Finish turn owed.Insertion) c 0 ≡ resting c
inserting_many c turn many = ap (λ (b : Bool). record (resting c) { waits = not b }) many

pub sleeping_many : (c : Call) → is_many c ≡ true → linux_call phase.Sleep c 0 ≡ resting c
sleeping_many c many = ap (λ (b : Bool). record (resting c) { waits = not b }) many

-- ---- counts

-- as it begins to count, its number is what the chains hold for it; and each Finish leaves the sum
pub counting_image : (c : Call) (turn : Turn) (rest n : ℕ) → n ≡ c.counted + rest
    → linux_call (phase.Finish turn owed.Counted) c rest ≡ answered (resting c) n
counting_image c turn rest n sum = ap (λ (z : ℕ). answered (resting c) z) (sym sum)

-- when nothing is left to be counted, it has its answer
pub counted_image : (c : Call) (turn : Turn) → resting (answers c (Number c.counted)) ≡ linux_call (phase.Finish turn owed.Counted) c 0
counted_image c turn = sym (counting_image c turn 0 c.counted (omega arith))
