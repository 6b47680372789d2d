-- The robust list of a thread, and its death: the walk along the list, the mark of each futex that the thread owned, its clear
-- address, its end. Source: get_robust_list(2), set_robust_list(2), set_tid_address(2), clone(2), _exit(2).
use Rattle.std.proofs.Math.Bool.{not}
use Rattle.std.specs.Option.{option_map}
use Rattle.std.specs.Prelude.{Bool, List, None, Option, Some, [], bit_and, bit_or, false, find, if◌then◌else◌, min, nat_le, nat_lt, true, ℕ, ◌%◌, ◌&&◌, ◌*◌, ◌++◌, ◌+◌, ◌/◌, ◌==◌, ◌^◌, ◌∷◌}
use Rattle.linux_abi.specs.declared.errno.LinuxErrno.{LinuxErrno}
use Rattle.lx_machine.specs.Calls.{answered, answered_with, argument, low_argument, refused}
use Rattle.lx_machine.specs.Futex.{is_unaligned_word, readable_word, with_word, writable_word}
use Rattle.lx_machine.specs.FutexPi.{heir_word, owner}
use Rattle.lx_machine.specs.Lists.{bind}
use Rattle.lx_machine.specs.Pieces.{piece}
use Rattle.lx_machine.specs.PiQueue.{first_pi, without_first_pi}
use Rattle.lx_machine.specs.Queue.{all_bits, released}
use Rattle.lx_machine.specs.Threads.{has_written, in_call_of, is_live}
use Rattle.lx_machine.specs.Time.{field}
use Rattle.lx_machine.specs.declared.calls.LxCall.{LxCall}
use Rattle.lx_machine.specs.declared.calls.Stage.{Stage}
use Rattle.lx_machine.specs.declared.death.Death.{Death}
use Rattle.lx_machine.specs.declared.death.DeathPlace.{DeathPlace}
use Rattle.lx_machine.specs.declared.futexes.Mark.{Mark}
use Rattle.lx_machine.specs.declared.state.LinuxState.{LinuxState}
use Rattle.lx_machine.specs.declared.threads.LxThread.{LxThread}
use Rattle.lx_machine.specs.declared.threads.LxWaiter.{LxWaiter}
use Rattle.lx_machine.specs.declared.threads.PiWaiter.{PiWaiter}
use Rattle.page_store.specs.Pages.{Pages}
use Rattle.places.specs.Places.{bytes_of}
use Rattle.linux_abi.specs.declared.errno.LinuxErrno.TheVariants as errno
use Rattle.lx_machine.specs.declared.calls.Stage.TheVariants as stage
use Rattle.lx_machine.specs.declared.death.DeathPlace.TheVariants as place

-- ---- robust lists

-- set_robust_list(2): the head has 24 bytes
abbrev pub set_robust_list_refusals : LxCall → List (Bool × LinuxErrno)
set_robust_list_refusals c = (not (argument c 1 == 24), errno.EINVAL) ∷ []

abbrev pub with_robust_list : LxThread → LxCall → LxThread
with_robust_list t c = record t { robust_head = argument c 0 }

abbrev pub set_robust_list : LxCall → LxCall
set_robust_list c = answered c 0

-- a live thread with this tid
abbrev pub is_living : ℕ → Option LxThread → Bool
is_living tid None = false
is_living tid (Some t) = (t.tid == tid) && is_live t.life

-- the robust list of the live thread with a tid, if there is one
abbrev pub robust_list_of : ℕ → List (Option LxThread) → Option ℕ
robust_list_of tid ts = bind (find (is_living tid) ts) (option_map (λ t. t.robust_head))

-- the tid 0 is the caller
abbrev pub asked_list : List (Option LxThread) → ℕ → LxCall → Option ℕ
asked_list threads own c = if low_argument c 0 == 0 then Some own else robust_list_of (low_argument c 0) threads

abbrev pub list_answered : LxCall → Option ℕ → LxCall
list_answered c None = refused c errno.ESRCH
list_answered c (Some head) =
    answered_with c 0 (piece (argument c 1) 8 ∷ piece (argument c 2) 8 ∷ []) (bytes_of head 8 ++ bytes_of 24 8)

-- get_robust_list(2) of a caller with this robust list of its own
abbrev pub get_robust_list : List (Option LxThread) → ℕ → LxCall → LxCall
get_robust_list threads own c = list_answered c (asked_list threads own c)

-- ---- pointers to entries

-- the address of an entry: the pointer with bit 0 cleared
abbrev pub address : ℕ → ℕ
address pointer = pointer / 2 * 2

-- bit 0 of the pointer tells a futex with priority inheritance
abbrev pub is_inheriting : ℕ → Bool
is_inheriting pointer = pointer % 2 == 1

-- two pointers to one entry
abbrev pub is_same_entry : ℕ → ℕ → Bool
is_same_entry a b = address a == address b

-- the address of an entry's word: the offset, which is signed, is added to the entry's address
abbrev pub word_address : ℕ → ℕ → ℕ
word_address pointer offset = (address pointer + offset) % 2 ^ 64

-- that sum is an address: it is neither below 0 nor above 2^64 - 1
abbrev pub is_address : ℕ → ℕ → Bool
is_address pointer offset =
    if nat_lt offset (2 ^ 63) then nat_lt (address pointer + offset) (2 ^ 64) else nat_le (2 ^ 64) (address pointer + offset)

-- the entry has a word that can be marked: its address is one, and is a multiple of 4
abbrev pub has_word : ℕ → ℕ → Bool
has_word pointer offset = is_address pointer offset && not (is_unaligned_word (word_address pointer offset))

-- the mark of an entry's word, and that of the pending entry's
abbrev pub mark_of : ℕ → ℕ → Mark
mark_of pointer offset = record { at = word_address pointer offset; inherits = is_inheriting pointer; is_pending = false }

abbrev pub pending_mark_of : ℕ → ℕ → Mark
pending_mark_of pointer offset = record (mark_of pointer offset) { is_pending = true }

-- ---- what comes next

-- the death is here, with nothing fetched
abbrev pub goes_to : LxCall → Death → DeathPlace → LxCall
goes_to c d next = record c { death = Some (record d { place = next }); pieces = []; bytes = [] }

-- the death is at its clear address, with 0 to be stored
abbrev pub clearing : LxCall → Death → LxCall
clearing c d = record c { death = Some (record d { place = place.Clear }); pieces = []; bytes = 0 ∷ 0 ∷ 0 ∷ 0 ∷ [] }

-- after the robust list comes the clear address, if there is one
abbrev pub after_walk : LxCall → Death → LxCall
after_walk c d = if d.clear_at == 0 then goes_to c d place.Gone else clearing c d

-- after the walk, if it met no fault and no unaligned word, comes the pending entry, if there is one with a word
abbrev pub after_entries : LxCall → Death → LxCall
after_entries c d =
    if not (d.pending == 0) && has_word d.pending d.offset then goes_to c d place.Pending else after_walk c d

-- the most entries of a walk
abbrev pub most_entries : ℕ
most_entries = 2048

-- the walk comes to an entry: it ends at the head, and after so many entries
abbrev pub at_entry : LxCall → Death → LxCall
at_entry c d =
    if is_same_entry d.entry d.head then after_entries c d else (
    if nat_le most_entries d.walked then after_entries c d else goes_to c d place.Next)

-- one more entry has been handled, and this one comes next
abbrev pub stepped : Death → ℕ → Death
stepped d next = record d { entry = next; walked = min (d.walked + 1) most_entries }

-- ---- the steps of a death

abbrev pub first_death : ℕ → ℕ → Death
first_death robust_head clear_at = record {
  place = place.Head;
  head = robust_head;
  clear_at = clear_at;
  entry = 0;
  offset = 0;
  pending = 0;
  walked = 0;
}

-- the death begins at the robust list, if there is one
abbrev pub begun : ℕ → ℕ → LxCall → LxCall
begun robust_head clear_at c =
    if robust_head == 0 then after_walk c (first_death robust_head clear_at)
    else goes_to c (first_death robust_head clear_at) place.Head

-- what a death does next
abbrev pub stage_at : Death → DeathPlace → Stage
stage_at d place.Head = stage.Fetch (piece d.head 24)
stage_at d place.Next = stage.Fetch (piece (address d.entry) 8)
stage_at d (place.Entry next) = stage.Mark (mark_of d.entry d.offset)
stage_at d place.Pending = stage.Mark (pending_mark_of d.pending d.offset)
stage_at d place.Clear = stage.Store (piece d.clear_at 4)
stage_at d place.Wake = stage.Release (record { at = d.clear_at; most = 1; bits = all_bits })
stage_at d place.Gone = stage.Gone

abbrev pub death_stage : Death → Stage
death_stage d = stage_at d d.place

-- struct robust_list_head: the first entry, the offset of the words, and the pending entry
abbrev pub with_head : Death → List ℕ → Death
with_head d bytes = record d { entry = field bytes 0; offset = field bytes 8; pending = field bytes 16; walked = 0 }

-- an entry whose next pointer has been fetched: the pending one is passed over, and the walk ends at one without a word
abbrev pub at_next : LxCall → Death → ℕ → LxCall
at_next c d next =
    if is_same_entry d.entry d.pending then at_entry c (stepped d next) else (
    if has_word d.entry d.offset then goes_to c d (place.Entry next) else after_walk c d)

abbrev pub fetched_at : LxCall → Death → DeathPlace → LxCall
fetched_at c d place.Head = at_entry c (with_head d c.bytes)
fetched_at c d place.Next = at_next c d (field c.bytes 0)
fetched_at c d _ = c

-- a word has been marked, or could not be: then the walk ends
abbrev pub marked_at : Bool → LxCall → Death → DeathPlace → LxCall
marked_at fault c d (place.Entry next) = if fault then after_walk c d else at_entry c (stepped d next)
marked_at fault c d place.Pending = after_walk c d
marked_at fault c d _ = c

-- a waiter at the clear address is released where that is a multiple of 4
abbrev pub after_clear : LxCall → Death → LxCall
after_clear c d = if is_unaligned_word d.clear_at then goes_to c d place.Gone else goes_to c d place.Wake

-- what follows for a call whose thread dies
abbrev pub in_death : LxCall → Option Death → (Death → LxCall) → LxCall
in_death c None f = c
in_death c (Some d) f = f d

-- the head or a next pointer has been fetched
abbrev pub death_fetched : LxCall → LxCall
death_fetched c = in_death c c.death (λ d. fetched_at c d d.place)

-- it could not be fetched: the walk ends, and the pending entry isn't handled
abbrev pub death_not_fetched : LxCall → LxCall
death_not_fetched c = in_death c c.death (λ d. after_walk c d)

-- Mark is done, with a fault or without
abbrev pub death_marked : Bool → LxCall → LxCall
death_marked fault c = in_death c c.death (λ d. marked_at fault c d d.place)

-- 0 has been stored at the clear address, or could not be
abbrev pub death_stored : LxCall → LxCall
death_stored c = in_death c c.death (λ d. after_clear c d)

-- a waiter there has been released
abbrev pub death_released : LxCall → LxCall
death_released c = in_death c c.death (λ d. goes_to c d place.Gone)

-- ---- Mark

-- someone waits
abbrev pub has_waiters : ℕ → Bool
has_waiters word = not (bit_and word 0x80000000 == 0)

-- what becomes of the word of an owner that dies
abbrev pub orphaned : ℕ → ℕ
orphaned word = bit_or (bit_and word 0x80000000) 0x40000000

-- the threads that wait at futexes, and those that wait for locks that name their owner
pub record Futexes : Type 0 where
  pub queue : List LxWaiter
  pub pi_queue : List PiWaiter

-- the pages and the waiters that are left after a Mark, whether it met a fault, and how many bytes were written from which address on
pub record Marked : Type 0 where
  pub pages : Pages
  pub left : Futexes
  pub fault : Bool
  pub at : ℕ
  pub written : ℕ

-- the word stays
abbrev pub stays : Pages → Futexes → Bool → Marked
stays pages fs fault = record { pages = pages; left = fs; fault = fault; at = 0; written = 0 }

-- the word is this now
abbrev pub becomes : Pages → Futexes → Mark → ℕ → Marked
becomes pages fs m word = record { pages = with_word pages m.at word; left = fs; fault = false; at = m.at; written = 4 }

-- one waiter at the word is released
abbrev pub one_released : Futexes → Mark → Futexes
one_released fs m = record fs { queue = released m.at 1 all_bits fs.queue }

-- a futex is orphaned, and a waiter is released where someone waits
abbrev pub orphans : Pages → Futexes → Mark → ℕ → Marked
orphans pages fs m word = becomes pages (if has_waiters word then one_released fs m else fs) m (orphaned word)

-- a lock that names its owner goes to the first that waits for it, and is orphaned where nobody does
abbrev pub hands_over : Pages → Futexes → Mark → ℕ → Option PiWaiter → Marked
hands_over pages fs m word None = becomes pages fs m (orphaned word)
hands_over pages fs m word (Some w) =
    becomes pages (record fs { pi_queue = without_first_pi m.at fs.pi_queue }) m (heir_word true m.at fs.pi_queue w)

-- the word of the thread itself, where it is this, or may not be written
abbrev pub owned : Pages → Futexes → Mark → Option ℕ → Marked
owned pages fs m None = stays pages fs true
owned pages fs m (Some word) = if m.inherits then hands_over pages fs m word (first_pi m.at fs.pi_queue) else orphans pages fs m word

-- by the rules 2 the pending entry's word of 0: the thread has given the futex back, and may not have woken anyone yet
abbrev pub is_given_back : ℕ → Mark → ℕ → Bool
is_given_back rules m word = (rules == 2) && m.is_pending && not m.inherits && (word == 0)

abbrev pub not_owned : ℕ → Pages → Futexes → Mark → ℕ → Marked
not_owned rules pages fs m word = stays pages (if is_given_back rules m word then one_released fs m else fs) false

-- the word, where it is this, or may not be read
abbrev pub marked_by : ℕ → Pages → ℕ → Futexes → Mark → Option ℕ → Marked
marked_by rules pages tid fs m None = stays pages fs true
marked_by rules pages tid fs m (Some word) =
    if owner word == tid then owned pages fs m (writable_word pages m.at) else not_owned rules pages fs m word

-- Mark: a word that the thread owns is orphaned or handed over, and any other stays
abbrev pub marked : ℕ → Pages → ℕ → Futexes → Mark → Marked
marked rules pages tid fs m = marked_by rules pages tid fs m (readable_word pages m.at)

-- all that wait
abbrev pub futexes_of : LinuxState → Futexes
futexes_of L = record { queue = L.queue; pi_queue = L.pi_queue }

-- Mark of a futex that the dying thread may own
abbrev pub has_marked : LinuxState → ℕ → LxThread → LxCall → Marked → LinuxState
has_marked L s t c m =
    in_call_of (record (has_written L s m.pages m.at m.written) { queue = m.left.queue; pi_queue = m.left.pi_queue }) s t (death_marked m.fault c)

abbrev pub mark : Mark → LinuxState → ℕ → LxThread → LxCall → Option LinuxState
mark m L s t c = Some (has_marked L s t c (marked L.rules L.space.pages t.tid (futexes_of L) m))
