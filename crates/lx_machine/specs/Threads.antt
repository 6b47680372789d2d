-- Words on threads. A mark is the exclusive monitor of a thread (DDI 0487, B2.9): it ends by a write of another thread to
-- its granule.
use Rattle.page_store.specs.Pages.{Pages}
use Rattle.std.proofs.Math.Bool.{not}
use Rattle.std.specs.List.{list_all}
use Rattle.std.specs.Prelude.{Bool, List, None, Option, Some, [], false, if◌then◌else◌, is_none, is_some, nat_le, suc, true, ℕ, ℤ, ◌&&◌, ◌+◌, ◌-◌, ◌==◌, ◌∷◌}
use Rattle.a64_model.specs.declared.regs.Regs.{Regs}
use Rattle.linux_abi.specs.declared.signals.LinuxSig.{LinuxSig}
use Rattle.lx_machine.specs.Lists.{at_place, bind, with_place, without_place}
use Rattle.lx_machine.specs.declared.calls.LxCall.{LxCall}
use Rattle.lx_machine.specs.declared.signals.Origin.TheVariants.{Address}
use Rattle.lx_machine.specs.declared.state.LinuxState.{LinuxState}
use Rattle.lx_machine.specs.declared.threads.Life.{Life}
use Rattle.lx_machine.specs.declared.threads.Life.TheVariants.{Live, Reserved}
use Rattle.lx_machine.specs.declared.threads.LxThread.{LxThread}
use Rattle.places.specs.Places as place

-- clone has let it start, and it has not left
abbrev pub is_live : Life → Bool
is_live Live = true
is_live _ = false

-- clone has reserved its place, and it has not started
abbrev pub is_reserved : Life → Bool
is_reserved Reserved = true
is_reserved _ = false

-- the thread in slot s is this
abbrev pub with_thread : LinuxState → ℕ → LxThread → LinuxState
with_thread L s t = record L { threads = with_place L.threads s t }

-- the place of the thread in slot s is free
abbrev pub without_thread : LinuxState → ℕ → LinuxState
without_thread L s = record L { threads = without_place L.threads s }

-- the thread in no call
abbrev pub without_call : LxThread → LxThread
without_call t = record t { call = None }

-- the thread with these registers
abbrev pub with_regs : LxThread → Regs → LxThread
with_regs t regs = record t { regs = regs }

-- the thread in this call
abbrev pub with_call : LxThread → LxCall → LxThread
with_call t c = record t { call = Some c }

-- the state where the thread in slot s stands so in this call
abbrev pub in_call_of : LinuxState → ℕ → LxThread → LxCall → LinuxState
in_call_of L s t c = with_thread L s (with_call t c)

-- the thread has trapped with this signal
abbrev pub trapped : LxThread → LinuxSig → ℤ → ℕ → LxThread
trapped t signal code address = record t { trap = Some (record { signal = signal; code = code; origin = Address address }) }

-- a granule lies in a range of granules
abbrev pub is_within : ℕ → ℕ → ℕ → Bool
is_within first last granule = nat_le first granule && nat_le granule last

abbrev pub mark_left : ℕ → ℕ → Option ℕ → Option ℕ
mark_left first last None = None
mark_left first last (Some granule) = if is_within first last granule then None else Some granule

-- a thread after another has written to these granules
abbrev pub unmarked : ℕ → ℕ → Option LxThread → Option LxThread
unmarked first last None = None
unmarked first last (Some t) = Some (record t { mark = mark_left first last t.mark })

-- the threads in the slots from `at` on, after the thread in slot s has written to these granules
abbrev pub unmarked_from : ℕ → ℕ → ℕ → ℕ → List (Option LxThread) → List (Option LxThread)
unmarked_from at s first last [] = []
unmarked_from at s first last (t ∷ ts) = (if at == s then t else unmarked first last t) ∷ unmarked_from (suc at) s first last ts

-- the threads after the thread in slot s has written so many bytes from an address on
abbrev pub after_write : ℕ → ℕ → ℕ → List (Option LxThread) → List (Option LxThread)
after_write s at len ts = if len == 0 then ts else unmarked_from 0 s (place.granule at) (place.granule (at + len - 1)) ts

-- no thread stands in these places
abbrev pub has_no_thread : List (Option LxThread) → Bool
has_no_thread ts = list_all is_none ts

-- What a step makes of a thread in a call: of the state in which the thread's place is free, the slot, the thread in no
-- call, and the call. None is no step
abbrev pub InCall : Type 0
InCall = LinuxState → ℕ → LxThread → LxCall → Option LinuxState

-- What a step makes of a thread: of the state in which the thread's place is free, the slot, and the thread
abbrev pub OfThread : Type 0
OfThread = LinuxState → ℕ → LxThread → Option LinuxState

-- ---- threads that may step

-- a live thread in no call, without a trap, a signal to be delivered, or its doom
abbrev pub is_user : LxThread → Bool
is_user t = is_live t.life && not (is_some t.call) && not (is_some t.trap) && not (is_some t.taken) && not t.is_doomed

abbrev pub outside_call : LinuxState → ℕ → (LxThread → Option LinuxState) → Option LinuxState
outside_call L s f = bind (at_place L.threads s) (λ t. if is_user t then f t else None)

-- ---- what is written

-- memory is this now, where the thread in slot s has written so many bytes from an address on: that ends the marks of others
abbrev pub has_written : LinuxState → ℕ → Pages → ℕ → ℕ → LinuxState
has_written L s pages at len = record L { space = record L.space { pages = pages }; threads = after_write s at len L.threads }
