-- What is done to a thread is done to its image.
use Rattle.std.proofs.Common.{◌≡◌, ◌≢◌, ℕ, ◌<◌, ◌^◌, true, false, Option, Some, None, option_map, IfSome, refl, sym, ap}
use Rattle.a64_model.specs.declared.regs.Regs.{Regs}
use Rattle.signal_map.specs.Sets.{set_in_of, set_out_of}
use Rattle.signal_map.proofs.SetMaps.{set_out-in}
use Rattle.lx_machine.specs.Clone as lx_clone
use Rattle.lx_machine.specs.Delivery as lx_delivery
use Rattle.lx_machine.specs.SignalFrame.{doomed}
use Rattle.lx_machine.specs.Step as lx_step
use Rattle.lx_machine.specs.Threads.{with_call, without_call, with_regs}
use Rattle.lx_machine.specs.declared.calls.LxCall.{LxCall}
use Rattle.lx_machine.specs.declared.threads.LxThread.{LxThread}
use Rattle.bsd_proc.specs.Slots.{Slot, fresh, with_life}
use Rattle.bsd_proc.specs.declared.lives.Life.TheVariants.{Live, Reserved}
use Rattle.bsd_thread.specs.Phases.{has_call}
use Rattle.bsd_thread.specs.Threads.{masked, own_mask, started, unmasked}
use Rattle.bsd_thread.specs.declared.phase.Delivery.{Delivery}
use Rattle.bsd_thread.specs.declared.phase.Doom.TheVariants as doom
use Rattle.bsd_thread.specs.declared.phase.Phase.{Phase}
use Rattle.bsd_thread.specs.declared.phase.Phase.TheVariants as phase
use Rattle.bsd_thread.specs.declared.thread.ThreadState.{ThreadState}
use Rattle.threads_stand.specs.Image.{linux_call, linux_thread}
use Rattle.threads_stand.specs.Numbers.{linux_action, linux_info}

-- ---- in a call

-- a thread in a call is the same thread outside a call, and its call beside it
pub image_in_call : (t : ThreadState) (p : Phase) (slot : Slot) (m : Option ℕ) (rest : ℕ) → has_call p ≡ true
    → linux_thread t p slot m rest ≡ with_call (linux_thread t phase.User slot m 0) (linux_call p t.call rest)
image_in_call t phase.Idle slot m rest h = absurd (cc)
image_in_call t phase.User slot m rest h = absurd (cc)
image_in_call t phase.Fetch slot m rest h = refl
image_in_call t phase.Hold slot m rest h = refl
image_in_call t phase.Look slot m rest h = refl
image_in_call t phase.Drop slot m rest h = refl
image_in_call t phase.Process slot m rest h = refl
image_in_call t phase.Space slot m rest h = refl
image_in_call t phase.Files slot m rest h = refl
image_in_call t phase.Ask slot m rest h = refl
image_in_call t phase.Clock slot m rest h = refl
image_in_call t (phase.Busy turn) slot m rest h = refl
image_in_call t phase.Word slot m rest h = refl
image_in_call t (phase.Finish turn o) slot m rest h = refl
image_in_call t phase.Release slot m rest h = refl
image_in_call t phase.Sleep slot m rest h = refl
image_in_call t phase.Rest slot m rest h = refl
image_in_call t phase.Flux1 slot m rest h = refl
image_in_call t phase.Flux2 slot m rest h = refl
image_in_call t phase.Start slot m rest h = refl
image_in_call t phase.Store slot m rest h = refl
image_in_call t phase.Return slot m rest h = refl
image_in_call t (phase.Forced signal) slot m rest h = absurd (cc)
image_in_call t (phase.Frame delivery) slot m rest h = absurd (cc)
image_in_call t (phase.Kill doom.Frame) slot m rest h = absurd (cc)
image_in_call t (phase.Kill doom.InCall) slot m rest h = refl
image_in_call t phase.Leave slot m rest h = refl
image_in_call t phase.Clear slot m rest h = refl
image_in_call t phase.Gone slot m rest h = refl

-- so its call is taken from it, as a step of the Linux machine does
pub image_without_call : (t : ThreadState) (p : Phase) (slot : Slot) (m : Option ℕ) (rest : ℕ) → has_call p ≡ true
    → without_call (linux_thread t p slot m rest) ≡ linux_thread t phase.User slot m 0
image_without_call t p slot m rest h = ap (λ (z : LxThread). without_call z) (image_in_call t p slot m rest h)

pub image_call : (t : ThreadState) (p : Phase) (slot : Slot) (m : Option ℕ) (rest : ℕ) → has_call p ≡ true
    → (linux_thread t p slot m rest).call ≡ Some (linux_call p t.call rest)
image_call t p slot m rest h = ap (λ (z : LxThread). z.call) (image_in_call t p slot m rest h)

pub not_idle : (p : Phase) → has_call p ≡ true → p ≢ phase.Idle
not_idle p h e = let f : has_call p ≡ false = ap has_call e in cc

-- ---- registers, and the end of a call

pub with_regs_image : (t : ThreadState) (p : Phase) (slot : Slot) (m : Option ℕ) (rest : ℕ) (regs : Regs)
    → linux_thread (record t { regs = regs }) p slot m rest ≡ with_regs (linux_thread t p slot m rest) regs
with_regs_image t p slot m rest regs = refl

pub out_of_call_image : (t : ThreadState) (p : Phase) (slot : Slot) (m : Option ℕ) (rest : ℕ) (regs : Regs) → has_call p ≡ true
    → linux_thread (record t { regs = regs; phase = phase.User }) phase.User slot m 0
    ≡ lx_delivery.out_of_call (linux_thread t p slot m rest) regs
out_of_call_image t p slot m rest regs h = sym (ap (λ (z : LxThread). lx_delivery.out_of_call z regs) (image_in_call t p slot m rest h))

-- ---- masks

-- a call that uses a mask for its time
pub masked_image : (t : ThreadState) (p : Phase) (slot : Slot) (m : Option ℕ) (rest : ℕ) (o : Option ℕ) → IfSome o (λ set. set < 2 ^ 64)
    → linux_thread (masked (option_map set_in_of o) t) p slot m rest ≡ lx_step.masked o (linux_thread t p slot m rest)
masked_image t p slot m rest None small = refl
masked_image t p slot m rest (Some set) small =
    ap (λ (z : ℕ). lx_step.masked (Some z) (linux_thread t p slot m rest)) (set_out-in set small)

own_image : (mask : ℕ) (saved : Option ℕ)
    → set_out_of (own_mask mask saved) ≡ lx_delivery.own_mask (set_out_of mask) (option_map set_out_of saved)
own_image mask None = refl
own_image mask (Some saved) = refl

-- the mask that a thread has outside its call
pub own_mask_image : (t : ThreadState)
    → set_out_of (own_mask t.mask t.saved_mask) ≡ lx_delivery.own_mask (set_out_of t.mask) (option_map set_out_of t.saved_mask)
own_mask_image t = own_image t.mask t.saved_mask

pub unmasked_image : (t : ThreadState) (p : Phase) (slot : Slot) (m : Option ℕ) (rest : ℕ)
    → linux_thread (unmasked t) p slot m rest ≡ lx_delivery.unmasked (linux_thread t p slot m rest)
unmasked_image t p slot m rest = ap (λ (z : ℕ). record (linux_thread t p slot m rest) { mask = z; saved_mask = None }) (own_mask_image t)

-- ---- a child that starts

pub started_image : (t : ThreadState) (tid mask reserved_mask : ℕ) (regs : Regs) (lc : LxCall)
    → linux_thread (started t tid (lx_clone.child_regs regs lc) mask (lx_clone.clear_address lc)) phase.User (with_life Live (fresh tid Reserved)) None 0
    ≡ lx_clone.started regs (set_out_of mask) lc (lx_clone.reserved tid reserved_mask)
started_image t tid mask reserved_mask regs lc = refl

-- ---- signals that are delivered

-- a handler is to run
pub handled_image : (t : ThreadState) (slot : Slot) (m : Option ℕ) (d : Delivery)
    → linux_thread (record t { phase = phase.Frame d; granule = None }) (phase.Frame d) slot None 0
    ≡ lx_delivery.handled (linux_thread t phase.User slot m 0) (linux_info d.signal) (linux_action d.action)
handled_image t slot m d = refl

-- its frame can't be stored
pub doomed_image : (t : ThreadState) (slot : Slot) (m : Option ℕ) (d : Delivery)
    → linux_thread t (phase.Kill doom.Frame) slot m 0 ≡ doomed (linux_thread t (phase.Frame d) slot m 0)
doomed_image t slot m d = refl
