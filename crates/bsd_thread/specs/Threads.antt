-- Threads: how they are made and start, and which signals they block. Source: clone(2), sigprocmask(2), sigsuspend(2).
use Rattle.std.specs.Prelude.{ℕ, Option, Some, None}
use Rattle.a64_model.specs.declared.regs.Regs.{Regs}
use Rattle.lx_machine.specs.Clone.{no_regs, no_stack}
use Rattle.bsd_thread.specs.declared.phase.Phase.TheVariants as phase
use Rattle.bsd_thread.specs.declared.thread.ThreadState.{ThreadState}
use Rattle.bsd_thread.specs.Calls.{no_call}

-- a thread that was never used
abbrev pub idle : ThreadState
idle = record {
  slot = 0;
  rules = 0;
  tid = 0;
  regs = no_regs;
  mask = 0;
  saved_mask = None;
  alt_stack = no_stack;
  clear_at = 0;
  granule = None;
  phase = phase.Idle;
  call = no_call;
}

-- a thread that starts with these registers, mask and clear address
abbrev pub started : ThreadState → ℕ → Regs → ℕ → ℕ → ThreadState
started t tid regs mask clear_at = record t {
  tid = tid;
  regs = regs;
  mask = mask;
  saved_mask = None;
  alt_stack = no_stack;
  clear_at = clear_at;
  granule = None;
  phase = phase.User;
  call = no_call;
}

-- a call that uses a mask for its time: the thread gets its own back when the call returns
abbrev pub masked : Option ℕ → ThreadState → ThreadState
masked None t = t
masked (Some mask) t = record t { mask = mask; saved_mask = Some t.mask }

-- the mask that a thread has outside its call
abbrev pub own_mask : ℕ → Option ℕ → ℕ
own_mask mask None = mask
own_mask mask (Some saved) = saved

abbrev pub unmasked : ThreadState → ThreadState
unmasked t = record t { mask = own_mask t.mask t.saved_mask; saved_mask = None }
