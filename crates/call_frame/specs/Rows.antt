-- What an entry makes of the parts: the step of a family, and the lifts by which a row on one or two parts is one on all of them.
-- Source: this project's own.
use Rattle.std.specs.Prelude.{ℕ, Option, Some}
use Rattle.bsd_files.specs.State.{FilesState}
use Rattle.bsd_proc.specs.Slots.{ProcessState}
use Rattle.bsd_thread.specs.declared.thread.ThreadState.{ThreadState}
use Rattle.umtx_queue.specs.Chains.{ChainState}
use Rattle.lx_machine.specs.Lists.{bind}
use Rattle.machine_parts.specs.Parts.{Parts, chain_at, files_at, process_at, put_chain, put_files, put_process, put_thread, thread_at}
use Rattle.call_frame.specs.declared.applied.Applied.{Applied}
use Rattle.call_frame.specs.declared.applied.Applied.TheVariants.{Going}

-- what an entry makes: the actor's thread, the parts without it, and whether the guest goes on
pub record Made : Type 0 where
  pub thread : ThreadState
  pub parts : Parts
  pub applied : Applied

abbrev pub made : ThreadState → Parts → Applied → Made
made t m a = record { thread = t; parts = m; applied = a }

-- a family's step: of a slot, its thread, and the parts without it. None where the entry isn't enabled
abbrev pub StepOf : Type 0
StepOf = ℕ → ThreadState → Parts → Option Made

-- ---- lifts

-- a row on the thread alone
abbrev pub on_thread : Parts → ThreadState → Option Made
on_thread m t = Some (made t m Going)

-- what a row makes of the thread and another part
pub record With (X : Type 0) : Type 0 where
  pub thread : ThreadState
  pub part : X

abbrev pub with_part : {X : Type 0} → ThreadState → X → With X
with_part t x = record { thread = t; part = x }

-- a row that reads the process
abbrev pub reading_process : Parts → (ProcessState → Option ThreadState) → Option Made
reading_process m row = bind (process_at m) (λ p. bind (row p) (on_thread m))

-- a row on the process
abbrev pub on_process : Parts → (ProcessState → Option (With ProcessState)) → Option Made
on_process m row = bind (process_at m) (λ p. bind (row p) (λ b. Some (made b.thread (put_process m b.part) Going)))

-- a row on the process that may end the guest
abbrev pub on_process_ending : Parts → (ProcessState → Option (With ProcessState × Applied)) → Option Made
on_process_ending m row = bind (process_at m) (λ p. bind (row p) (λ b. Some (made b.0.thread (put_process m b.0.part) b.1)))

-- a row on the files
abbrev pub on_files : Parts → (FilesState → Option (With FilesState)) → Option Made
on_files m row = bind (files_at m) (λ f. bind (row f) (λ b. Some (made b.thread (put_files m b.part) Going)))

-- a row on a chain
abbrev pub on_chain : Parts → ℕ → (ChainState → Option (With ChainState)) → Option Made
on_chain m c row = bind (chain_at m c) (λ ch. bind (row ch) (λ b. Some (made b.thread (put_chain m c b.part) Going)))

-- a row on a chain that reads the process
abbrev pub on_chain_reading : Parts → ℕ → (ProcessState → ChainState → Option (With ChainState)) → Option Made
on_chain_reading m c row = bind (process_at m) (λ p. on_chain m c (row p))

-- a row on shards: it reads and changes the parts by the words on several shards
abbrev pub on_shards : Parts → (Parts → With Parts) → Option Made
on_shards m row = Some (made (row m).thread (row m).part Going)

-- what a row makes of its thread, another thread and the process
pub record Birth : Type 0 where
  pub thread : ThreadState
  pub child : ThreadState
  pub process : ProcessState

-- a row on another thread and the process
abbrev pub on_child : Parts → ℕ → (ThreadState → ProcessState → Option Birth) → Option Made
on_child m x row = bind (thread_at m x) (λ tx. bind (process_at m) (λ p. bind (row tx p) (λ b. Some (made b.thread (put_process (put_thread m x b.child) b.process) Going))))
