-- Bytes that are moved, and what is drained: both machines take the step, and the clause Files still holds.
use Rattle.std.proofs.Common.{◌≡◌, ℕ, List, [], ◌∷◌, drop, Option, refl, ap, ap₂}
use Rattle.kqueue_core.specs.Queues.{Queue}
use Rattle.kqueue_core.specs.declared.knotes.Filter.{Filter}
use Rattle.kqueue_core.specs.declared.knotes.Filter.TheVariants.{Read, Write}
use Rattle.lx_machine.specs.Calls.{low_argument}
use Rattle.lx_machine.specs.Interests.{armed_on, drained_side}
use Rattle.lx_machine.specs.Lists.{at_place}
use Rattle.lx_machine.specs.Read.{with_counter, with_pipe}
use Rattle.lx_machine.specs.Write.{into_console}
use Rattle.lx_machine.specs.declared.calls.LxCall.{LxCall}
use Rattle.lx_machine.specs.declared.files.Counter.{Counter}
use Rattle.lx_machine.specs.declared.files.Descriptor.{Descriptor}
use Rattle.lx_machine.specs.declared.files.FileKind.TheVariants as kind
use Rattle.lx_machine.specs.declared.files.Files.{Files}
use Rattle.lx_machine.specs.declared.files.OpenFile.{OpenFile}
use Rattle.lx_machine.specs.declared.label.LxSide.{LxSide}
use Rattle.lx_machine.specs.declared.label.LxSide.TheVariants as side
use Rattle.open_files.specs.Plain.{plain_of}
use Rattle.bsd_files.specs.Calls.{drained}
use Rattle.bsd_files.specs.Ops.{Op, Arm, drain_ops}
use Rattle.bsd_files.specs.State.{FilesState}
use Rattle.files_stand.specs.FilesStand.{FilesStand}
use Rattle.files_stand.specs.Steps.{AllFree, AllSpare, Keeps}
use Rattle.files_stand.proofs.Entries.{Leaves, step_stands, stepped}
use Rattle.files_stand.proofs.Names.{SameAt, keeps_by, kind_by}
use Rattle.files_stand.proofs.Plains.{console_step, counter_step, drained_step, input_step, read_step, write_step}

-- descriptors and open files are as they were
pub record Rests (F F' : Files) : Type 0 where
  pub descriptors : F'.descriptors ≡ F.descriptors
  pub files : F'.files ≡ F.files

pub rests_at : (F F' : Files) → Rests F F' → (d : ℕ) → SameAt F F' d
rests_at F F' r d = record {
  descriptor = ap (λ (ds : List (Option Descriptor)). at_place ds d) r.descriptors;
  kind = ap₂ (λ (ds : List (Option Descriptor)) (files : List (Option OpenFile)). kind_by ds files d) r.descriptors r.files;
}

pub rests_keeps : (F F' : Files) → Rests F F' → (c : LxCall) → Keeps F F' c
rests_keeps F F' r c = keeps_by F F' c (rests_at F F' r (low_argument c 0)) (rests_at F F' r (low_argument c 2))

-- it takes no open file and no queue away
abbrev pub IsMild : List Op → Type 0
IsMild os = (F : Files) (n : ℕ) → AllFree F os × AllSpare n os

pub rests_leaves : (calls : ℕ → Option LxCall) (F F' : Files) (qs : List (Option Queue)) (os : List Op) → Rests F F' → IsMild os → Leaves calls F F' qs os
rests_leaves calls F F' qs os r mild = record {
  free = (mild F' 0).0;
  keeps = λ s c is. rests_keeps F F' r c;
  spares = λ s c is h. (mild F h.place).1;
}

pub no_ops : IsMild []
no_ops F n = (tt, tt)

module _ (F : Files) where
  pub console_rests : (which : LxSide) (bytes : List ℕ) → Rests F (plain_of (into_console F which bytes))
  console_rests side.Out bytes = record { descriptors = refl; files = refl }
  console_rests side.Err bytes = record { descriptors = refl; files = refl }

  pub drained_rests : (which : LxSide) (n : ℕ) → Rests F (drained_side F which n)
  drained_rests side.Out n = record { descriptors = refl; files = refl }
  drained_rests side.Err n = record { descriptors = refl; files = refl }

module _ (calls : ℕ → Option LxCall) (M : FilesState) (L : Files) (st : FilesStand calls M L) where
  -- a pipe holds these bytes after a read; after a write
  pub read_stands : (p : ℕ) (bytes : List ℕ) → FilesStand calls (stepped (λ F. with_pipe F p bytes) (λ F. Arm (kind.PipeWrite p) Write F.files ∷ []) M) (armed_on (kind.PipeWrite p) (with_pipe L p bytes))
  read_stands p bytes = step_stands _ _ _ (read_step p bytes) calls M L st (rests_leaves calls M.plain (with_pipe M.plain p bytes) M.queues _ (record { descriptors = refl; files = refl }) (λ F n. ((tt, tt), (tt, tt))))

  pub write_stands : (p : ℕ) (bytes : List ℕ) → FilesStand calls (stepped (λ F. with_pipe F p bytes) (λ F. Arm (kind.PipeRead p) Read F.files ∷ []) M) (armed_on (kind.PipeRead p) (with_pipe L p bytes))
  write_stands p bytes = step_stands _ _ _ (write_step p bytes) calls M L st (rests_leaves calls M.plain (with_pipe M.plain p bytes) M.queues _ (record { descriptors = refl; files = refl }) (λ F n. ((tt, tt), (tt, tt))))

  -- a counter is this after a read or a write
  pub counter_stands : (number : ℕ) (n : Counter) (f : Filter) → FilesStand calls (stepped (λ F. with_counter F number n) (λ F. Arm (kind.Counter number) f F.files ∷ []) M) (with_counter L number n)
  counter_stands number n f = step_stands _ _ _ (counter_step number n f) calls M L st (rests_leaves calls M.plain (with_counter M.plain number n) M.queues _ (record { descriptors = refl; files = refl }) (λ F n. ((tt, tt), (tt, tt))))

  -- bytes of the input are read
  pub input_stands : (most : ℕ) → FilesStand calls (stepped (λ F. record F { input = drop most F.input }) (λ F. []) M) (record L { input = drop most L.input })
  input_stands most = step_stands _ _ _ (input_step most) calls M L st (rests_leaves calls M.plain (record M.plain { input = drop most M.plain.input }) M.queues [] (record { descriptors = refl; files = refl }) no_ops)

  -- bytes go into a console room
  pub console_stands : (which : LxSide) (bytes : List ℕ) → FilesStand calls (stepped (λ F. plain_of (into_console F which bytes)) (λ F. []) M) (into_console L which bytes)
  console_stands which bytes = step_stands _ _ _ (console_step which bytes) calls M L st (rests_leaves calls M.plain (plain_of (into_console M.plain which bytes)) M.queues [] (console_rests M.plain which bytes) no_ops)

  -- a console room is drained
  pub drained_stands : (which : LxSide) (n : ℕ) → FilesStand calls (drained M which n) (drained_side L which n)
  drained_stands which n = step_stands _ _ _ (drained_step which n) calls M L st (rests_leaves calls M.plain (drained_side M.plain which n) M.queues (drain_ops M.plain which) (drained_rests M.plain which n) (λ F n. ((tt, tt), (tt, tt))))
