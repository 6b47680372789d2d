-- What holds of the files of the FreeBSD kernel's model at all times: the part of Sound on files. This project's own.
use Rattle.std.specs.Prelude.{◌≡◌, ◌<◌, ℕ, zero, suc, ◌+◌, ◌==◌, Bool, true, false, ◌&&◌, if◌then◌else◌, List, length, Option, Some, None, is_some}
use Rattle.std.proofs.Math.Bool.{not}
use Rattle.std.specs.Int.{from_bool}
use Rattle.kqueue_core.specs.Changes.{IsWatches, tally}
use Rattle.kqueue_core.specs.Queues.{Queue}
use Rattle.kqueue_core.specs.declared.knotes.Flux.{Flux}
use Rattle.kqueue_core.specs.declared.knotes.Watch.{Watch}
use Rattle.kqueue_laws.specs.Pairs.{is_lost}
use Rattle.lx_machine.specs.EpollCtl.{file_of}
use Rattle.lx_machine.specs.Interests.{is_kind}
use Rattle.lx_machine.specs.Lists.{at_place}
use Rattle.lx_machine.specs.declared.calls.LxCall.{LxCall}
use Rattle.lx_machine.specs.declared.files.Descriptor.{Descriptor}
use Rattle.lx_machine.specs.declared.files.FileKind.{FileKind}
use Rattle.lx_machine.specs.declared.files.FileKind.TheVariants as kind
use Rattle.lx_machine.specs.declared.files.Files.{Files}
use Rattle.lx_machine.specs.declared.files.Interest.{Interest}
use Rattle.lx_machine.specs.declared.files.OpenFile.{OpenFile}
use Rattle.open_files.specs.Plain.{readiness}
use Rattle.places.specs.declared.limits.TheConstants.{DESCRIPTORS, PIPES, QUEUES, SLOTS}
use Rattle.bsd_files.specs.State.{FilesState}
use Rattle.files_stand.specs.FilesStand.{AllStand}
use Rattle.files_stand.specs.Fluxes.{HasFlux}
use Rattle.files_stand.specs.Same.{Name, is_kept, stood_for}

-- ---- a queue

-- but for the name that is left out, no interest is lost: one without EPOLLET that has something to report has an active knote
abbrev pub NoneLost : Files → Option Name → List Watch → Type 0
NoneLost F x ws = tally (λ w. is_kept x w.file w.descriptor && is_lost (readiness F) w) ws ≡ 0

-- but for the name that is left out, each interest has its two knotes, and they are of one interest
abbrev pub AllWhole : Option Name → List Watch → Type 0
AllWhole x ws = tally (λ w. is_kept x w.file w.descriptor && not (is_some (stood_for w))) ws ≡ 0

-- the name that a flux changes, which is left out
abbrev pub name_at : ℕ → Option ℕ → Option Name
name_at fd None = None
name_at fd (Some file) = Some (record { file = file; descriptor = fd })

abbrev pub flux_name : Files → Option Flux → Option Name
flux_name F None = None
flux_name F (Some flux) = name_at flux.descriptor (file_of F flux.descriptor)

-- an open file of this number lives
abbrev pub lives : Files → ℕ → Bool
lives F file = is_some (at_place F.files file)

pub record SoundQueue (F : Files) (q : Queue) : Type 0 where
  pub watches : IsWatches q.watches
  pub alive : tally (λ w. not (lives F w.file)) q.watches ≡ 0
  pub found : NoneLost F (flux_name F q.flux) q.watches

-- ---- open files

-- what an open file of this kind stands for lives: its pipe, its counter, its queue
abbrev pub is_there : FilesState → FileKind → Bool
is_there S (kind.PipeRead p) = is_some (at_place S.plain.pipes p)
is_there S (kind.PipeWrite p) = is_some (at_place S.plain.pipes p)
is_there S (kind.Counter n) = is_some (at_place S.plain.counters n)
is_there S (kind.Epoll n) = is_some (at_place S.queues n)
is_there S kind.Input = true
is_there S (kind.Console which) = true

-- no two open files are the same end of a pipe, the same counter, queue or console, or the input
abbrev pub Alone : List (Option OpenFile) → Type 0
Alone files = (i j : ℕ) (f g : OpenFile) → at_place files i ≡ Some f → at_place files j ≡ Some g → is_kind f.kind g.kind ≡ true → i ≡ j

-- how many of the first slots hold an open file
abbrev pub is_that : ℕ → Option ℕ → Bool
is_that file None = false
is_that file (Some f) = f == file

abbrev pub holders_of : (ℕ → Option ℕ) → ℕ → ℕ → ℕ
holders_of holding file zero = 0
holders_of holding file (suc n) = from_bool (is_that file (holding n)) + holders_of holding file n

-- the holds where this slot's call holds this open file, or none
abbrev pub with_holding : (ℕ → Option ℕ) → ℕ → Option ℕ → ℕ → Option ℕ
with_holding holding s o x = if x == s then o else holding x

-- ---- all files

-- 256 descriptors, 384 open files and counters, 64 pipes and 32 queues
pub record HasSizes (S : FilesState) : Type 0 where
  pub descriptors : length S.plain.descriptors ≡ DESCRIPTORS
  pub files : length S.plain.files ≡ 384
  pub pipes : length S.plain.pipes ≡ PIPES
  pub counters : length S.plain.counters ≡ 384
  pub queues : length S.queues ≡ QUEUES

-- `calls` has the calls of the slots that stand between the two entries of a change, `holding` the open file that each slot's call
-- holds.
-- A descriptor names an open file that lives, and what an open file is lives too. Each hold is one slot's. Each queue is sound, there
-- are epolls for which all stand, and who stands between the two entries of a change has its queue in flux
pub record SoundFiles (calls : ℕ → Option LxCall) (holding : ℕ → Option ℕ) (S : FilesState) : Type 0 where
  pub sizes : HasSizes S
  pub named : (fd : ℕ) (d : Descriptor) → at_place S.plain.descriptors fd ≡ Some d → lives S.plain d.file ≡ true
  pub alone : Alone S.plain.files
  pub there : (i : ℕ) (f : OpenFile) → at_place S.plain.files i ≡ Some f → is_there S f.kind ≡ true
  pub holders : (i : ℕ) (f : OpenFile) → at_place S.plain.files i ≡ Some f → f.holds ≡ holders_of holding i SLOTS
  pub held : (s i : ℕ) → holding s ≡ Some i → (s < SLOTS) × (lives S.plain i ≡ true)
  pub each : (n : ℕ) (q : Queue) → at_place S.queues n ≡ Some q → SoundQueue S.plain q
  pub epolls : List (Option (List Interest))
  pub stand : AllStand calls S.plain S.queues epolls
  pub rooms : length S.queues ≡ length epolls
  pub fluxes : (s : ℕ) (c : LxCall) → calls s ≡ Some c → HasFlux S.plain S.queues s c
