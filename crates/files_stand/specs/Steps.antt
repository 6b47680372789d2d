-- What an entry on files does to the epolls of the Linux machine, and what it has to leave while changes of interests are at work.
-- This project's own.
use Rattle.std.specs.Prelude.{◌≡◌, ◌≢◌, ℕ, List, [], ◌∷◌, Some}
use Rattle.kqueue_core.specs.declared.knotes.Watch.{Watch}
use Rattle.lx_machine.specs.Calls.{low_argument}
use Rattle.lx_machine.specs.EpollCtl.{descriptor_refusals, epoll_of, file_of}
use Rattle.lx_machine.specs.declared.calls.LxCall.{LxCall}
use Rattle.lx_machine.specs.declared.files.Files.{Files}
use Rattle.lx_machine.specs.declared.label.Pick.{Pick}
use Rattle.open_files.specs.Plain.{plain_of}
use Rattle.bsd_files.specs.Ops.{Op, Arm, Leave, End}
use Rattle.bsd_files.specs.Moves.{each_epoll}

-- ---- a step on files

-- a step of the Linux machine's files is that of the plain part, which the other machine takes, and these ops on the epolls, which
-- are read off the plain part
pub record IsStep (plain linux : Files → Files) (ops : Files → List Op) : Type 0 where
  pub plain_is : (F : Files) → plain (plain_of F) ≡ plain_of (linux F)
  pub epolls : (F : Files) → (linux F).epolls ≡ each_epoll (ops (plain_of F)) F.epolls

-- ---- what is left

-- no descriptor names an open file that ends
abbrev pub IsFree : Files → Op → Type 0
IsFree F (Leave file) = (d : ℕ) → file_of F d ≢ Some file
IsFree F (Arm k g files) = Unit {0}
IsFree F (End n) = Unit {0}

abbrev pub AllFree : Files → List Op → Type 0
AllFree F [] = Unit {0}
AllFree F (o ∷ os) = IsFree F o × AllFree F os

-- this queue doesn't end
abbrev pub Spares : ℕ → Op → Type 0
Spares n (End m) = n ≢ m
Spares n (Arm k g files) = Unit {0}
Spares n (Leave file) = Unit {0}

abbrev pub AllSpare : ℕ → List Op → Type 0
AllSpare n [] = Unit {0}
AllSpare n (o ∷ os) = Spares n o × AllSpare n os

-- what a change of an interest names is left: its open file, its epoll, and that its descriptors refuse nothing
pub record Keeps (F F' : Files) (c : LxCall) : Type 0 where
  pub file : file_of F' (low_argument c 2) ≡ file_of F (low_argument c 2)
  pub epoll : epoll_of F' (low_argument c 0) ≡ epoll_of F (low_argument c 0)
  pub refusals : descriptor_refusals F' c ≡ descriptor_refusals F c

-- ---- reports

-- the pick of what a queue reports
abbrev pub pick_for : Watch → Pick
pick_for w = record { file = w.file; descriptor = w.descriptor }
