-- That no place for an open file or a counter is ever wanting. This project's own.
use Rattle.std.specs.Prelude.{ℕ, ◌≡◌, ◌≤◌, ◌==◌, Bool, true, false, List, length, Option, None, Some, is_some, sum_by}
use Rattle.std.specs.List.{list_any}
use Rattle.lx_machine.specs.Files.{is_unnamed, numbered}
use Rattle.lx_machine.specs.Lists.{at_place}
use Rattle.lx_machine.specs.declared.files.Counter.{Counter}
use Rattle.lx_machine.specs.declared.files.Descriptor.{Descriptor}
use Rattle.lx_machine.specs.declared.files.FileKind.{FileKind}
use Rattle.lx_machine.specs.declared.files.Files.{Files}
use Rattle.lx_machine.specs.declared.files.OpenFile.{OpenFile}
use Rattle.lx_machine.specs.declared.files.FileKind.TheVariants as kind

-- how many holds an open file has
abbrev pub holds_of : Option OpenFile → ℕ
holds_of None = 0
holds_of (Some f) = f.holds

-- how many holds stand
abbrev pub holds_in : Files → ℕ
holds_in F = sum_by holds_of F.files

-- no open file waits for its first descriptor: each that lives is named by a descriptor or a hold
abbrev pub AllNamed : Files → Type 0
AllNamed F = (file : ℕ) (f : OpenFile) → at_place F.files file ≡ Some f → is_unnamed F (numbered file f) ≡ false

-- something tells of this number
abbrev pub tells : Option ℕ → ℕ → Bool
tells None n = false
tells (Some m) n = m == n

-- the counter that an open file is
abbrev pub counter_in : FileKind → Option ℕ
counter_in (kind.Counter n) = Some n
counter_in _ = None

abbrev pub counter_of : Option OpenFile → Option ℕ
counter_of None = None
counter_of (Some f) = counter_in f.kind

-- each counter that lives is an open file
abbrev pub AllCounted : List (Option Counter) → List (Option OpenFile) → Type 0
AllCounted cs fs = (n : ℕ) → is_some (at_place cs n) ≡ true → list_any (λ f. tells (counter_of f) n) fs ≡ true

-- what holds of descriptors, open files and counters at all times
pub record AreKept (ds : List (Option Descriptor)) (fs : List (Option OpenFile)) (cs : List (Option Counter)) : Type 0 where
  pub descriptors : length ds ≡ 256
  pub files : length fs ≡ 384
  pub counters : length cs ≡ 384
  pub holds : sum_by holds_of fs ≤ 128
  pub counted : AllCounted cs fs

abbrev pub IsKept : Files → Type 0
IsKept F = AreKept F.descriptors F.files F.counters
