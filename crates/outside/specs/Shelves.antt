-- What a shelf tells of its files, and what a load may answer. This project's own.
use Rattle.std.specs.Prelude.{◌≡◌, ℕ, ◌≤◌, ◌<◌, List, length, ⊤, None, Some, Result, Ok, Err}
use Rattle.std.specs.declared.option.Option.{Option}
use Rattle.outside.specs.declared.traits.LoadFault.{LoadFault}
use Rattle.outside.specs.declared.traits.LoadFault.TheVariants.{Failed, NoMemory, TooLong}

-- a file as a shelf tells it: None where it isn't told, Some None where there is no such file
abbrev pub Told : Type 0
Told = Option (Option (List ℕ))

-- these may be the bytes of the file
abbrev pub MayHold : Told → List ℕ → Type 0
MayHold None bytes = ⊤
MayHold (Some None) bytes = ⊥
MayHold (Some (Some xs)) bytes = bytes ≡ xs

-- the file may be longer than the limit
abbrev pub MayPass : Told → ℕ → Type 0
MayPass None limit = ⊤
MayPass (Some None) limit = ⊥
MayPass (Some (Some xs)) limit = limit < length xs

-- the file may be within the limit
abbrev pub MayFit : Told → ℕ → Type 0
MayFit None limit = ⊤
MayFit (Some None) limit = ⊥
MayFit (Some (Some xs)) limit = length xs ≤ limit

-- what the answer of a load says of the file; V is a `Vec`, of which `bytes` are the items
abbrev pub Loads : {V : Type 0} → (V → List ℕ) → Told → ℕ → Result V LoadFault → Type 0
Loads bytes file limit (Ok v) = (length (bytes v) ≤ limit) × MayHold file (bytes v)
Loads bytes file limit (Err (TooLong passed)) = (passed ≡ limit) × MayPass file limit
Loads bytes file limit (Err Failed) = ⊤
Loads bytes file limit (Err NoMemory) = MayFit file limit

-- what a shelf tells at one moment
pub record ShelfView : Type 0 where
  pub file : List ℕ → Told
  pub loads : ℕ
  pub saves : ℕ

abbrev pub shelf_view : {S : Type 0} → (S → List ℕ → Told) → (S → ℕ) → (S → ℕ) → S → ShelfView
shelf_view file loads saves shelf = record { file = file shelf; loads = loads shelf; saves = saves shelf }

-- the shelf has the files that it had, and no save has failed
pub record KeepsFiles (before now : ShelfView) : Type 0 where
  pub files : (name : List ℕ) → now.file name ≡ before.file name
  pub saves : now.saves ≡ before.saves

-- what is told of a folder of the system: its failed loads and saves
pub record FolderCounts : Type 0 where
  pub loads : ℕ
  pub saves : ℕ
