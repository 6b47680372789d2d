-- Words and UsageFault: the words of the command line, each as its bytes, and what they mean. This project's own.
use Rattle.std.specs.Prelude.{ℕ, List, [], ◌∷◌, None, Some, if◌then◌else◌, ◌==◌, codes, slice_index_or}
use Rattle.std.specs.declared.option.Option.{Option}
use Rattle.std.specs.Str.{bytes_eq}
use Rattle.linuxulator_cli.specs.declared.words.UsageFault.{UsageFault}
use Rattle.linuxulator_cli.specs.declared.words.UsageKind.{UsageKind}
use Rattle.linuxulator_cli.specs.declared.words.UsageKind.TheVariants.{NoCommand, UnknownCommand, UnknownOption, MissingName, TooManyWords}

-- a kind in words
abbrev pub usage_text : UsageKind → List ℕ
usage_text NoCommand = codes "no command"
usage_text UnknownCommand = codes "unknown command"
usage_text UnknownOption = codes "unknown option"
usage_text MissingName = codes "missing name"
usage_text TooManyWords = codes "too many words"

-- a fault of this kind at a word
abbrev pub fault_at : UsageKind → ℕ → Option UsageFault
fault_at kind at = Some (record { kind = kind; at = at })

-- after IMAGE nothing stands
abbrev pub end_fault : List (List ℕ) → Option UsageFault
end_fault [] = None
end_fault (third ∷ rest) = fault_at TooManyWords 2

-- IMAGE is there, isn't empty and doesn't begin with `-` (45)
abbrev pub image_fault : List (List ℕ) → Option UsageFault
image_fault [] = fault_at MissingName 1
image_fault ([] ∷ rest) = fault_at MissingName 1
image_fault ((first ∷ name) ∷ rest) = if first == 45 then fault_at UnknownOption 1 else end_fault rest

-- the first fault from the left, or none where the words are `run IMAGE`
abbrev pub usage_fault : List (List ℕ) → Option UsageFault
usage_fault [] = fault_at NoCommand 0
usage_fault (command ∷ rest) = if bytes_eq command (codes "run") then image_fault rest else fault_at UnknownCommand 0

-- the name of the image
abbrev pub image_name : List (List ℕ) → List ℕ
image_name words = slice_index_or words 1 []
