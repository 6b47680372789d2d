-- The text of a fault of a tape file. This project's own.
use Rattle.std.specs.Prelude.{ℕ, List, [], ◌++◌, Option, Some, None, codes, decimal}
use Rattle.tape.specs.declared.fault.TapeFault.{TapeFault}
use Rattle.tape.specs.declared.fault.TapeFault.TheVariants.{BadMagic, Torn, TooLong, BadPages, BadRules, BadRun, BadActor, NoMemory}

-- the words of a fault; want of memory is no fault of the file, and has none
abbrev pub fault_words : TapeFault → List ℕ
fault_words BadMagic = codes "bad magic"
fault_words (Torn at) = codes "torn at "
fault_words (TooLong count) = codes "too many entries"
fault_words (BadPages pages) = codes "bad pages"
fault_words (BadRules rules) = codes "bad rules"
fault_words (BadRun at) = codes "bad run "
fault_words (BadActor at) = codes "bad actor in entry "
fault_words NoMemory = []

-- the number after the words, where there is one
abbrev pub fault_place : TapeFault → Option ℕ
fault_place BadMagic = None
fault_place (Torn at) = Some at
fault_place (TooLong count) = None
fault_place (BadPages pages) = None
fault_place (BadRules rules) = None
fault_place (BadRun at) = Some at
fault_place (BadActor at) = Some at
fault_place NoMemory = None

-- that number in decimal
abbrev pub place_text : Option ℕ → List ℕ
place_text None = []
place_text (Some place) = decimal place

-- the text of a fault
abbrev pub tape_fault_text : TapeFault → List ℕ
tape_fault_text fault = fault_words fault ++ place_text (fault_place fault)
