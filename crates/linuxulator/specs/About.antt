-- The words that the program answers by itself. This project's own.
use Rattle.std.specs.Prelude.{ℕ, Bool, false, ◌||◌, List, [], ◌∷◌, codes}
use Rattle.std.specs.Str.{bytes_eq}

-- whether these are the one word `--help` or the one word `--version`
abbrev pub asks_about : List (List ℕ) → Bool
asks_about [] = false
asks_about (word ∷ []) = bytes_eq word (codes "--help") || bytes_eq word (codes "--version")
asks_about (word ∷ second ∷ rest) = false
