-- The first stack: what a program finds at sp. Source: the arm64 ABI as Linux has it (getauxval(3), execve(2)); which bytes
-- lie where above the table, and the numbers of ids, are this project's own.
use Rattle.std.specs.Prelude.{List, [], bit_xor, length, replicate, suc, ℕ, ◌*◌, ◌++◌, ◌+◌, ◌-◌, ◌/◌, ◌∷◌}
use Rattle.places.specs.Places.{bytes_of}

-- where the stack ends; the page of the return code stands there
abbrev pub stack_end : ℕ
stack_end = 0x7fffff000000

-- words with a zero byte behind each
abbrev pub ended_texts : List (List ℕ) → List ℕ
ended_texts [] = []
ended_texts (text ∷ texts) = (text ++ 0 ∷ []) ++ ended_texts texts

-- what stands highest: the arguments, the image name behind them, and 8 zero bytes
abbrev pub texts : List ℕ → List (List ℕ) → List ℕ
texts name arguments = ended_texts arguments ++ ((name ++ 0 ∷ []) ++ replicate 8 0)

-- 16 bytes at random (AT_RANDOM): the seed, and the seed with the bits of 2^64 over the golden ratio turned
abbrev pub random_bytes : ℕ → List ℕ
random_bytes seed = bytes_of seed 8 ++ bytes_of (bit_xor seed 0x9e3779b97f4a7c15) 8

-- the address of the random bytes; the arguments stand behind them
abbrev pub random_at : List ℕ → List (List ℕ) → ℕ
random_at name arguments = stack_end - length (texts name arguments) - 16

-- the address of each argument, the first of which stands at `at`
abbrev pub argument_places : ℕ → List (List ℕ) → List ℕ
argument_places at [] = []
argument_places at (text ∷ texts) = at ∷ argument_places (at + length text + 1) texts

-- the address of the image name
abbrev pub name_at : List ℕ → List (List ℕ) → ℕ
name_at name arguments = random_at name arguments + 16 + length (ended_texts arguments)

-- what the table says of the image
pub record Headers : Type 0 where
  pub at : ℕ
  pub count : ℕ
  pub entry : ℕ

-- the auxiliary vector: AT_PHDR, AT_PHENT, AT_PHNUM, AT_PAGESZ, AT_ENTRY, AT_UID, AT_EUID, AT_GID, AT_EGID, AT_HWCAP (atomic
-- accesses), AT_SECURE, AT_RANDOM, AT_EXECFN, AT_NULL
abbrev pub auxiliary : Headers → ℕ → ℕ → List ℕ
auxiliary h random name =
    3 ∷ h.at ∷ 4 ∷ 56 ∷ 5 ∷ h.count ∷ 6 ∷ 4096 ∷ 9 ∷ h.entry ∷
    11 ∷ 1000 ∷ 12 ∷ 1000 ∷ 13 ∷ 1000 ∷ 14 ∷ 1000 ∷
    16 ∷ 256 ∷ 23 ∷ 0 ∷ 25 ∷ random ∷ 31 ∷ name ∷ 0 ∷ 0 ∷ []

-- the table: the count of arguments, the image name, the arguments, 0, no environment, 0, and the auxiliary vector
abbrev pub table : Headers → List ℕ → List (List ℕ) → List ℕ
table h name arguments =
    suc (length arguments) ∷ name_at name arguments ∷
    (argument_places (random_at name arguments + 16) arguments ++ 0 ∷ 0 ∷ auxiliary h (random_at name arguments) (name_at name arguments))

-- words of 8 bytes each
abbrev pub stack_words : List ℕ → List ℕ
stack_words [] = []
stack_words (n ∷ ns) = bytes_of n 8 ++ stack_words ns

-- sp: the greatest multiple of 16 that leaves room for the table
abbrev pub table_at : Headers → List ℕ → List (List ℕ) → ℕ
table_at h name arguments = (random_at name arguments - 8 * length (table h name arguments)) / 16 * 16

-- ---- the words with which a program is started: the image name, and the arguments behind it. Without any the name is empty.

abbrev pub name_of : List (List ℕ) → List ℕ
name_of [] = []
name_of (name ∷ arguments) = name

abbrev pub arguments_of : List (List ℕ) → List (List ℕ)
arguments_of [] = []
arguments_of (name ∷ arguments) = arguments
