-- A table of program headers, one header after another.
use Rattle.std.proofs.Common.{◌≡◌, ℕ, ◌+◌, ◌*◌, List, [], ◌∷◌, ◌++◌, refl, zero-add}
use Rattle.std.proofs.lemmas.List.FromFn.{map-range_with_len_more}
use Rattle.elf_image.specs.Headers.{program_header, program_headers}

pub program_headers-none : (file : List ℕ) (table : ℕ) → program_headers file table 0 ≡ []
unfolding program_headers
program_headers-none file table = refl

pub program_headers-more : (file : List ℕ) (table count : ℕ)
    → program_headers file table (count + 1) ≡ program_headers file table count ++ program_header file (table + 56 * count) ∷ []
unfolding program_headers
program_headers-more file table count =
    map-range_with_len_more (λ index. program_header file (table + 56 * index)) 0 count count (zero-add count)

-- how a table grows
pub ruleset tables = (program_headers-none, program_headers-more)
