-- The instruction at an address, from the fixed code.
-- Source: mmap(2), PROT_EXEC; that the code is fixed is this project's own.
use Rattle.std.specs.Prelude.{ℕ, ◌+◌, ◌%◌, slice_range, Option}
use Rattle.std.specs.Option.{option_map}
use Rattle.std.specs.FinMap as map
use Rattle.places.specs.Places as place
use Rattle.page_store.specs.Pages.{Pages}

-- the word at a multiple of 4; none where the page may not be executed
abbrev pub code_word : Pages → ℕ → Option ℕ
code_word code pc =
    let from = pc % 4096 in
    option_map (λ page. place.number_of (slice_range page.bytes from (from + 4))) (map.get code (place.page pc))
