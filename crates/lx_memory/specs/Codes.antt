-- The code of a guest: the words that may be executed, where no page can be written and executed both. Source: mmap(2) for rights;
-- that no page has both is this project's own.
use Rattle.std.specs.Prelude.{◌≡◌, ℕ, true, false, Option, Some, None, if◌then◌else◌}
use Rattle.places.specs.Places.{number_of}
use Rattle.page_ranges.specs.declared.rights.Rights.{Rights}
use Rattle.page_store.specs.Pages.{Pages}
use Rattle.lx_memory.specs.Access.{rights_of}
use Rattle.lx_memory.specs.Bytes.{bytes_at}
use Rattle.lx_memory.specs.Queries.{is_allowed}
use Rattle.lx_memory.specs.declared.right.Right.TheVariants.{Execute}

-- the word of code at an address, if it may be executed
abbrev pub code_at : Pages → ℕ → Option ℕ
code_at pages pc = if is_allowed Execute pages pc 4 then Some (number_of (bytes_at pages pc 4)) else None

-- what may be written can't be executed
abbrev pub IsGuarded : Pages → Type 0
IsGuarded pages = (number : ℕ) (rights : Rights) → rights_of pages number ≡ Some rights → rights.write ≡ true → rights.execute ≡ false
