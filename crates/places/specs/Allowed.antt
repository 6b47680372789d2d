-- When an access is allowed.
-- Source: mmap(2) and mprotect(2); that a range does not run over the end of the address space is this project's own.
use Rattle.std.specs.Prelude.{ℕ, ◌+◌, ◌^◌, ◌<◌, ◌≤◌, Bool, Option, IsSomeAnd, IsTrue}
use Rattle.places.specs.Places.{page}

-- the bytes of a range lie in the address space, each on a page that is mapped with the right:
-- `rights_of` gives the rights of a mapped page
pub record Allowed {Rights : Type 0} (rights_of : ℕ → Option Rights) (at len : ℕ) (right : Rights → Bool) : Type 0 where
  pub in_space : at + len ≤ 2 ^ 64
  pub mapped : (address : ℕ) → at ≤ address → address < at + len → IsSomeAnd (rights_of (page address)) (λ rights. IsTrue (right rights))
