-- A range that runs past the address space.
use Rattle.std.proofs.Common.{ℕ, zero, suc, ◌+◌, ◌^◌, ◌<◌, ◌↔◌, IsTrue, nat_eq, arith, rules}
use Rattle.std.proofs.lemmas.Bool.Decides.{nat_tests}
use Rattle.page_ranges.specs.Ranges.{EachPage}
use Rattle.page_store.specs.Pages.{Pages}
use Rattle.lx_memory.specs.Gaps.{IsMappedAt}
use Rattle.lx_memory.specs.Space.{IsInSpace}

pub mapped_past : (pages : Pages) (first count : ℕ) → IsInSpace pages → 2 ^ 52 < first + count → IsTrue (nat_eq count 0) ↔ EachPage first count (IsMappedAt pages)
mapped_past pages first zero space past = (λ _ p from lt. absurd (omega arith), λ _. search rules)
mapped_past pages first (suc n) space past = (λ none. absurd (grind (arith, nat_tests, none)), λ each. absurd (let there = each (first + n) (omega arith) (omega arith) in let none = space (first + n) (omega arith) in grind (arith, none, there)))
