-- What an atomic access leaves, from what it reads and what it stores.
use Rattle.std.proofs.Common.{◌≡◌, ℕ, ◌%◌, Some, None, Option, Result, Ok, Err, MatchOption, true, List, if◌then◌else◌, ap, ◌∙◌}
use Rattle.places.specs.Places.{number_at, bytes_of}
use Rattle.a64_model.specs.declared.access.Fault.{Fault}
use Rattle.a64_model.specs.declared.access.SwapOp.{SwapOp}
use Rattle.page_store.specs.Pages.{Page}
use Rattle.guest_mem.specs.Held.{Held, stored}
use Rattle.a64_model.specs.Swaps.{outcome, has_outcome}

abbrev number : ℕ → Result ℕ Fault
number n = Ok n

abbrev no_number : ℕ → Result ℕ Fault
no_number at = Err record { address = at }

abbrev done : Result (Unit {0}) Fault
done = Ok tt

abbrev not_done : ℕ → Result (Unit {0}) Fault
not_done at = Err record { address = at }

-- the number of so many bytes at the address was read, or the page is not one that may be written
abbrev pub IsRead : Option Page → ℕ → ℕ → ℕ → Type 0
IsRead o was at len = MatchOption o (number was ≡ no_number at) (λ page. number was ≡ number (number_at page.bytes (at % 4096) len))

pub swapped : (o : Option Page) (held new : Held) (op : SwapOp) (was value expected slot at len : ℕ) (bytes : List ℕ)
    → IsRead o was at len
    → has_outcome op was expected ≡ true
    → bytes ≡ bytes_of (outcome op was value) len
    → MatchOption o ((done ≡ not_done at) × (new ≡ held)) (λ _. (done ≡ done) × (new ≡ stored held slot at bytes))
    → MatchOption o ((number was ≡ no_number at) × (new ≡ held)) (λ page. let old = number_at page.bytes (at % 4096) len in (number was ≡ number old) × (new ≡ (if has_outcome op old expected then stored held slot at (bytes_of (outcome op old value) len) else held)))
swapped None held new op was value expected slot at len bytes read writes bytes_are wrote = absurd (cc)
swapped (Some page) held new op was value expected slot at len bytes read writes bytes_are wrote =
    let same : was ≡ number_at page.bytes (at % 4096) len = cc in
    (read, rw (← same) (rw writes (wrote.1 ∙ ap (stored held slot at) bytes_are)))
