-- What an exchange that writes leaves.
use Rattle.std.proofs.Common.{◌≡◌, ℕ, List, Option, None, true, subst}
use Rattle.page_store.specs.Pages.{Pages}
use Rattle.places.specs.Places.{bytes_of, number_of}
use Rattle.a64_model.specs.Swaps.{outcome, has_outcome}
use Rattle.a64_model.specs.declared.access.SwapOp.{SwapOp}
use Rattle.a64_model.specs.declared.access.Answer.TheVariants.{Bytes}
use Rattle.lx_memory.specs.Bytes.{bytes_at}
use Rattle.lx_machine.specs.Instruction.{filled, swapped, writes}
use Rattle.lx_instructions.specs.Accesses.{Has}
use Rattle.lx_instructions.specs.declared.access.Answered.{Answered as Told}

pub exchanged : (pages new : Pages) (told : Told) (mark : Option ℕ) (at len : ℕ) (op : SwapOp) (old value expected : ℕ) (stored answered : List ℕ)
    → old ≡ number_of (bytes_at pages at len)
    → has_outcome op old expected ≡ true
    → stored ≡ bytes_of (outcome op old value) len
    → answered ≡ filled (bytes_at pages at len)
    → Has new told (writes pages mark at stored (Bytes answered))
    → Has new told (swapped pages mark at len op value expected None)
exchanged pages new told mark at len op old value expected stored answered same has stored_is answered_is is =
    let here : Has new told (writes pages mark at (bytes_of (outcome op old value) len) (Bytes (filled (bytes_at pages at len)))) =
    subst (λ bytes. Has new told (writes pages mark at (bytes_of (outcome op old value) len) (Bytes bytes))) answered_is (subst (λ bytes. Has new told (writes pages mark at bytes (Bytes answered))) stored_is is) in
    rw (← same) (rw has here)
