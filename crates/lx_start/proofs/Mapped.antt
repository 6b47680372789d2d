-- Pages that are mapped, and stay so at a store.
use Rattle.std.proofs.Common.{◌≡◌, ℕ, ◌+◌, ◌*◌, ◌/◌, ◌%◌, ◌<◌, ◌≤◌, true, List, [], ◌∷◌, Option, Some, None, IsSome, arith, refl, ap, subst, sym, inl, inr}
use Rattle.std.proofs.lemmas.Bool.{cases_eq}
use Rattle.std.proofs.lemmas.Grind.{common_steps}
use Rattle.std.specs.FinMap as finite
use Rattle.page_ranges.specs.declared.rights.Rights.{Rights}
use Rattle.page_ranges.specs.Ranges.{within}
use Rattle.page_store.specs.Pages.{Page, Pages, changed}
use Rattle.page_store.proofs.Changed.{changed_kept, changed_none}
use Rattle.lx_memory.specs.Bytes.{IsMapped, with_byte_in, with_byte, with_bytes}
use Rattle.lx_memory.specs.Ranges.{IsOnEach, anew}
use Rattle.lx_memory.proofs.OnEach.{get-with_page_same, get-with_page_other}

within_is : (first count page : ℕ) → first ≤ page → page < first + count → within first count page ≡ true
within_is first count page low high = grind (arith, common_steps)

-- a range of pages that are mapped anew
pub mapped_anew : (rights : Rights) (old new : Pages) (first count at len : ℕ) → IsOnEach (anew rights) old first count new → 4096 * first ≤ at → at + len ≤ 4096 * (first + count) → IsMapped new at len
mapped_anew rights old new first count at len each low high address from below =
    let yes : within first count (address / 4096) ≡ true = within_is first count (address / 4096) (omega arith) (omega arith) in
    let here = each (address / 4096) in
    grind (arith, here, yes)

changed_there : (o : Option Page) (pages : Pages) (n q : ℕ) (change : Page → Page) → finite.get pages n ≡ o → IsSome (finite.get pages q) → IsSome (finite.get (changed pages n change) q)
changed_there None pages n q change missing there = subst (λ (ps : Pages). IsSome (finite.get ps q)) (sym (changed_none pages n change missing)) there
changed_there (Some p) pages n q change kept there =
    let is = ap (λ (ps : Pages). finite.get ps q) (changed_kept pages n p change kept) in
    elim (cases_eq q n) [
      | inl same ↦ let put = get-with_page_same pages n (Some (change p)) q same in grind (arith, is, put)
      | inr other ↦ let left = get-with_page_other pages n (Some (change p)) q other in grind (arith, is, left, there)
    ]

-- pages that are mapped stay so where bytes are stored
pub mapped_stays : (bytes : List ℕ) (pages : Pages) (stored at len : ℕ) → IsMapped pages at len → IsMapped (with_bytes pages stored bytes) at len
unfolding with_bytes
mapped_stays [] pages stored at len there = there
mapped_stays (b ∷ bs) pages stored at len there =
    mapped_stays bs (with_byte pages stored b) (stored + 1) at len (λ address from below. changed_there (finite.get pages (stored / 4096)) pages (stored / 4096) (address / 4096) (with_byte_in (stored % 4096) b) refl (there address from below))
