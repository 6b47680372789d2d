use Rattle.std.proofs.Common.{◌≡◌, ℕ, ◌≤◌, take, true, sym, ap, ◌∙◌, subst, arith}
use Rattle.places.specs.Places.{bytes_of}
use Rattle.places.proofs.Numbers.{take-bytes_of, bytes_of-mod}
use Rattle.page_store.specs.Pages.{Keeping, page_for, writes}
use Rattle.a64_model.specs.Swaps.{outcome, has_outcome}
use Rattle.guest_mem.proofs.Swapped.{swapped, IsRead}
use Rattle.guest_mem.proofs.shard.Shard.swap_with.Goals as goal

pub returns-in_ok-store-clause-after : goal.returns-in_ok-store-clause-after
returns-in_ok-store-clause-after c =
    let was = c.in_ok-was.was' in
    let op = c.args.op in
    let value = c.args.value in
    let len = c.args.len in
    let short : len ≤ 8 = grind (arith, c.requires.len) in
    let has : has_outcome op was c.args.expected ≡ true = sym c.has_outcome_of.ensures ∙ c.if-has_outcome_of.true in
    let bytes_are : take len c.to_le_bytes-bytes.result ≡ bytes_of (outcome op was value) len =
    ap (take len) c.to_le_bytes-bytes.ensures
    ∙ take-bytes_of c.outcome_of.result 8 len short
    ∙ ap (λ (n : ℕ). bytes_of n len) c.outcome_of.ensures
    ∙ bytes_of-mod 8 len (outcome op was value) short in
    let page = page_for writes c.args.self.now.pages c.args.at in
    let read : IsRead page was c.args.at len =
    rw (← c.self.view_is) (subst (λ (k : Keeping). IsRead (page_for writes k.pages c.args.at) was c.args.at len) c.deref.ensures c.in_ok-was.ensures) in
    swapped page _ _ op was value c.args.expected c.args.slot c.args.at len _ read has bytes_are c.in_ok-store.ensures.after
