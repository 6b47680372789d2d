-- The first byte that lacks a right is what first_lacking finds.
use Rattle.std.proofs.Common.{◌≡◌, ℕ, zero, suc, ◌+◌, ◌%◌, ◌^◌, ◌<◌, ◌≤◌, Bool, true, false, ◌||◌, not, nat_le, Option, Some, None, option_map, IsSomeAnd, IsTrue, if◌then◌else◌, refl, sym, ◌∙◌, ap, arith}
use Rattle.std.specs.FinMap as map
use Rattle.std.proofs.lemmas.Bool.Decides.{nat_tests}
use Rattle.places.specs.Places as place
use Rattle.places.specs.Allowed.{Allowed}
use Rattle.page_ranges.specs.declared.rights.Rights.{Rights}
use Rattle.page_store.specs.Pages.{Page, Pages}
use Rattle.lx_memory.specs.Access.{allows, has, lacks, rights_of, IsFirstWithout, IsFirstLacking}
use Rattle.lx_memory.specs.declared.right.Right.{Right}
use Rattle.lx_memory.specs.Queries.{first_lacking}

-- a byte that lacks nothing
has_from : (o : Option Page) (right : Rights → Bool) → IsSomeAnd (option_map (λ p. p.rights) o) (λ r. IsTrue (right r)) → has right o ≡ true
has_from None right h = absurd h
has_from (Some page) right h = h

not_lacking : (address : ℕ) (b : Bool) → address < 2 ^ 64 → b ≡ true → (nat_le (2 ^ 64) address || not b) ≡ false
not_lacking address b h k = grind (arith, nat_tests)

nothing_lacks : (pages : Pages) (right : Rights → Bool) (at len : ℕ) → Allowed (rights_of pages) at len right → (address : ℕ) → at ≤ address → address < at + len → lacks pages right address ≡ false
nothing_lacks pages right at len h address low high =
    let space : at + len ≤ 2 ^ 64 = h.in_space in
    not_lacking address (has right (map.get pages (place.page address))) (omega arith) (has_from (map.get pages (place.page address)) right (h.mapped address low high))

-- the first byte, or what is found behind it
abbrev tried : Bool → Option ℕ → Option ℕ → Option ℕ
tried lacking here found = if lacking then here else found

none_step : (lacking : Bool) (here found : Option ℕ) → lacking ≡ false → found ≡ None → tried lacking here found ≡ None
none_step lacking here found h e = grind arith

none_lacks : (right : Right) (pages : Pages) (at len : ℕ) → ((address : ℕ) → at ≤ address → address < at + len → lacks pages (allows right) address ≡ false) → first_lacking right pages at len ≡ None
none_lacks right pages at zero h = refl
none_lacks right pages at (suc len) h =
    none_step (lacks pages (allows right) at) (Some (at % 2 ^ 64)) (first_lacking right pages (suc at) len) (h at (omega arith) (omega arith))
    (none_lacks right pages (suc at) len (λ address low high. h address (omega arith) (omega arith)))

-- the first byte lacks the right
here_step : (b : Bool) (at first : ℕ) (here found : Option ℕ) → at ≤ first → (at < first → b ≡ false) → (first ≡ at → b ≡ true) → (first ≡ at → here ≡ Some (first % 2 ^ 64)) → (at < first → found ≡ Some (first % 2 ^ 64)) → tried b here found ≡ Some (first % 2 ^ 64)
here_step b at first here found low before lacking e next = grind arith

one_lacks : (right : Right) (pages : Pages) (at len first : ℕ) → IsFirstWithout pages (allows right) at len first → first_lacking right pages at len ≡ Some (first % 2 ^ 64)
one_lacks right pages at zero first h =
    let low : at ≤ first = h.from in
    let high : first < at + zero = h.below in
    absurd (omega arith)
one_lacks right pages at (suc len) first h =
    let low : at ≤ first = h.from in
    let high : first < at + suc len = h.below in
    here_step (lacks pages (allows right) at) at first (Some (at % 2 ^ 64)) (first_lacking right pages (suc at) len) low
    (λ less. h.before at (omega arith) less)
    (λ e. ap (λ a. lacks pages (allows right) a) (sym e) ∙ h.lacking)
    (λ e. ap {B = Option ℕ} (λ a. Some (a % 2 ^ 64)) (sym e))
    (λ less. one_lacks right pages (suc at) len first (record { from = omega arith; below = omega arith; lacking = h.lacking; before = λ address from below. h.before address (omega arith) below }))

pub same_first_lacking : (r : Option ℕ) (right : Right) (pages : Pages) (at len : ℕ) → IsFirstLacking pages (allows right) at len r → r ≡ first_lacking right pages at len
same_first_lacking None right pages at len h = sym (none_lacks right pages at len (nothing_lacks pages (allows right) at len h))
same_first_lacking (Some address) right pages at len (first, without, e) =
    ap {B = Option ℕ} (λ a. Some a) e ∙ sym (one_lacks right pages at len first without)
