-- The turns of the loops that make a set.
use Rattle.std.proofs.Common.{◌≡◌, ◌≢◌, ℕ, zero, suc, ◌+◌, ◌*◌, ◌^◌, ◌<◌, ◌≤◌, ◌∙◌, List, length, get_or, drop, bit_and, bit_or, refl, sym, ap, arith, add-one, drop-cons}
use Rattle.std.specs.Int.{bit_at}
use Rattle.std.specs.Int.Bits.{or_zero_r}
use Rattle.std.proofs.lemmas.List.{drop_all}
use Rattle.std.proofs.lemmas.Nat.{pow_pos}
use Rattle.std.proofs.lemmas.Nat.Bits.{and_pow, bit_at-lt}
use Rattle.bsd_abi.proofs.Bits.{or_assoc}
use Rattle.bsd_abi.specs.declared.signals.BsdSig.{BsdSig}
use Rattle.signal_map.specs.Sets.{moved_bits}

-- a bit that the mask finds is 1
bit_found : (b k : ℕ) → b < 2 → b * 2 ^ k ≢ 0 → b ≡ 1
bit_found zero k small found = absurd (found (omega arith))
bit_found (suc zero) k small found = refl
bit_found (suc (suc b)) k small found = absurd (omega arith)

-- and one that it doesn't find is 0
bit_lacking : (b k : ℕ) → b < 2 → b * 2 ^ k ≡ 0 → b ≡ 0
bit_lacking zero k small lacking = refl
bit_lacking (suc b) k small lacking = absurd (omega (arith, pow_pos k))

-- the mask of the other set is that bit, put to its place
pub put_found : (old k j mask given : ℕ) → mask ≡ 2 ^ k → bit_and old mask ≢ 0 → given ≡ 2 ^ j
    → given ≡ bit_at old k * 2 ^ j
put_found old k j mask given mask_is found given_is =
    let masked : bit_and old mask ≡ bit_at old k * 2 ^ k = ap (bit_and old) mask_is ∙ and_pow old k in
    let b_is : bit_at old k ≡ 1 = bit_found (bit_at old k) k (bit_at-lt old k) (λ none. found (masked ∙ none)) in
    let one : 1 * 2 ^ j ≡ 2 ^ j = omega arith in
    given_is ∙ sym one ∙ sym (ap (λ b. b * 2 ^ j) b_is)

pub put_lacking : (old k j mask : ℕ) → mask ≡ 2 ^ k → bit_and old mask ≡ 0 → bit_at old k * 2 ^ j ≡ 0
put_lacking old k j mask mask_is lacking =
    let masked : bit_and old mask ≡ bit_at old k * 2 ^ k = ap (bit_and old) mask_is ∙ and_pow old k in
    let b_is : bit_at old k ≡ 0 = bit_lacking (bit_at old k) k (bit_at-lt old k) (sym masked ∙ lacking) in
    let none : 0 * 2 ^ j ≡ 0 = omega arith in
    ap (λ b. b * 2 ^ j) b_is ∙ none

-- a turn at the signal at place i keeps the invariant
pub turn : (from to : BsdSig → ℕ) (signals : List BsdSig) (old i : ℕ) (d : BsdSig) (made next : ℕ) → i < length signals
    → next ≡ bit_or made (bit_at old (from (get_or signals i d)) * 2 ^ to (get_or signals i d))
    → bit_or made (moved_bits from to (drop i signals) old) ≡ moved_bits from to signals old
    → bit_or next (moved_bits from to (drop (i + 1) signals) old) ≡ moved_bits from to signals old
turn from to signals old i d made next within next_is so_far =
    let s = get_or signals i d in
    let rest = moved_bits from to (drop (suc i) signals) old in
    rw add-one (ap (λ n. bit_or n rest) next_is
    ∙ or_assoc made (bit_at old (from s) * 2 ^ to s) rest
    ∙ ap (λ left. bit_or made (moved_bits from to left old)) (sym (drop-cons signals i d within))
    ∙ so_far)

-- and behind the last the set is made
pub made_whole : (from to : BsdSig → ℕ) (signals : List BsdSig) (old i made : ℕ) → length signals ≤ i
    → bit_or made (moved_bits from to (drop i signals) old) ≡ moved_bits from to signals old
    → made ≡ moved_bits from to signals old
made_whole from to signals old i made end so_far =
    sym (or_zero_r made) ∙ ap (λ rest. bit_or made (moved_bits from to rest old)) (sym (drop_all i signals end)) ∙ so_far
