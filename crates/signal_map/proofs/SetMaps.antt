-- What the two maps of sets do to each bit, from tests of the whole table of signals.
use Rattle.std.proofs.Common.{◌≡◌, ◌≢◌, ℕ, zero, suc, ◌*◌, ◌^◌, ◌<◌, ◌==◌, nat_lt, ◌∙◌, max, Bool, true, List, [], ◌∷◌, get_or, bit_or, refl, sym, ap, subst, arith, inl, inr}
use Rattle.std.specs.Prelude.{◌&&◌, not}
use Rattle.std.specs.Int.{bit_at}
use Rattle.std.specs.List.{list_all, AllByRecursion}
use Rattle.std.specs.Cmp.Derive.{both_true}
use Rattle.std.proofs.Math.Nat.{zero-max, max-zero}
use Rattle.std.proofs.lemmas.Bool.{and_parts, not-true, eqb-true, eqb-false, ne_eqb, ltb-true, cases_lt}
use Rattle.std.proofs.lemmas.Nat.{shl-shr, or_lt, pow_pos, pow_below}
use Rattle.std.proofs.lemmas.Nat.Bits.{bit_at_or, bit_at-lt, bit_at-zero, bit_at_above, bit_at-pow_other, same_from_bits}
use Rattle.std.proofs.lemmas.List.Elements.{All-from_recursion}
use Rattle.bsd_abi.specs.declared.signals.BsdSig.{BsdSig}
use Rattle.bsd_abi.specs.declared.signals.BsdSig.TheVariants.{SIGHUP}
use Rattle.linux_abi.specs.LinuxSig.{signal_number}
use Rattle.bsd_abi.specs.BsdSig.{linux_signal_number, bsd_bit, all_signals}
use Rattle.bsd_abi.proofs.SignalTable.{each_listed, each_signal, number-at}
use Rattle.signal_map.specs.Signals.{signal_out_of}
use Rattle.signal_map.specs.Sets.{linux_bit_of, moved_bits, set_in_of, set_out_of, MovesSignals}

-- a bit put to its place stands there
bit_at-put_same : (b k : ℕ) → b < 2 → bit_at (b * 2 ^ k) k ≡ b
bit_at-put_same b k small = rw (shl-shr b k) (omega arith)

-- and leaves each other place without one
bit_at-put_other : (b k i : ℕ) → b < 2 → i ≢ k → bit_at (b * 2 ^ k) i ≡ 0
bit_at-put_other zero k i small other = let none : 0 * 2 ^ k ≡ 0 = omega arith in rw none (bit_at-zero i)
bit_at-put_other (suc zero) k i small other = let one : 1 * 2 ^ k ≡ 2 ^ k = omega arith in rw one (bit_at-pow_other k i other)
bit_at-put_other (suc (suc b)) k i small other = absurd (omega arith)

-- whether none of these signals has its bit at k
abbrev pub is_free_of : (BsdSig → ℕ) → ℕ → List BsdSig → Bool
is_free_of to k signals = list_all (λ s. not (to s == k)) signals

-- whether no two of them have one bit
abbrev pub is_distinct : (BsdSig → ℕ) → List BsdSig → Bool
is_distinct to [] = true
is_distinct to (s ∷ signals) = is_free_of to (to s) signals && is_distinct to signals

-- what the test of one signal says
is_other : (to : BsdSig → ℕ) (s : BsdSig) (k : ℕ) → not (to s == k) ≡ true → k ≢ to s
is_other to s k passed = λ same. eqb-false (to s) k (not-true (to s == k) passed) (sym same)

-- a bit of none of the signals stays clear
moved_bits-free : (from to : BsdSig → ℕ) (signals : List BsdSig) (set k : ℕ) → is_free_of to k signals ≡ true
    → bit_at (moved_bits from to signals set) k ≡ 0
moved_bits-free from to [] set k free = bit_at-zero k
moved_bits-free from to (s ∷ signals) set k free =
    let parts = and_parts _ _ free in
    let here = bit_at-put_other (bit_at set (from s)) (to s) k (bit_at-lt set (from s)) (is_other to s k parts.0) in
    let rest = moved_bits-free from to signals set k parts.1 in
    bit_at_or _ _ k ∙ ap (λ n. max n (bit_at (moved_bits from to signals set) k)) here ∙ ap (λ n. max 0 n) rest

-- one more signal's bit changes none of the others'
named-more : (from to : BsdSig → ℕ) (set b k rest : ℕ) (signals : List BsdSig) → b < 2 → is_free_of to k signals ≡ true
    → AllByRecursion (λ s. bit_at rest (to s) ≡ bit_at set (from s)) signals
    → AllByRecursion (λ s. bit_at (bit_or (b * 2 ^ k) rest) (to s) ≡ bit_at set (from s)) signals
named-more from to set b k rest [] small free named = tt
named-more from to set b k rest (s ∷ signals) small free named =
    let parts = and_parts _ _ free in
    let here = bit_at-put_other b k (to s) small (λ same. is_other to s k parts.0 (sym same)) in (
      bit_at_or _ _ (to s) ∙ ap (λ n. max n (bit_at rest (to s))) here ∙ zero-max _ ∙ named.0,
      named-more from to set b k rest signals small parts.1 named.1,
    )

-- each signal's bit goes to its place, where no two have one
named-all : (from to : BsdSig → ℕ) (signals : List BsdSig) (set : ℕ) → is_distinct to signals ≡ true
    → AllByRecursion (λ s. bit_at (moved_bits from to signals set) (to s) ≡ bit_at set (from s)) signals
named-all from to [] set distinct = tt
named-all from to (s ∷ signals) set distinct =
    let parts = and_parts _ _ distinct in
    let b = bit_at set (from s) in
    let rest = moved_bits from to signals set in
    let small : b < 2 = bit_at-lt set (from s) in (
      bit_at_or _ _ (to s)
          ∙ ap (λ n. max n (bit_at rest (to s))) (bit_at-put_same b (to s) small)
          ∙ ap (λ n. max b n) (moved_bits-free from to signals set (to s) parts.0)
          ∙ max-zero _,
      named-more from to set b (to s) rest signals small parts.0 (named-all from to signals set parts.1),
    )

-- where no signal at all has its bit at k, none of the list has
is_free_of-none : (to : BsdSig → ℕ) (k : ℕ) (signals : List BsdSig) → ((s : BsdSig) → to s ≢ k)
    → is_free_of to k signals ≡ true
is_free_of-none to k [] none = refl
is_free_of-none to k (s ∷ signals) none = both_true (ap not (ne_eqb (to s) k (none s))) (is_free_of-none to k signals none)

-- so a map of sets does what it says, where no two signals have one bit
moved_bits-moves : (from to : BsdSig → ℕ) (set : ℕ) → is_distinct to all_signals ≡ true
    → MovesSignals from to set (moved_bits from to all_signals set)
moved_bits-moves from to set distinct =
    let Moved : BsdSig → Type 0 = λ s. bit_at (moved_bits from to all_signals set) (to s) ≡ bit_at set (from s) in
    record {
      each = each_listed Moved (All-from_recursion Moved all_signals (named-all from to all_signals set distinct));
      no_other = λ k none. moved_bits-free from to all_signals set k (is_free_of-none to k all_signals none);
    }

-- the table passes both tests
pub set_in-moves : (set : ℕ) → MovesSignals linux_bit_of bsd_bit set (set_in_of set)
unfolding set_in_of
set_in-moves set = moved_bits-moves linux_bit_of bsd_bit set refl

pub set_out-moves : (set : ℕ) → MovesSignals bsd_bit linux_bit_of set (set_out_of set)
unfolding set_out_of
set_out-moves set = moved_bits-moves bsd_bit linux_bit_of set refl

-- the signal at a place of the table of signals
abbrev pub at_place : ℕ → BsdSig
at_place k = get_or all_signals k SIGHUP

-- a signal has one number on Linux in both tables
pub signal_number-out : (s : BsdSig) → signal_number (signal_out_of s) ≡ linux_signal_number s
signal_number-out s = eqb-true _ _ (each_signal (λ t. signal_number (signal_out_of t) == linux_signal_number t) refl s)

pub linux_bit-at_place : (k : ℕ) → k < 64 → linux_bit_of (at_place k) ≡ k
linux_bit-at_place k within = omega (arith, number-at k SIGHUP within, signal_number-out (at_place k))

pub linux_bit_of-lt : (s : BsdSig) → linux_bit_of s < 64
linux_bit_of-lt s = ltb-true _ _ (each_signal (λ t. nat_lt (linux_bit_of t) 64) refl s)

pub bsd_bit-lt : (s : BsdSig) → bsd_bit s < 128
bsd_bit-lt s = ltb-true _ _ (each_signal (λ t. nat_lt (bsd_bit t) 128) refl s)

put-lt : (b k width : ℕ) → b < 2 → k < width → b * 2 ^ k < 2 ^ width
put-lt zero k width small below = omega (arith, pow_pos width)
put-lt (suc zero) k width small below = omega (arith, pow_below k width below)
put-lt (suc (suc b)) k width small below = absurd (omega arith)

-- a set lies below the power of two that all its bits lie below
moved_bits-lt : (from to : BsdSig → ℕ) (width : ℕ) → ((s : BsdSig) → to s < width)
    → (signals : List BsdSig) (set : ℕ) → moved_bits from to signals set < 2 ^ width
moved_bits-lt from to width below [] set = pow_pos width
moved_bits-lt from to width below (s ∷ signals) set =
    or_lt width _ _ (put-lt _ _ width (bit_at-lt set (from s)) (below s)) (moved_bits-lt from to width below signals set)

pub set_out-lt : (set : ℕ) → set_out_of set < 2 ^ 64
unfolding set_out_of
set_out-lt set = moved_bits-lt bsd_bit linux_bit_of 64 linux_bit_of-lt all_signals set

-- a Linux set leads back to itself
pub set_out-in : (set : ℕ) → set < 2 ^ 64 → set_out_of (set_in_of set) ≡ set
set_out-in set small = same_from_bits _ _ (λ k. elim (cases_lt k 64) [
  | inl within ↦
      let s = at_place k in
      let Same : ℕ → Type 0 = λ j. bit_at (set_out_of (set_in_of set)) j ≡ bit_at set j in
      subst Same (linux_bit-at_place k within) ((set_out-moves (set_in_of set)).each s ∙ (set_in-moves set).each s)
  | inr above ↦
      (set_out-moves (set_in_of set)).no_other k (λ s same. absurd (omega (arith, linux_bit_of-lt s)))
      ∙ sym (bit_at_above set 64 k small above)
])
