-- What the maps of sets do to single signals, unions, intersections and differences, for proofs above.
use Rattle.std.proofs.Common.{◌≡◌, ℕ, min, max, ◌-◌, ◌^◌, ◌<◌, ◌≤◌, ◌==◌, if◌then◌else◌, ◌∙◌, inl, inr, Bool, true, false, bit_and, bit_or, refl, sym, ap, subst, arith}
use Rattle.std.specs.Int.{bit_at, bit_not, w64, w128}
use Rattle.std.specs.List.{list_all}
use mathlib.Core.Bool.{beq}
use Rattle.std.proofs.lemmas.Bool.{cases_lt, eqb-true, eqb-false}
use Rattle.std.proofs.lemmas.Nat.Bits.{bit_at_or, bit_at_and, bit_at_not, bit_at-pow_same, bit_at-pow_other, same_from_bits}
use Rattle.linux_abi.specs.declared.signals.LinuxSig.{LinuxSig}
use Rattle.linux_abi.specs.LinuxSig.{linux_bit}
use Rattle.bsd_abi.specs.declared.signals.BsdSig.{BsdSig}
use Rattle.linux_abi.specs.declared.signals.TheConstants as linux_signals
use Rattle.bsd_abi.specs.BsdSig.{bsd_bit, all_signals}
use Rattle.bsd_abi.specs.declared.signals.TheConstants as bsd_signals
use Rattle.bsd_abi.proofs.SignalTable.{each_signal}
use Rattle.signal_map.specs.Signals.{signal_in_of, signal_out_of}
use Rattle.signal_map.specs.Sets.{linux_bit_of, set_in_of, set_out_of}
use Rattle.signal_map.proofs.SignalMaps.{signal_out_of-in, signal_in_of-out}
use Rattle.signal_map.proofs.SetMaps.{at_place, linux_bit-at_place, linux_bit_of-lt, bsd_bit-lt, set_in-moves, set_out-moves, set_out-lt, set_out-in}

-- a Linux signal is in a Linux set exactly where its FreeBSD signal is in the FreeBSD set
pub bit_at-set_in : (set : ℕ) (s : LinuxSig) → bit_at (set_in_of set) (bsd_bit (signal_in_of s)) ≡ bit_at set (linux_bit s)
bit_at-set_in set s = (set_in-moves set).each (signal_in_of s) ∙ ap (λ t. bit_at set (linux_bit t)) (signal_out_of-in s)

-- a FreeBSD signal is in a FreeBSD set exactly where its Linux signal is in the Linux set
pub bit_at-set_out : (set : ℕ) (s : BsdSig) → bit_at (set_out_of set) (linux_bit (signal_out_of s)) ≡ bit_at set (bsd_bit s)
bit_at-set_out set s = (set_out-moves set).each s

-- a Linux set has no bit from 64 on
pub set_out-above : (set k : ℕ) → 64 ≤ k → bit_at (set_out_of set) k ≡ 0
set_out-above set k above = (set_out-moves set).no_other k (λ s same. absurd (omega (arith, linux_bit_of-lt s)))

-- the Linux set of a FreeBSD set is the one with the same signals
pub set_out-by_signals : (set linux : ℕ) → ((k : ℕ) → 64 ≤ k → bit_at linux k ≡ 0)
    → ((s : BsdSig) → bit_at linux (linux_bit_of s) ≡ bit_at set (bsd_bit s)) → set_out_of set ≡ linux
set_out-by_signals set linux small same = same_from_bits _ _ (λ k. elim (cases_lt k 64) [
  | inl within ↦
      let Same : ℕ → Type 0 = λ j. bit_at (set_out_of set) j ≡ bit_at linux j in
      subst Same (linux_bit-at_place k within) (bit_at-set_out set (at_place k) ∙ sym (same (at_place k)))
  | inr above ↦ set_out-above set k above ∙ sym (small k above)
])

-- the union of two sets
pub set_out-or : (a b : ℕ) → set_out_of (bit_or a b) ≡ bit_or (set_out_of a) (set_out_of b)
set_out-or a b = set_out-by_signals _ _
    (λ k above. bit_at_or _ _ k ∙ ap (λ n. max n (bit_at (set_out_of b) k)) (set_out-above a k above)
    ∙ ap (max 0) (set_out-above b k above))
    (λ s. bit_at_or _ _ (linux_bit_of s)
    ∙ ap (λ n. max n (bit_at (set_out_of b) (linux_bit_of s))) (bit_at-set_out a s)
    ∙ ap (max (bit_at a (bsd_bit s))) (bit_at-set_out b s)
    ∙ sym (bit_at_or a b (bsd_bit s)))

-- what two sets have in common
pub set_out-and : (a b : ℕ) → set_out_of (bit_and a b) ≡ bit_and (set_out_of a) (set_out_of b)
set_out-and a b = set_out-by_signals _ _
    (λ k above. bit_at_and _ _ k ∙ ap (λ n. min n (bit_at (set_out_of b) k)) (set_out-above a k above)
    ∙ ap (min 0) (set_out-above b k above))
    (λ s. bit_at_and _ _ (linux_bit_of s)
    ∙ ap (λ n. min n (bit_at (set_out_of b) (linux_bit_of s))) (bit_at-set_out a s)
    ∙ ap (min (bit_at a (bsd_bit s))) (bit_at-set_out b s)
    ∙ sym (bit_at_and a b (bsd_bit s)))

-- a set without the signals of another
pub set_out-without : (a b : ℕ) → b < 2 ^ 128
    → set_out_of (bit_and a (bit_not w128 b)) ≡ bit_and (set_out_of a) (bit_not w64 (set_out_of b))
set_out-without a b small = set_out-by_signals _ _
    (λ k above. bit_at_and _ _ k ∙ ap (λ n. min n (bit_at (bit_not w64 (set_out_of b)) k)) (set_out-above a k above)
    ∙ omega arith)
    (λ s. bit_at_and _ _ (linux_bit_of s)
    ∙ ap (min (bit_at (set_out_of a) (linux_bit_of s)))
    (bit_at_not w64 (set_out_of b) (linux_bit_of s) (set_out-lt b) (linux_bit_of-lt s))
    ∙ ap (λ n. min n (1 - bit_at (set_out_of b) (linux_bit_of s))) (bit_at-set_out a s)
    ∙ ap (λ n. min (bit_at a (bsd_bit s)) (1 - n)) (bit_at-set_out b s)
    ∙ sym (ap (min (bit_at a (bsd_bit s))) (bit_at_not w128 b (bsd_bit s) small (bsd_bit-lt s)))
    ∙ sym (bit_at_and a (bit_not w128 b) (bsd_bit s)))

-- the bit of a power of two
bit_at-pow_where : (k i : ℕ) (same : Bool) → (k == i) ≡ same → bit_at (2 ^ k) i ≡ (if same then 1 else 0)
bit_at-pow_where k i true is = subst (λ (j : ℕ). bit_at (2 ^ k) j ≡ 1) (eqb-true k i is) (bit_at-pow_same k)
bit_at-pow_where k i false is = bit_at-pow_other k i (λ same. eqb-false k i is (sym same))

bit_at-pow : (k i : ℕ) → bit_at (2 ^ k) i ≡ (if k == i then 1 else 0)
bit_at-pow k i = bit_at-pow_where k i (k == i) refl

beq-true : (x y : Bool) → beq x y ≡ true → x ≡ y
beq-true true true is = refl
beq-true true false is = sym is
beq-true false true is = is
beq-true false false is = refl

-- two signals have one bit on Linux exactly where they have one on FreeBSD
same_bit : (s t : BsdSig) → (linux_bit_of s == linux_bit_of t) ≡ (bsd_bit s == bsd_bit t)
same_bit s t =
    let agree : BsdSig → BsdSig → Bool = λ p q. beq (linux_bit_of p == linux_bit_of q) (bsd_bit p == bsd_bit q) in
    beq-true _ _ (each_signal (agree s) (each_signal (λ p. list_all (agree p) all_signals) refl s) t)

-- the set with one signal alone
pub set_out-bit : (s : BsdSig) → set_out_of (2 ^ bsd_bit s) ≡ 2 ^ linux_bit_of s
set_out-bit s = set_out-by_signals _ _
    (λ k above. bit_at-pow_other (linux_bit_of s) k (λ same. absurd (omega (arith, linux_bit_of-lt s))))
    (λ t. bit_at-pow (linux_bit_of s) (linux_bit_of t)
    ∙ ap (λ same. if same then 1 else 0) (same_bit s t)
    ∙ sym (bit_at-pow (bsd_bit s) (bsd_bit t)))

-- the signals that are never blocked
pub set_in-unblockable : set_in_of linux_signals.UNBLOCKABLE ≡ bsd_signals.UNBLOCKABLE
unfolding set_in_of
set_in-unblockable = refl

pub set_out-unblockable : set_out_of bsd_signals.UNBLOCKABLE ≡ linux_signals.UNBLOCKABLE
unfolding set_out_of
set_out-unblockable = refl

-- the laws together, to be named on a function above
pub ruleset set_laws = (set_out-or, set_out-and, set_out-without, set_out-bit, set_out-in, set_in-unblockable, set_out-unblockable, bit_at-set_in, bit_at-set_out, signal_out_of-in, signal_in_of-out)
