-- Signals that are pending: what is found, taken, sent and forgotten in a list is so in its image.
use Rattle.std.proofs.Common.{◌≡◌, ℕ, ◌+◌, ◌^◌, Bool, true, false, not, ◌&&◌, ◌==◌, List, [], ◌∷◌, map, Option, Some, None, option_map, is_some, if◌then◌else◌, nat_le, nat_lt, bit_or, refl, sym, ap, ◌∙◌, subst, arith, ◌⊎◌, inl, inr}
use Rattle.std.specs.List.{fold, list_any}
use Rattle.std.proofs.lemmas.Bool.{eqb-true}
use Rattle.std.proofs.lemmas.Bool.Decides.{nat_tests}
use Rattle.std.specs.Int.Bits.{or_zero_l, or_zero_r}
use Rattle.bsd_abi.specs.declared.signals.BsdSig.{BsdSig}
use Rattle.bsd_abi.specs.BsdSig as bsd_sig
use Rattle.bsd_abi.specs.BsdSig.{all_signals, linux_signal_number, place_of}
use Rattle.bsd_abi.proofs.Bits.{or_assoc}
use Rattle.bsd_abi.proofs.SignalTable.{each_signal}
use Rattle.linux_abi.specs.LinuxSig.{signal_number}
use Rattle.linux_abi.specs.LinuxSig as linux_sig
use Rattle.signal_map.specs.Signals.{signal_out_of}
use Rattle.signal_map.specs.Sets.{set_out_of}
use Rattle.signal_map.proofs.SetLaws.{bit_at-set_out, set_out-bit, set_out-or}
use Rattle.signal_map.proofs.SetMaps.{signal_number-out}
use Rattle.lx_machine.specs.Signal as lx
use Rattle.lx_machine.specs.declared.signals.SigInfo.{SigInfo}
use Rattle.lx_machine.proofs.Differ.{any_mapped}
use Rattle.bsd_proc.specs.Signals as bsd
use Rattle.bsd_proc.specs.Slots.{ProcessState, own_pending}
use Rattle.bsd_proc.specs.Taking.{choice, chosen, first_ready, is_before, may_take, pending_for}
use Rattle.bsd_proc.specs.declared.signals.Signal.{Signal}
use Rattle.bsd_proc.specs.declared.signals.Target.{Target}
use Rattle.bsd_proc.specs.declared.signals.Target.TheVariants.{All, One}
use Rattle.bsd_proc.proofs.Lowest.{may_take-first, some-unblocked, taken-there}
use Rattle.bsd_proc.proofs.SignalPlaces.{same_place}
use Rattle.threads_stand.specs.Numbers.{linux_info, linux_list}
use Rattle.threads_stand.proofs.Mapped.{cut_first, filter_mapped, find_mapped, fold_mapped}

-- ---- one signal

place_number : (s : BsdSig) → linux_signal_number s ≡ place_of s + 1
place_number s = eqb-true _ _ (each_signal (λ t. linux_signal_number t == place_of t + 1) refl s)

-- its number is one more than its place
pub number_image : (s : BsdSig) → signal_number (signal_out_of s) ≡ place_of s + 1
number_image s = signal_number-out s ∙ place_number s

same_next : (a b : ℕ) → (a + 1 == b + 1) ≡ (a == b)
same_next a b = grind (arith, nat_tests)

below_next : (a b : ℕ) → nat_lt (a + 1) (b + 1) ≡ nat_lt a b
below_next a b = grind (arith, nat_tests)

same_image : (s t : BsdSig) → (signal_number (signal_out_of s) == signal_number (signal_out_of t)) ≡ (place_of s == place_of t)
same_image s t =
    ap (λ (n : ℕ). n == signal_number (signal_out_of t)) (number_image s) ∙ ap (λ (n : ℕ). place_of s + 1 == n) (number_image t)
    ∙ same_next (place_of s) (place_of t)

below_image : (s t : BsdSig) → nat_lt (signal_number (signal_out_of s)) (signal_number (signal_out_of t)) ≡ nat_lt (place_of s) (place_of t)
below_image s t =
    ap (λ (n : ℕ). nat_lt n (signal_number (signal_out_of t))) (number_image s) ∙ ap (λ (n : ℕ). nat_lt (place_of s + 1) n) (number_image t)
    ∙ below_next (place_of s) (place_of t)

pub is_of_image : (sig : BsdSig) (x : Signal) → lx.is_of (signal_out_of sig) (linux_info x) ≡ bsd.is_of sig x
is_of_image sig x = same_image x.sig sig

pub real_time_image : (s : BsdSig) → linux_sig.is_real_time (signal_out_of s) ≡ bsd_sig.is_real_time s
real_time_image s = ap (λ (n : ℕ). nat_le 32 n) (signal_number-out s)

abbrev agree : Bool → Bool → Bool
agree true b = b
agree false b = not b

agree_is : (a b : Bool) → agree a b ≡ true → a ≡ b
agree_is true b h = sym h
agree_is false true h = h
agree_is false false h = refl

-- whether its default action drops it
pub dropped_image : (s : BsdSig) → linux_sig.is_dropped_by_default (signal_out_of s) ≡ bsd_sig.is_dropped_by_default s
dropped_image s =
    agree_is _ _ (each_signal (λ t. agree (linux_sig.is_dropped_by_default (signal_out_of t)) (bsd_sig.is_dropped_by_default t)) refl s)

-- whether a set has it
pub has_signal_image : (set : ℕ) (s : BsdSig) → lx.has_signal (set_out_of set) (signal_out_of s) ≡ bsd.has_signal set s
has_signal_image set s = ap (λ (b : ℕ). b == 1) (bit_at-set_out set s)

-- ---- what is in a list

pub there_image : (sig : BsdSig) (xs : List Signal)
    → list_any (lx.is_of (signal_out_of sig)) (map linux_info xs) ≡ list_any (bsd.is_of sig) xs
there_image sig xs = any_mapped linux_info (lx.is_of (signal_out_of sig)) (bsd.is_of sig) (is_of_image sig) xs

-- the first of its kind
pub first_image : (sig : BsdSig) (xs : List Signal)
    → lx.first_info (signal_out_of sig) (map linux_info xs) ≡ option_map linux_info (bsd.first_of sig xs)
first_image sig xs = find_mapped linux_info (lx.is_of (signal_out_of sig)) (bsd.is_of sig) (is_of_image sig) xs

-- the list without it
pub without_image : (sig : BsdSig) (xs : List Signal)
    → lx.without_signal (signal_out_of sig) (map linux_info xs) ≡ map linux_info (bsd.without sig xs)
without_image sig [] = refl
without_image sig (x ∷ xs) =
    cut_first (lx.is_of (signal_out_of sig)) (linux_info x) (map linux_info xs)
    ∙ by (lx.is_of (signal_out_of sig) (linux_info x)) (bsd.is_of sig x) (is_of_image sig x) (without_image sig xs)
  where
    by : (b c : Bool) → b ≡ c → lx.without_signal (signal_out_of sig) (map linux_info xs) ≡ map linux_info (bsd.without sig xs)
        → (if b then map linux_info xs else (linux_info x ∷ lx.without_signal (signal_out_of sig) (map linux_info xs)))
        ≡ map linux_info (if c then xs else (x ∷ bsd.without sig xs))
    by true true h next = refl
    by false false h next = ap (λ (l : List SigInfo). linux_info x ∷ l) next
    by true false h next = absurd (cc)
    by false true h next = absurd (cc)

-- and without any of its kind
pub without_all_image : (sig : BsdSig) (xs : List Signal)
    → lx.without_all (signal_out_of sig) (map linux_info xs) ≡ map linux_info (bsd.without_all sig xs)
without_all_image sig xs =
    filter_mapped linux_info (λ info. not (lx.is_of (signal_out_of sig) info)) (λ x. not (bsd.is_of sig x)) (λ x. ap not (is_of_image sig x)) xs

pub real_time_count_image : (xs : List Signal) → lx.real_time_count (map linux_info xs) ≡ bsd.real_time_count xs
real_time_count_image xs =
    fold_mapped linux_info (λ (n : ℕ) info. n + (if linux_sig.is_real_time info.signal then 1 else 0)) (λ n x. n + (if bsd_sig.is_real_time x.sig then 1 else 0))
    (λ n x. ap (λ (b : Bool). n + (if b then 1 else 0)) (real_time_image x.sig)) xs 0

-- the set of its signals
no_bits : set_out_of 0 ≡ 0
unfolding set_out_of
no_bits = refl

set_from : (xs : List Signal) (set : ℕ) → fold lx.with_bit set (map linux_info xs) ≡ bit_or set (set_out_of (bsd.set_of xs))
set_from [] set = sym (or_zero_r set) ∙ ap (λ (n : ℕ). bit_or set n) (sym no_bits)
set_from (x ∷ xs) set =
    set_from xs (lx.with_bit set (linux_info x))
    ∙ or_assoc set (2 ^ linux_sig.linux_bit (signal_out_of x.sig)) (set_out_of (bsd.set_of xs))
    ∙ ap (λ (n : ℕ). bit_or set (bit_or n (set_out_of (bsd.set_of xs)))) (sym (set_out-bit x.sig))
    ∙ ap (λ (n : ℕ). bit_or set n) (sym (set_out-or (2 ^ bsd_sig.bsd_bit x.sig) (bsd.set_of xs)))

pub set_of_image : (xs : List Signal) → lx.set_of (map linux_info xs) ≡ set_out_of (bsd.set_of xs)
set_of_image xs = set_from xs 0 ∙ or_zero_l (set_out_of (bsd.set_of xs))

-- ---- what may be taken

pub has_unblocked_image : (mask : ℕ) (xs : List Signal) → lx.has_unblocked (set_out_of mask) (map linux_info xs) ≡ bsd.has_unblocked mask xs
has_unblocked_image mask xs =
    any_mapped linux_info (λ info. not (lx.has_signal (set_out_of mask) info.signal)) (λ x. not (bsd.has_signal mask x.sig)) (λ x. ap not (has_signal_image mask x.sig)) xs

before_here : (mask : ℕ) (sig : BsdSig) (x : Signal)
    → lx.is_before (set_out_of mask) (signal_out_of sig) (linux_info x) ≡ is_before mask sig x
before_here mask sig x =
    ap (λ (b : Bool). b && nat_lt (signal_number (signal_out_of x.sig)) (signal_number (signal_out_of sig)) && not (lx.has_signal (set_out_of mask) (signal_out_of x.sig))) (real_time_image x.sig)
    ∙ ap (λ (b : Bool). bsd_sig.is_real_time x.sig && b && not (lx.has_signal (set_out_of mask) (signal_out_of x.sig)))
    (below_image x.sig sig)
    ∙ ap (λ (b : Bool). bsd_sig.is_real_time x.sig && nat_lt (place_of x.sig) (place_of sig) && not b) (has_signal_image mask x.sig)

before_image : (mask : ℕ) (sig : BsdSig) (xs : List Signal)
    → list_any (lx.is_before (set_out_of mask) (signal_out_of sig)) (map linux_info xs) ≡ list_any (is_before mask sig) xs
before_image mask sig xs =
    any_mapped linux_info (lx.is_before (set_out_of mask) (signal_out_of sig)) (is_before mask sig) (before_here mask sig) xs

pub may_take_image : (mask : ℕ) (xs : List Signal) (sig : BsdSig)
    → lx.may_take (set_out_of mask) (map linux_info xs) (signal_out_of sig) ≡ may_take mask xs sig
may_take_image mask xs sig =
    ap (λ (b : Bool). b && not (lx.has_signal (set_out_of mask) (signal_out_of sig)) && not (linux_sig.is_real_time (signal_out_of sig) && list_any (lx.is_before (set_out_of mask) (signal_out_of sig)) (map linux_info xs))) (there_image sig xs)
    ∙ ap (λ (b : Bool). list_any (bsd.is_of sig) xs && not b && not (linux_sig.is_real_time (signal_out_of sig) && list_any (lx.is_before (set_out_of mask) (signal_out_of sig)) (map linux_info xs))) (has_signal_image mask sig)
    ∙ ap (λ (b : Bool). list_any (bsd.is_of sig) xs && not (bsd.has_signal mask sig) && not (b && list_any (lx.is_before (set_out_of mask) (signal_out_of sig)) (map linux_info xs))) (real_time_image sig)
    ∙ ap (λ (b : Bool). list_any (bsd.is_of sig) xs && not (bsd.has_signal mask sig) && not (bsd_sig.is_real_time sig && b))
    (before_image mask sig xs)

-- what is found where it may be taken
pub found_image : (mask : ℕ) (xs : List Signal) (sig : BsdSig) → may_take mask xs sig ≡ true
    → lx.found_in (set_out_of mask) (map linux_info xs) (signal_out_of sig) ≡ option_map linux_info (bsd.first_of sig xs)
found_image mask xs sig may =
    ap (λ (b : Bool). if b then lx.first_info (signal_out_of sig) (map linux_info xs) else None) (may_take_image mask xs sig ∙ may)
    ∙ first_image sig xs

-- the first of a kind is of this kind
pub first_kind : (sig : BsdSig) (xs : List Signal) (x : Signal) → bsd.first_of sig xs ≡ Some x → x.sig ≡ sig
first_kind sig [] x e = absurd (cc)
first_kind sig (y ∷ xs) x e = by (bsd.is_of sig y) refl e (first_kind sig xs x)
  where
    by : (b : Bool) → bsd.is_of sig y ≡ b → (if b then Some y else bsd.first_of sig xs) ≡ Some x
        → (bsd.first_of sig xs ≡ Some x → x.sig ≡ sig) → x.sig ≡ sig
    by true f g next =
        let h : y ≡ x = cc in ap (λ (z : Signal). z.sig) (sym h) ∙ same_place y.sig sig (eqb-true (place_of y.sig) (place_of sig) f)
    by false f g next = next g

-- ---- the choice

-- the list of a target
pub listed_image : (p : ProcessState) (s : ℕ) (c : Target) → (c ≡ One s) ⊎ (c ≡ All)
    → lx.listed (map linux_info (own_pending p s)) (map linux_info p.pending) (linux_list c) ≡ map linux_info (pending_for p c)
listed_image p s c (inl e) =
    subst (λ (z : Target). lx.listed (map linux_info (own_pending p s)) (map linux_info p.pending) (linux_list z) ≡ map linux_info (pending_for p z)) (sym e) refl
listed_image p s c (inr e) =
    subst (λ (z : Target). lx.listed (map linux_info (own_pending p s)) (map linux_info p.pending) (linux_list z) ≡ map linux_info (pending_for p z)) (sym e) refl

-- what the choice tells: the signal that is taken, whose list it is, and that the Linux machine finds it there
pub record Chosen (p : ProcessState) (s mask : ℕ) (target : Target) (sig : BsdSig) : Type 0 where
  pub whose : (target ≡ One s) ⊎ (target ≡ All)
  pub may : may_take mask (pending_for p target) sig ≡ true
  pub signal : Signal
  pub first : bsd.first_of sig (pending_for p target) ≡ Some signal
  pub kind : signal.sig ≡ sig
  pub found : lx.found_in (set_out_of mask) (map linux_info (pending_for p target)) (signal_out_of sig) ≡ Some (linux_info signal)

some_of : {X : Type 0} (o : Option X) → is_some o ≡ true → (x : X) × (o ≡ Some x)
some_of (Some x) e = (x, refl)
some_of None e = absurd (cc)

chosen_in : (p : ProcessState) (s mask : ℕ) (target : Target) (sig : BsdSig) → (target ≡ One s) ⊎ (target ≡ All)
    → may_take mask (pending_for p target) sig ≡ true → Chosen p s mask target sig
chosen_in p s mask target sig whose may =
    let x = some_of (bsd.first_of sig (pending_for p target)) (taken-there mask (pending_for p target) sig may) in
    record {
      whose = whose;
      may = may;
      signal = x.0;
      first = x.1;
      kind = first_kind sig (pending_for p target) x.0 x.1;
      found = found_image mask (pending_for p target) sig may ∙ ap (λ (o : Option Signal). option_map linux_info o) x.1;
    }

pub chosen_image : (p : ProcessState) (s mask : ℕ) (target : Target) (sig : BsdSig) → choice p s mask ≡ Some (target, sig)
    → Chosen p s mask target sig
chosen_image p s mask target sig e = by (first_ready mask (own_pending p s)) (first_ready mask p.pending) refl refl e
  where
    by : (o q : Option BsdSig) → first_ready mask (own_pending p s) ≡ o → first_ready mask p.pending ≡ q → chosen s o q ≡ Some (target, sig)
        → Chosen p s mask target sig
    by (Some own) q f g h =
        let a : (One s, own) ≡ (target, sig) = cc in
        subst (λ (z : Target × BsdSig). Chosen p s mask z.0 z.1) a
        (chosen_in p s mask (One s) own (inl refl) (may_take-first mask (own_pending p s) own f))
    by None (Some shared) f g h =
        let a : (All, shared) ≡ (target, sig) = cc in
        subst (λ (z : Target × BsdSig). Chosen p s mask z.0 z.1) a
        (chosen_in p s mask All shared (inr refl) (may_take-first mask p.pending shared g))
    by None None f g h = absurd (cc)

-- where nothing is chosen, nothing may be taken
pub unchosen_image : (p : ProcessState) (s mask : ℕ) → choice p s mask ≡ None
    → (lx.has_unblocked (set_out_of mask) (map linux_info (own_pending p s)) ≡ false)
    × (lx.has_unblocked (set_out_of mask) (map linux_info p.pending) ≡ false)
unchosen_image p s mask e = by (first_ready mask (own_pending p s)) (first_ready mask p.pending) refl refl e
  where
    none : (xs : List Signal) → first_ready mask xs ≡ None → lx.has_unblocked (set_out_of mask) (map linux_info xs) ≡ false
    none xs f = has_unblocked_image mask xs ∙ sym (some-unblocked mask xs) ∙ ap (λ (o : Option BsdSig). is_some o) f

    by : (o q : Option BsdSig) → first_ready mask (own_pending p s) ≡ o → first_ready mask p.pending ≡ q → chosen s o q ≡ None
        → (lx.has_unblocked (set_out_of mask) (map linux_info (own_pending p s)) ≡ false)
        × (lx.has_unblocked (set_out_of mask) (map linux_info p.pending) ≡ false)
    by None None f g h = (none (own_pending p s) f, none p.pending g)
    by (Some own) q f g h = absurd (cc)
    by None (Some shared) f g h = absurd (cc)
