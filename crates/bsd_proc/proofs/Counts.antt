-- How many signals a list can have, and how many real-time signals are left of it.
use Rattle.std.proofs.Common.{◌≡◌, ℕ, zero, suc, ◌+◌, ◌<◌, ◌≤◌, ◌==◌, Bool, true, false, cond, List, [], ◌∷◌, ◌++◌, length, refl, sym, ap, ◌∙◌, subst, arith, length-append}
use Rattle.std.proofs.lemmas.Bool.{eqb-true}
use Rattle.std.specs.Prelude.{nat_le, nat_lt, not, ◌&&◌, ◌||◌, count_by, filter, Some, is_some, if◌then◌else◌}
use Rattle.std.specs.List.{list_any}
use Rattle.std.proofs.lemmas.List.Sums.{sum_by-cons, sum_by_push}
use Rattle.std.proofs.lemmas.List.Filters.{sum_by-filter_both}
use Rattle.std.proofs.lemmas.Bool.Decides.{nat_tests}
use Rattle.bsd_abi.specs.declared.signals.BsdSig.{BsdSig}
use Rattle.bsd_abi.specs.BsdSig.{place_of, is_real_time}
use Rattle.bsd_proc.specs.declared.signals.Signal.{Signal}
use Rattle.bsd_proc.specs.Signals.{is_of, real_time_count, first_of, without}
use Rattle.bsd_proc.specs.Sending.{is_there, added}
use Rattle.bsd_proc.specs.PendingFields.{IsOnce}
use Rattle.bsd_proc.proofs.SignalPlaces.{real_time-place}

-- ---- counts

abbrev ones : Bool → ℕ
ones b = cond b 1 0

count_by-cons : (p : Signal → Bool) (x : Signal) (xs : List Signal) → count_by p (x ∷ xs) ≡ cond (p x) 1 0 + count_by p xs
count_by-cons p x xs = sum_by-cons (λ y. cond (p y) 1 0) x xs

count_by_push : (p : Signal → Bool) (x : Signal) (xs : List Signal) → count_by p (xs ++ x ∷ []) ≡ count_by p xs + cond (p x) 1 0
count_by_push p x xs = sum_by_push (λ y. cond (p y) 1 0) xs x

count_by-filter : (p q : Signal → Bool) (xs : List Signal) → count_by p (filter q xs) ≤ count_by p xs
count_by-filter p q xs = omega (arith, sum_by-filter_both q (λ x. not (q x)) (λ _. refl) (λ y. cond (p y) 1 0) xs)

count_by-without : (p : Signal → Bool) (sig : BsdSig) (xs : List Signal) → count_by p (without sig xs) ≤ count_by p xs
count_by-without p sig [] = omega arith
count_by-without p sig (x ∷ xs) = by (is_of sig x) (count_by-without p sig xs)
  where
    by : (b : Bool) → count_by p (without sig xs) ≤ count_by p xs → count_by p (if b then xs else (x ∷ without sig xs)) ≤ count_by p (x ∷ xs)
    by true next = omega (arith, count_by-cons p x xs)
    by false next = omega (arith, count_by-cons p x xs, count_by-cons p x (without sig xs))

-- ---- each standard signal once

-- how many of the signals have the place, and how many have one of the first n places
abbrev standing : ℕ → List Signal → ℕ
standing k xs = count_by (λ signal. place_of signal.sig == k) xs

abbrev total : ℕ → List Signal → ℕ
total zero xs = 0
total (suc n) xs = standing n xs + total n xs

total-nil : (n : ℕ) → total n [] ≡ 0
total-nil zero = refl
total-nil (suc n) = omega (arith, total-nil n)

below-zero : (p : ℕ) → ones (nat_lt p 0) ≡ 0
below-zero p = grind (arith, nat_tests)

below-suc : (p n : ℕ) → ones (nat_lt p (suc n)) ≡ ones (p == n) + ones (nat_lt p n)
below-suc p n = grind (arith, nat_tests)

total-cons : (n : ℕ) (x : Signal) (xs : List Signal) → total n (x ∷ xs) ≡ cond (nat_lt (place_of x.sig) n) 1 0 + total n xs
total-cons zero x xs = omega (arith, below-zero (place_of x.sig))
total-cons (suc n) x xs = omega (arith, total-cons n x xs, below-suc (place_of x.sig) n, count_by-cons (λ signal. place_of signal.sig == n) x xs)

total-le : (xs : List Signal) → IsOnce xs → (n : ℕ) → n ≤ 31 → total n xs ≤ n
total-le xs once zero h = omega arith
total-le xs once (suc n) h = omega (arith, total-le xs once n (omega arith), once n (omega arith))

either-one : (p : ℕ) → ones (nat_le 31 p) + ones (nat_lt p 31) ≡ 1
either-one p = grind (arith, nat_tests)

one-more : (x : Signal) → ones (is_real_time x.sig) + ones (nat_lt (place_of x.sig) 31) ≡ 1
one-more x = ap (λ b. ones b + ones (nat_lt (place_of x.sig) 31)) (real_time-place x.sig) ∙ either-one (place_of x.sig)

length-total : (xs : List Signal) → length xs ≤ real_time_count xs + total 31 xs
length-total [] = omega arith
length-total (x ∷ xs) = omega (arith, length-total xs, one-more x, total-cons 31 x xs, count_by-cons (λ signal. is_real_time signal.sig) x xs)

-- a list with each standard signal once has at most 31 signals beside the real-time ones
pub length-once : (xs : List Signal) → IsOnce xs → length xs ≤ real_time_count xs + 31
length-once xs once = omega (arith, length-total xs, total-le xs once 31 (omega arith))

-- ---- one signal more

pub real_time_count_push : (x : Signal) (xs : List Signal) → real_time_count (xs ++ x ∷ []) ≡ real_time_count xs + cond (is_real_time x.sig) 1 0
real_time_count_push x xs = count_by_push (λ signal. is_real_time signal.sig) x xs

standing-none : (xs : List Signal) (k : ℕ) → list_any (λ signal. place_of signal.sig == k) xs ≡ false → standing k xs ≡ 0
standing-none [] k e = refl
standing-none (x ∷ xs) k e = by (place_of x.sig == k) refl e (standing-none xs k)
  where
    by : (b : Bool) → (place_of x.sig == k) ≡ b → (b || list_any (λ signal. place_of signal.sig == k) xs) ≡ false → (list_any (λ signal. place_of signal.sig == k) xs ≡ false → standing k xs ≡ 0) → standing k (x ∷ xs) ≡ 0
    by true f g next = absurd (cc)
    by false f g next = omega (arith, next g, count_by-cons (λ signal. place_of signal.sig == k) x xs, ap ones f)

standard-absent : (b any : Bool) → b ≡ false → (not b && any) ≡ false → any ≡ false
standard-absent true any e f = absurd (cc)
standard-absent false any e f = f

not-real_time : (p : ℕ) → p < 31 → nat_le 31 p ≡ false
not-real_time p h = grind (arith, nat_tests)

pub IsOnce_push : (x : Signal) (xs : List Signal) → is_there x xs ≡ false → IsOnce xs → IsOnce (xs ++ x ∷ [])
IsOnce_push x xs absent once k h = by (place_of x.sig == k) refl
  where
    by : (b : Bool) → (place_of x.sig == k) ≡ b → standing k (xs ++ x ∷ []) ≤ 1
    by false e = omega (arith, once k h, count_by_push (λ signal. place_of signal.sig == k) x xs, ap ones e)
    by true e =
        let same : place_of x.sig ≡ k = eqb-true (place_of x.sig) k e in
        let standard : is_real_time x.sig ≡ false = real_time-place x.sig ∙ not-real_time (place_of x.sig) (omega arith) in
        let none : list_any (is_of x.sig) xs ≡ false = standard-absent (is_real_time x.sig) (list_any (is_of x.sig) xs) standard absent in
        let gone : standing k xs ≡ 0 = subst (λ (n : ℕ). standing n xs ≡ 0) same (standing-none xs (place_of x.sig) none) in
        omega (arith, gone, count_by_push (λ signal. place_of signal.sig == k) x xs, ap ones e)

-- the real-time signals after a signal is added
pub real_time_count-added : (x : Signal) (xs : List Signal) → real_time_count (added x xs) ≡ real_time_count xs + cond (is_real_time x.sig) 1 0
real_time_count-added x xs = by (is_real_time x.sig) (list_any (is_of x.sig) xs) refl
  where
    by : (b any : Bool) → is_real_time x.sig ≡ b → real_time_count (if not b && any then xs else xs ++ x ∷ []) ≡ real_time_count xs + cond b 1 0
    by true any e = omega (arith, real_time_count_push x xs, ap ones e)
    by false true e = omega arith
    by false false e = omega (arith, real_time_count_push x xs, ap ones e)

-- ---- signals less

pub IsOnce-without : (sig : BsdSig) (xs : List Signal) → IsOnce xs → IsOnce (without sig xs)
IsOnce-without sig xs once k h = omega (arith, once k h, count_by-without (λ signal. place_of signal.sig == k) sig xs)

pub IsOnce-filter : (q : Signal → Bool) (xs : List Signal) → IsOnce xs → IsOnce (filter q xs)
IsOnce-filter q xs once k h = omega (arith, once k h, count_by-filter (λ signal. place_of signal.sig == k) q xs)

pub real_time_count-filter : (q : Signal → Bool) (xs : List Signal) → real_time_count (filter q xs) ≤ real_time_count xs
real_time_count-filter q xs = count_by-filter (λ signal. is_real_time signal.sig) q xs

same-kind : (sig : BsdSig) (x : Signal) → is_of sig x ≡ true → is_real_time x.sig ≡ is_real_time sig
same-kind sig x e = real_time-place x.sig ∙ ap (λ p. nat_le 31 p) (eqb-true (place_of x.sig) (place_of sig) e) ∙ sym (real_time-place sig)

-- the real-time signals after one of a kind has left
pub real_time_count-without : (sig : BsdSig) (xs : List Signal) → is_some (first_of sig xs) ≡ true → real_time_count (without sig xs) + cond (is_real_time sig) 1 0 ≡ real_time_count xs
real_time_count-without sig [] e = absurd (cc)
real_time_count-without sig (x ∷ xs) e = by (is_of sig x) refl e (real_time_count-without sig xs)
  where
    by : (b : Bool) → is_of sig x ≡ b → is_some (if b then Some x else first_of sig xs) ≡ true
        → (is_some (first_of sig xs) ≡ true → real_time_count (without sig xs) + cond (is_real_time sig) 1 0 ≡ real_time_count xs)
        → real_time_count (if b then xs else (x ∷ without sig xs)) + cond (is_real_time sig) 1 0 ≡ real_time_count (x ∷ xs)
    by true f g next = omega (arith, count_by-cons (λ signal. is_real_time signal.sig) x xs, ap ones (same-kind sig x f))
    by false f g next = omega (arith, next g, count_by-cons (λ signal. is_real_time signal.sig) x xs, count_by-cons (λ signal. is_real_time signal.sig) x (without sig xs))

-- a list with at most 64 real-time signals, to which one may be added, has room for it
pub length-room : (x : Signal) (xs : List Signal) → IsOnce xs → is_there x xs ≡ false → real_time_count xs ≤ 64 → (is_real_time x.sig ≡ true → real_time_count xs < 64) → length xs < 95
length-room x xs once absent few room = by (is_real_time x.sig) refl
  where
    most : length (xs ++ x ∷ []) ≤ real_time_count (xs ++ x ∷ []) + 31
    most = length-once (xs ++ x ∷ []) (IsOnce_push x xs absent once)

    by : (b : Bool) → is_real_time x.sig ≡ b → length xs < 95
    by true e = omega (arith, most, length-append xs (x ∷ []), real_time_count_push x xs, ap ones e, room e)
    by false e = omega (arith, most, length-append xs (x ∷ []), real_time_count_push x xs, ap ones e, few)
