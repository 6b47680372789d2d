-- Numbers and their little-endian bytes: each gives the other back, also at a place among other bytes.
use Rattle.std.proofs.Common.{◌≡◌, ℕ, zero, suc, ◌+◌, ◌*◌, ◌/◌, ◌%◌, ◌^◌, ◌<◌, ◌≤◌, List, [], ◌∷◌, ◌++◌, length, take, drop, refl, sym, ap, ◌∙◌, arith}
use Rattle.std.specs.Prelude.{slice_index}
use Rattle.std.specs.Int.{byte_at, bytes_low_first}
use Rattle.std.proofs.Math.Nat.{div-div-eq-div-mul, one-le-pow, pow-suc, pow-succ'}
use lib.Arith.{mod-mul}
use Rattle.std.proofs.lemmas.List.{drop_at, get_or-drop, length-drop}
use Rattle.byteorder.specs.Endian.{little_from}
use Rattle.byteorder.specs.Numbers.{little_from-cons, little_from-lt, little_number-reads_back, length-bytes_low_first}
use Rattle.places.specs.Places.{bytes_of, number_at}

pub length-bytes_of : (n k : ℕ) → length (bytes_of n k) ≡ k
length-bytes_of n k = length-bytes_low_first 0 k n

-- a byte of n is the byte before it of n / 256
byte_at-suc : (i n : ℕ) → byte_at (suc i) n ≡ byte_at i (n / 256)
byte_at-suc zero n = refl
byte_at-suc (suc i) n =
    ap (λ (m : ℕ). m % 256) (ap (λ (p : ℕ). n / p) (pow-succ' 256 (suc i)) ∙ sym (div-div-eq-div-mul n 256 (256 ^ suc i)))

bytes_low_first-suc : (i k n : ℕ) → bytes_low_first (suc i) k n ≡ bytes_low_first i k (n / 256)
bytes_low_first-suc i zero n = refl
bytes_low_first-suc i (suc k) n = rw (byte_at-suc i n, bytes_low_first-suc (suc i) k n) refl

-- the bytes of the number that they make
bytes_of-number : (k : ℕ) (bytes : List ℕ) → k ≤ length bytes → ((i : ℕ) → slice_index bytes i < 256) → bytes_of (little_from 0 k bytes) k ≡ take k bytes
bytes_of-number zero bytes long fits = refl
bytes_of-number (suc k) [] long fits = absurd (omega arith)
bytes_of-number (suc k) (b ∷ bytes) long fits =
    let moved : little_from 1 k (b ∷ bytes) ≡ little_from 0 k bytes = little_from-cons 0 k b bytes in
    let byte : b < 256 = fits 0 in
    let low : (b + 256 * little_from 0 k bytes) % 256 ≡ b = omega arith in
    let high : (b + 256 * little_from 0 k bytes) / 256 ≡ little_from 0 k bytes = omega arith in
    let rest : bytes_of (little_from 0 k bytes) k ≡ take k bytes = bytes_of-number k bytes (omega arith) (λ i. fits (suc i)) in
    rw (moved, low, bytes_low_first-suc 0 k (b + 256 * little_from 0 k bytes), high, rest) refl

-- the number in k bytes is below 256 ^ k
pub number_at-lt : (bytes : List ℕ) (at k : ℕ) → ((i : ℕ) → slice_index bytes i < 256) → number_at bytes at k < 256 ^ k
number_at-lt bytes at k fits = little_from-lt 0 k (drop at bytes) (λ i. rw (get_or-drop at bytes i 0) (fits (at + i)))

-- what was put at a place is found there
pub number_at-bytes_of : (front rest : List ℕ) (n at k : ℕ) → length front ≡ at → n < 256 ^ k → number_at (front ++ (bytes_of n k ++ rest)) at k ≡ n
number_at-bytes_of front rest n at k e lt =
    ap (little_from 0 k) (drop_at front (bytes_of n k ++ rest) at e) ∙ little_number-reads_back k n rest lt

-- the bytes of the number at a place are those at the place
pub bytes_of-number_at : (bytes : List ℕ) (at k : ℕ) → at + k ≤ length bytes → ((i : ℕ) → slice_index bytes i < 256) → bytes_of (number_at bytes at k) k ≡ take k (drop at bytes)
bytes_of-number_at bytes at k long fits =
    bytes_of-number k (drop at bytes) (omega (arith, length-drop at bytes)) (λ i. rw (get_or-drop at bytes i 0) (fits (at + i)))

-- the first bytes of a number's bytes are its bytes
take-low_first : (i k m n : ℕ) → k ≤ m → take k (bytes_low_first i m n) ≡ bytes_low_first i k n
take-low_first i zero m n le = refl
take-low_first i (suc k) zero n le = absurd (omega arith)
take-low_first i (suc k) (suc m) n le = ap (λ (bs : List ℕ). byte_at i n ∷ bs) (take-low_first (suc i) k m n (omega arith))

pub take-bytes_of : (n m k : ℕ) → k ≤ m → take k (bytes_of n m) ≡ bytes_of n k
take-bytes_of n m k le = take-low_first 0 k m n le

-- the k bytes of a number are those of it modulo 256 ^ m, for any m from k on
pub bytes_of-mod : (m k n : ℕ) → k ≤ m → bytes_of (n % 256 ^ m) k ≡ bytes_of n k
bytes_of-mod m zero n le = refl
bytes_of-mod zero (suc k) n le = absurd (omega arith)
bytes_of-mod (suc m) (suc k) n le =
    let some : 1 ≤ 256 ^ m = one-le-pow m 256 (omega arith) in
    let split : n % 256 ^ suc m ≡ n / 256 % 256 ^ m * 256 + n % 256 = ap (λ (p : ℕ). n % p) (pow-suc 256 m) ∙ mod-mul n {m = 256 ^ m} {c = 256} (omega arith) (omega arith) in
    let low : n % 256 ^ suc m % 256 ≡ n % 256 = omega (arith, split) in
    let high : n % 256 ^ suc m / 256 ≡ n / 256 % 256 ^ m = omega (arith, split) in
    rw (bytes_low_first-suc 0 k (n % 256 ^ suc m), bytes_low_first-suc 0 k n, low, high, bytes_of-mod m k (n / 256) (omega arith)) refl
