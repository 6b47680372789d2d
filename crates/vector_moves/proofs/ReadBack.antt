-- The registers of a record are those that it was made of.
use native.Mathlib.Nat as nat
use Rattle.std.proofs.Common.{◌≡◌, ℕ, suc, ◌+◌, ◌*◌, ◌/◌, ◌%◌, ◌<◌, ◌^◌, List, [], ◌∷◌, length, get_or, Some, refl, sym, ap, ◌∙◌, arith}
use Rattle.std.specs.Int.{from_le_bytes, to_le_bytes, w128}
use Rattle.a64_model.specs.VectorRecord.{vectors_bytes, vector_record, vectors_in, recorded_vectors}

-- what lies above a byte is the next byte, and what lies above that
above : (n p : ℕ) → n / p ≡ n / p % 256 + n / (p * 256) * 256
above n p = omega (arith, nat.div-div-eq-div-mul n p 256)

joined : (a b c d e f g h i j k l m n o p whole r1 r2 r3 r4 r5 r6 r7 r8 r9 r10 r11 r12 r13 r14 r15 : ℕ)
    → whole ≡ a + r1 * 256 → r1 ≡ b + r2 * 256 → r2 ≡ c + r3 * 256 → r3 ≡ d + r4 * 256 → r4 ≡ e + r5 * 256 → r5 ≡ f + r6 * 256 → r6 ≡ g + r7 * 256 → r7 ≡ h + r8 * 256 → r8 ≡ i + r9 * 256 → r9 ≡ j + r10 * 256 → r10 ≡ k + r11 * 256 → r11 ≡ l + r12 * 256 → r12 ≡ m + r13 * 256 → r13 ≡ n + r14 * 256 → r14 ≡ o + r15 * 256 → r15 ≡ p
    → a + b * 256 + c * 65536 + d * 16777216 + e * 4294967296 + f * 1099511627776 + g * 281474976710656 + h * 72057594037927936 + i * 18446744073709551616 + j * 4722366482869645213696 + k * 1208925819614629174706176 + l * 309485009821345068724781056 + m * 79228162514264337593543950336 + n * 20282409603651670423947251286016 + o * 5192296858534827628530496329220096 + p * 1329227995784915872903807060280344576 ≡ whole
joined a b c d e f g h i j k l m n o p whole r1 r2 r3 r4 r5 r6 r7 r8 r9 r10 r11 r12 r13 r14 r15 at_0 at_1 at_2 at_3 at_4 at_5 at_6 at_7 at_8 at_9 at_10 at_11 at_12 at_13 at_14 at_15 = omega arith

-- a number of 16 bytes is that of its bytes
again_16 : (n : ℕ) → n < 2 ^ 128 → from_le_bytes w128 (to_le_bytes w128 n) ≡ n
again_16 n fits =
    let low : n ≡ n % 256 + n / 256 * 256 = omega arith in
    let high : n / 1329227995784915872903807060280344576 ≡ n / 1329227995784915872903807060280344576 % 256 = omega (arith, fits) in
    joined _ _ _ _ _ _ _ _ _ _ _ _ _ _ _ _ n _ _ _ _ _ _ _ _ _ _ _ _ _ _ _ low (above n 256) (above n 65536) (above n 16777216) (above n 4294967296) (above n 1099511627776) (above n 281474976710656) (above n 72057594037927936) (above n 18446744073709551616) (above n 4722366482869645213696) (above n 1208925819614629174706176) (above n 309485009821345068724781056) (above n 79228162514264337593543950336) (above n 20282409603651670423947251286016) (above n 5192296858534827628530496329220096) high

each_again : (v : List ℕ) → ((i : ℕ) → get_or v i 0 < 2 ^ 128) → vectors_in (vectors_bytes v) (length v) ≡ v
unfolding vectors_in vectors_bytes
each_again [] fits = refl
each_again (n ∷ ns) fits =
    ap (λ (m : ℕ). m ∷ vectors_in (vectors_bytes ns) (length ns)) (again_16 n (fits 0))
    ∙ ap (λ (ms : List ℕ). n ∷ ms) (each_again ns (λ i. fits (suc i)))

pub read_back : (v : List ℕ) → length v ≡ 32 → ((i : ℕ) → get_or v i 0 < 2 ^ 128) → recorded_vectors (vector_record v) ≡ Some v
read_back v long fits = ap Some (ap (vectors_in (vectors_bytes v)) (sym long) ∙ each_again v fits)
