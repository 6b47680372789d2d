-- Numbers among the bytes of a file.
use Rattle.std.proofs.Common.{◌≡◌, ℕ, ◌+◌, ◌^◌, ◌<◌, ◌≤◌, List, ◌++◌, length, take, drop, sym, ap, ◌∙◌, arith}
use Rattle.std.specs.Prelude.{slice_index}
use Rattle.std.proofs.lemmas.List.{drop-drop, drop-take, take-append-drop}
use Rattle.byteorder.specs.Endian.{little_from}
use Rattle.byteorder.specs.Numbers.{little_from-take}
use Rattle.places.specs.Places.{bytes_of, number_at}
use Rattle.places.proofs.Numbers.{bytes_of-number_at}

abbrev pub IsBytes : List ℕ → Type 0
IsBytes bytes = (i : ℕ) → slice_index bytes i < 2 ^ 8

-- the bytes of a number, in front of the bytes after it
pub number_text-at : (bytes : List ℕ) (at k next : ℕ) → at + k ≡ next → next ≤ length bytes → IsBytes bytes → bytes_of (number_at bytes at k) k ++ drop next bytes ≡ drop at bytes
number_text-at bytes at k next e long fits =
    let number : bytes_of (number_at bytes at k) k ≡ take k (drop at bytes) = bytes_of-number_at bytes at k (omega arith) fits in
    let after : drop next bytes ≡ drop k (drop at bytes) = ap (λ (n : ℕ). drop n bytes) (sym e) ∙ sym (drop-drop k at bytes) in
    ap (λ (text : List ℕ). text ++ drop next bytes) number ∙ ap (λ (rest : List ℕ). take k (drop at bytes) ++ rest) after ∙ take-append-drop k (drop at bytes)

-- a number in a part of the bytes, and where it stands
pub number-taken : (bytes : List ℕ) (at p k more : ℕ) → k ≤ more → number_at (take (p + more) (drop at bytes)) p k ≡ number_at bytes (at + p) k
number-taken bytes at p k more enough =
    ap (little_from 0 k) (drop-take p more (drop at bytes)) ∙ little_from-take 0 k more (drop p (drop at bytes)) (omega arith) ∙ ap (little_from 0 k) (drop-drop p at bytes)
