-- Vectors, one at a time.
use Rattle.std.proofs.Common.{◌≡◌, ℕ, suc, ◌+◌, ◌-◌, ◌<◌, ◌≤◌, List, [], ◌∷◌, ◌++◌, length, take, drop, refl, arith, append_assoc}
use Rattle.std.proofs.lemmas.List.{take_rest}
use Rattle.places.specs.Places.{number_at}
use Rattle.lx_machine.specs.Pieces.{piece}
use Rattle.lx_machine.specs.declared.calls.Piece.{Piece}
use Rattle.lx_machine.specs.Readv.{vectors}

-- the first vector of some, and those that are left
pub vectors_first : (n : ℕ) (bytes : List ℕ) → 16 ≤ length bytes → vectors (suc n) bytes ≡ piece (number_at bytes 0 8) (number_at bytes 8 8) ∷ vectors n (drop 16 bytes)
vectors_first n bytes h = grind arith

-- one more vector read, of those from the i-th on
pub vectors_more : (out : List Piece) (n i : ℕ) (rest : List ℕ) → i < n → 16 ≤ length rest → (out ++ piece (number_at rest 0 8) (number_at rest 8 8) ∷ []) ++ vectors (n - (i + 1)) (take (length rest - 16) (drop 16 rest)) ≡ out ++ vectors (n - i) rest
vectors_more out n i rest low len =
    let e : n - i ≡ suc (n - (i + 1)) = omega arith in
    rw (e, take_rest rest 16, vectors_first (n - (i + 1)) rest len, append_assoc) refl
