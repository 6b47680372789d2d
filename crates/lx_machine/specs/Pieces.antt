-- The pieces of guest memory that a call copies (readv(2): iovec).
use Rattle.std.specs.Prelude.{List, [], if◌then◌else◌, min, ℕ, ◌+◌, ◌-◌, ◌==◌, ◌∷◌}
use Rattle.lx_machine.specs.declared.calls.Piece.{Piece}

abbrev pub piece : ℕ → ℕ → Piece
piece at len = record { at = at; len = len }

abbrev pub behind_first : List Piece → List Piece
behind_first [] = []
behind_first (p ∷ ps) = ps

-- the lengths of the pieces together
abbrev pub total : List Piece → ℕ
total [] = 0
total (p ∷ ps) = p.len + total ps

-- the first `most` bytes of the pieces, without empty pieces
abbrev pub clipped : ℕ → List Piece → List Piece
clipped most [] = []
clipped most (p ∷ ps) = let len = min most p.len in if len == 0 then clipped most ps else (piece p.at len ∷ clipped (most - len) ps)
