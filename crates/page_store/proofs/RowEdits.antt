-- The pages of a row in two parts after an edit at their border.
use Rattle.std.proofs.Common.{◌≡◌, ℕ, zero, suc, ◌<◌, List, [], ◌∷◌, ◌++◌, reverse, length, get_or, set, refl, sym, ap, ◌∙◌, arith}
use Rattle.std.specs.List.{insert, remove}
use Rattle.std.proofs.lemmas.List.{reverse-append, append_assoc, length-append, length-reverse}
use Rattle.page_store.specs.declared.kept_row.KeptRow.{KeptRow}
use Rattle.page_store.specs.Row.{entries, count}

module _ {X : Type 0} where
  -- an element between the parts may stand in either
  pub lowered : (below above : List X) (x : X) → (below ++ x ∷ []) ++ reverse above ≡ below ++ reverse (above ++ x ∷ [])
  lowered below above x = append_assoc below (x ∷ []) (reverse above) ∙ ap (λ (l : List X). below ++ l) (sym (reverse-append above (x ∷ [])))

  -- an element put between two parts
  pub inserted : (below rest : List X) (i : ℕ) (x : X) → length below ≡ i → insert (below ++ rest) i x ≡ (below ++ x ∷ []) ++ rest
  inserted [] rest zero x is = refl
  inserted [] rest (suc i) x is = absurd (omega arith)
  inserted (b ∷ below) rest zero x is = absurd (omega arith)
  inserted (b ∷ below) rest (suc i) x is = ap (λ (l : List X). b ∷ l) (inserted below rest i x (omega arith))

  -- the first element of the upper part taken out, and read
  pub removed : (below rest : List X) (i : ℕ) (x : X) → length below ≡ i → remove (below ++ x ∷ rest) i ≡ below ++ rest
  removed [] rest zero x is = refl
  removed [] rest (suc i) x is = absurd (omega arith)
  removed (b ∷ below) rest zero x is = absurd (omega arith)
  removed (b ∷ below) rest (suc i) x is = ap (λ (l : List X). b ∷ l) (removed below rest i x (omega arith))

  pub read : (below rest : List X) (i : ℕ) (x d : X) → length below ≡ i → get_or (below ++ x ∷ rest) i d ≡ x
  read [] rest zero x d is = refl
  read [] rest (suc i) x d is = absurd (omega arith)
  read (b ∷ below) rest zero x d is = absurd (omega arith)
  read (b ∷ below) rest (suc i) x d is = read below rest i x d (omega arith)

  -- an element put where one was taken out
  pub replaced : (xs : List X) (i : ℕ) (x : X) → i < length xs → insert (remove xs i) i x ≡ set xs i x
  replaced [] i x lt = absurd (omega arith)
  replaced (y ∷ ys) zero x lt = refl
  replaced (y ∷ ys) (suc i) x lt = ap (λ (l : List X). y ∷ l) (replaced ys i x (omega arith))

-- there are as many pages as the count says
pub entries-count : (row : KeptRow) → length (entries row) ≡ count row
entries-count row = omega (arith, length-append row.below.items (reverse row.above.items), length-reverse row.above.items, row.below.ok.0, row.above.ok.0)
