-- Lists of parts without gaps.
use Rattle.std.proofs.Common.{◌≡◌, ℕ, suc, ◌<◌, ◌≤◌, List, [], ◌∷◌, length, map, Option, Some, None, refl, sym, ap, ◌∙◌, arith}
use Rattle.machine_parts.specs.Held.{over, whole, values, IsWhole}

module _ {P : Type 0} where
  pub length-whole : (ps : List P) → length (whole ps) ≡ length ps
  length-whole [] = refl
  length-whole (p ∷ ps) = ap suc (length-whole ps)

  pub values-whole : (ps : List P) → values (whole ps) ≡ ps
  values-whole [] = refl
  values-whole (p ∷ ps) = ap (λ l. p ∷ l) (values-whole ps)

  -- a machine of which no part is lacking stays one when what is held is put over it
  pub over-whole : (h : List (Option P)) (ps : List P) → IsWhole (over h (whole ps))
  over-whole [] ps = ap whole (values-whole ps)
  over-whole (h ∷ hs) [] = refl
  over-whole (Some p ∷ hs) (q ∷ ps) = ap (λ l. Some p ∷ l) (over-whole hs ps)
  over-whole (None ∷ hs) (q ∷ ps) = ap (λ l. Some q ∷ l) (over-whole hs ps)
