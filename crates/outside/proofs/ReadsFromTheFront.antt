-- A read of the first bytes left, of a list that is read from a place on.
use Rattle.std.proofs.Common.{◌≡◌, List, ℕ, [], ◌∷◌, ◌+◌, ◌<◌, ◌++◌, ◌-◌, min, length, take, drop, refl, sym, ◌∙◌, ap, arith}
use Rattle.std.proofs.lemmas.Grind.{common_steps}
use Rattle.std.proofs.lemmas.List.{drop-drop, take-append-drop}

-- the part from a place to the end is all from that place on
pub rest-from : (all : List ℕ) (place : ℕ) → take (length all - place) (drop place all) ≡ drop place all
rest-from all place = grind (arith, common_steps)

-- what is left is what was copied, and then what is left afterwards
pub left-after_copy : (all into : List ℕ) (place n : ℕ) → take n into ≡ take n (drop place all) → drop place all ≡ take n into ++ drop (place + n) all
left-after_copy all into place n same =
    sym (take-append-drop n (drop place all)) ∙ ap (λ (xs : List ℕ). xs ++ drop n (drop place all)) (sym same) ∙ ap (λ (xs : List ℕ). take n into ++ xs) (drop-drop n place all)

nothing_of : (xs : List ℕ) → length xs ≡ 0 → xs ≡ []
nothing_of [] e = refl
nothing_of (x ∷ xs) e = absurd (omega arith)

-- a copy of nothing into some room is the end
pub end-after_copy : (all into : List ℕ) (place n : ℕ) → n ≡ min (length into) (length (drop place all)) → n ≡ 0 → 0 < length into → drop (place + n) all ≡ []
end-after_copy all into place n is none room =
    let empty : length (drop place all) ≡ 0 = omega arith in
    ap (λ (k : ℕ). drop k all) (let same : place + n ≡ place = omega arith in same) ∙ nothing_of (drop place all) empty
