-- An open file has no more holds than stand.
use Rattle.std.specs.Prelude.{◌≡◌, refl, ℕ, ◌+◌, ◌≤◌, zero, suc, List, [], ◌∷◌, Option, sum_by}
use Rattle.std.proofs.Common.{arith}
use Rattle.std.proofs.lemmas.List.Sums.{sum_by-cons}
use Rattle.lx_machine.specs.Lists.{at_place}
use Rattle.lx_machine.specs.declared.files.OpenFile.{OpenFile}
use Rattle.open_files.specs.Named.{holds_of}

pub hold_within : (fs : List (Option OpenFile)) (i : ℕ) → holds_of (at_place fs i) ≤ sum_by holds_of fs
hold_within [] i = omega arith
hold_within (f ∷ fs) zero =
    let first : holds_of (at_place (f ∷ fs) zero) ≡ holds_of f = refl in
    let all : sum_by holds_of (f ∷ fs) ≡ holds_of f + sum_by holds_of fs = sum_by-cons holds_of f fs in
    omega (arith, first, all)
hold_within (f ∷ fs) (suc i) =
    let next : holds_of (at_place (f ∷ fs) (suc i)) ≡ holds_of (at_place fs i) = refl in
    let all : sum_by holds_of (f ∷ fs) ≡ holds_of f + sum_by holds_of fs = sum_by-cons holds_of f fs in
    let h = hold_within fs i in
    omega (arith, next, all, h)
