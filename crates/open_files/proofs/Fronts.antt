-- What is put to the front of a part of a buffer stands at the front of the buffer.
use Rattle.std.specs.Prelude.{◌≡◌, refl, ◌≤◌, ℕ, List, ◌++◌, take, drop, length, min}
use Rattle.std.proofs.Common.{arith, ap, sym, ◌∙◌}
use Rattle.std.proofs.Math.Nat.{min-le_left}
use Rattle.std.proofs.lemmas.List.{append_assoc, take-append-drop, drop-append-le, length-take, length-take-le}

-- behind its first j elements a list goes on as the rest of a longer front and what is behind that
rest_kept : (j n : ℕ) (xs : List ℕ) → j ≤ n → n ≤ length xs → drop j (take n xs) ++ drop n xs ≡ drop j xs
rest_kept j n xs h k =
    let l : length (take n xs) ≡ n = length-take-le n xs k in
    sym (drop-append-le j (take n xs) (drop n xs) (omega (arith, l, h))) ∙ ap (drop j) (take-append-drop n xs)

taken_put : (n : ℕ) (held buffer : List ℕ) → n ≤ length buffer
    → (take n held ++ drop (length (take n held)) (take n buffer)) ++ drop n buffer ≡ take n held ++ drop (length (take n held)) buffer
taken_put n held buffer k =
    let l : length (take n held) ≡ min n (length held) = length-take n held in
    let m : min n (length held) ≤ n = min-le_left n (length held) in
    append_assoc (take n held) (drop (length (take n held)) (take n buffer)) (drop n buffer)
    ∙ ap (λ ys. take n held ++ ys) (rest_kept (length (take n held)) n buffer (omega (arith, l, m)) k)

pub front_put : (n : ℕ) (held buffer part into : List ℕ) → n ≤ length buffer → part ≡ take n buffer
    → into ≡ take (length part) held ++ drop (length (take (length part) held)) part
    → into ++ drop n buffer ≡ take n held ++ drop (length (take n held)) buffer
front_put n held buffer part into k e h =
    let l : length part ≡ n = ap length e ∙ length-take-le n buffer k in
    ap (λ ys. ys ++ drop n buffer) (h ∙ rw (l, e) refl) ∙ taken_put n held buffer k
