-- How many areas there are once a piece stands behind them, and which is the last.
use Rattle.std.proofs.Common.{◌≡◌, true, false, ◌+◌, refl, sym, ◌∙◌, ap, arith, List, [], ◌∷◌, ◌++◌, length, length-append, Option, Some, None, if◌then◌else◌, ne_eqb, eq-eqb}
use Rattle.std.specs.Option.{option_or}
use Rattle.vm_areas.specs.declared.runs.Area.{Area}
use Rattle.vm_areas.specs.Painted.{touches, grown}
use Rattle.vm_areas.specs.Steps.{with_last, with_piece, last_of, tally_of}
use Rattle.vm_areas.proofs.Joining.{with_piece-touching, with_piece-apart}

some_is : (one other : Area) → Some one ≡ Some other → one ≡ other
some_is one other e = cc

drop_or : (o : Option Area) (x area last : Area) → option_or (option_or o (Some x)) (Some area) ≡ Some last → option_or o (Some x) ≡ Some last
drop_or None x area last e = e
drop_or (Some y) x area last e = e

-- areas that end with a last one
last_view-cons : (area : Area) (areas : List Area) (last : Area) → ((l : Area) → last_of areas ≡ Some l → (front : List Area) × (areas ≡ front ++ l ∷ [])) → last_of (area ∷ areas) ≡ Some last → (front : List Area) × ((area ∷ areas) ≡ front ++ last ∷ [])
last_view-cons area [] last rest e = ([], ap (λ x. x ∷ []) (some_is area last e))
last_view-cons area (x ∷ xs) last rest e =
    let v = rest last (drop_or (last_of xs) x area last e) in
    (area ∷ v.0, ap (λ r. area ∷ r) v.1)

last_view : (areas : List Area) (last : Area) → last_of areas ≡ Some last → (front : List Area) × (areas ≡ front ++ last ∷ [])
last_view [] last e = cc
last_view (area ∷ areas) last e = last_view-cons area areas last (λ l h. last_view areas l h) e

last_of-append : (front : List Area) (last : Area) → last_of (front ++ last ∷ []) ≡ Some last
last_of-append [] last = refl
last_of-append (x ∷ xs) last = ap (λ o. option_or o (Some x)) (last_of-append xs last)

or_some : (o : Option Area) (area : Area) → option_or o (Some area) ≡ None → ⊥
or_some None area e = cc
or_some (Some x) area e = cc

no_last : (areas : List Area) → last_of areas ≡ None → areas ≡ []
no_last [] e = refl
no_last (area ∷ areas) e = absurd (or_some (last_of areas) area e)

tally_of-append : (front : List Area) (last : Area) → tally_of (front ++ last ∷ []) ≡ record { count = length front + 1; last = Some last }
tally_of-append front last =
    let lengths : length (front ++ last ∷ []) ≡ length front + 1 = omega (arith, length-append front (last ∷ [])) in
    λ i. record { count = lengths i; last = last_of-append front last i }

-- an empty piece changes nothing
pub tally-empty : (areas : List Area) (piece : Area) → piece.pages ≡ 0 → tally_of (with_piece areas piece) ≡ tally_of areas
tally-empty areas piece empty = ap (λ b. tally_of (if b then areas else with_last areas piece)) (eq-eqb piece.pages 0 empty)

pub tally-touching : (areas : List Area) (last piece : Area) → last_of areas ≡ Some last → (piece.pages ≡ 0 → ⊥) → touches last piece ≡ true → tally_of (with_piece areas piece) ≡ record { count = length areas; last = Some (grown last piece) }
tally-touching areas last piece is some e =
    let v = last_view areas last is in
    let lengths : length v.0 + 1 ≡ length areas = omega (arith, length-append v.0 (last ∷ []), ap length v.1) in
    ap tally_of (with_piece-touching areas v.0 last piece v.1 some e)
    ∙ tally_of-append v.0 (grown last piece)
    ∙ (λ i. record { count = lengths i; last = Some (grown last piece) })

pub tally-apart : (areas : List Area) (last piece : Area) → last_of areas ≡ Some last → (piece.pages ≡ 0 → ⊥) → touches last piece ≡ false → tally_of (with_piece areas piece) ≡ record { count = length areas + 1; last = Some piece }
tally-apart areas last piece is some e =
    let v = last_view areas last is in
    ap tally_of (with_piece-apart areas v.0 last piece v.1 some e)
    ∙ ap (λ r. tally_of (r ++ piece ∷ [])) (sym v.1)
    ∙ tally_of-append areas piece

pub tally-first : (areas : List Area) (piece : Area) → last_of areas ≡ None → (piece.pages ≡ 0 → ⊥) → tally_of (with_piece areas piece) ≡ record { count = length areas + 1; last = Some piece }
tally-first areas piece none some =
    let empty = no_last areas none in
    ap (λ b. tally_of (if b then areas else with_last areas piece)) (ne_eqb piece.pages 0 some)
    ∙ ap (λ r. tally_of (with_last r piece)) empty
    ∙ ap (λ r. record { count = length r + 1; last = Some piece }) (sym empty)
