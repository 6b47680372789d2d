-- Pieces joined from either end make the same areas.
use Rattle.std.proofs.Common.{◌≡◌, ℕ, true, false, ◌+◌, ◌^◌, refl, sym, ◌∙◌, ap, arith, inl, inr, List, [], ◌∷◌, ◌++◌, Option, Some, None, if◌then◌else◌, ◌==◌, map, fold, append-nil, append_assoc, ne_eqb}
use Rattle.std.proofs.lemmas.Bool.{cases_Bool}
use Rattle.vm_areas.specs.declared.runs.Area.{Area}
use Rattle.page_ranges.specs.declared.rights.Rights.{Rights}
use Rattle.vm_areas.specs.Painted.{clipped, touches, grown, joined_to, join, joined, range_of, painted}
use Rattle.vm_areas.specs.Steps.{behind, with_last, with_piece, with_part}
use Rattle.vm_areas.proofs.Touching.{touches-grown}

behind-append : (area : Area) (front : List Area) (last : Area) (after : List Area) → behind area (front ++ last ∷ []) after ≡ area ∷ after
behind-append area [] last after = refl
behind-append area (x ∷ xs) last after = refl

-- a piece behind the last area
pub with_last-append : (front : List Area) (last piece : Area) → with_last (front ++ last ∷ []) piece ≡ front ++ joined_to last (piece ∷ [])
with_last-append [] last piece = refl
with_last-append (x ∷ xs) last piece = behind-append x xs last (with_last (xs ++ last ∷ []) piece) ∙ ap (λ r. x ∷ r) (with_last-append xs last piece)

pub joined_to-touching : (area next : Area) (areas : List Area) → touches area next ≡ true → joined_to area (next ∷ areas) ≡ grown area next ∷ areas
joined_to-touching area next areas e = ap (λ b. if b then grown area next ∷ areas else area ∷ next ∷ areas) e

pub joined_to-apart : (area next : Area) (areas : List Area) → touches area next ≡ false → joined_to area (next ∷ areas) ≡ area ∷ next ∷ areas
joined_to-apart area next areas e = ap (λ b. if b then grown area next ∷ areas else area ∷ next ∷ areas) e

grown-grown : (a b c : Area) → grown a (grown b c) ≡ grown (grown a b) c
grown-grown a b c =
    let sums : a.pages + (b.pages + c.pages) ≡ a.pages + b.pages + c.pages = omega arith in
    λ i. record { first = a.first; pages = sums i; rights = a.rights }

-- two pieces behind an area, joined from either end
three-joined : (a b c : Area) → touches a b ≡ true → joined_to a (joined_to b (c ∷ [])) ≡ joined_to (grown a b) (c ∷ [])
three-joined a b c ab = elim (cases_Bool (touches b c)) [
  | inl bc ↦ ap (λ r. joined_to a r) (joined_to-touching b c [] bc) ∙ joined_to-touching a (grown b c) [] ab ∙ ap (λ x. x ∷ []) (grown-grown a b c) ∙ sym (joined_to-touching (grown a b) c [] (touches-grown a b c ab ∙ bc))
  | inr bc ↦ ap (λ r. joined_to a r) (joined_to-apart b c [] bc) ∙ joined_to-touching a b (c ∷ []) ab ∙ sym (joined_to-apart (grown a b) c [] (touches-grown a b c ab ∙ bc))
]

three-apart : (a b c : Area) → touches a b ≡ false → joined_to a (joined_to b (c ∷ [])) ≡ a ∷ joined_to b (c ∷ [])
three-apart a b c ab = elim (cases_Bool (touches b c)) [
  | inl bc ↦ ap (λ r. joined_to a r) (joined_to-touching b c [] bc) ∙ joined_to-apart a (grown b c) [] ab ∙ ap (λ r. a ∷ r) (sym (joined_to-touching b c [] bc))
  | inr bc ↦ ap (λ r. joined_to a r) (joined_to-apart b c [] bc) ∙ joined_to-apart a b (c ∷ []) ab ∙ ap (λ r. a ∷ r) (sym (joined_to-apart b c [] bc))
]

three : (a b c : Area) → joined_to a (joined_to b (c ∷ [])) ≡ with_last (joined_to a (b ∷ [])) c
three a b c =
    elim (cases_Bool (touches a b)) [
      | inl ab ↦ three-joined a b c ab ∙ ap (λ r. with_last r c) (sym (joined_to-touching a b [] ab))
      | inr ab ↦ three-apart a b c ab ∙ ap (λ r. with_last r c) (sym (joined_to-apart a b [] ab))
    ]

joined_to-with_last : (area : Area) (areas : List Area) (piece : Area) → joined_to area (with_last areas piece) ≡ with_last (joined_to area areas) piece
joined_to-with_last area [] piece = refl
joined_to-with_last area (x ∷ []) piece = three area x piece
joined_to-with_last area (x ∷ y ∷ ys) piece =
    elim (cases_Bool (touches area x)) [
      | inl e ↦ joined_to-touching area x (with_last (y ∷ ys) piece) e ∙ ap (λ r. with_last r piece) (sym (joined_to-touching area x (y ∷ ys) e))
      | inr e ↦ joined_to-apart area x (with_last (y ∷ ys) piece) e ∙ ap (λ r. with_last r piece) (sym (joined_to-apart area x (y ∷ ys) e))
    ]

pub join-empty : (piece : Area) (areas : List Area) → (piece.pages == 0) ≡ true → join piece areas ≡ areas
join-empty piece areas e = ap (λ b. if b then areas else joined_to piece areas) e

pub join-some : (piece : Area) (areas : List Area) → (piece.pages == 0) ≡ false → join piece areas ≡ joined_to piece areas
join-some piece areas e = ap (λ b. if b then areas else joined_to piece areas) e

join-with_last : (area : Area) (areas : List Area) (piece : Area) → join area (with_last areas piece) ≡ with_last (join area areas) piece
join-with_last area areas piece =
    elim (cases_Bool (area.pages == 0)) [
      | inl e ↦ join-empty area (with_last areas piece) e ∙ ap (λ r. with_last r piece) (sym (join-empty area areas e))
      | inr e ↦ join-some area (with_last areas piece) e ∙ joined_to-with_last area areas piece ∙ ap (λ r. with_last r piece) (sym (join-some area areas e))
    ]

joined-last : (pieces : List Area) (piece : Area) → (piece.pages == 0) ≡ false → joined (pieces ++ piece ∷ []) ≡ with_last (joined pieces) piece
joined-last [] piece some = join-some piece [] some
joined-last (x ∷ xs) piece some = ap (λ r. join x r) (joined-last xs piece some) ∙ join-with_last x (joined xs) piece

joined-empty : (pieces : List Area) (piece : Area) → (piece.pages == 0) ≡ true → joined (pieces ++ piece ∷ []) ≡ joined pieces
joined-empty [] piece empty = join-empty piece [] empty
joined-empty (x ∷ xs) piece empty = ap (λ r. join x r) (joined-empty xs piece empty)

-- one more piece
pub joined-piece : (pieces : List Area) (piece : Area) → joined (pieces ++ piece ∷ []) ≡ with_piece (joined pieces) piece
joined-piece pieces piece =
    elim (cases_Bool (piece.pages == 0)) [
      | inl e ↦ joined-empty pieces piece e ∙ sym (ap (λ b. if b then joined pieces else with_last (joined pieces) piece) e)
      | inr e ↦ joined-last pieces piece e ∙ sym (ap (λ b. if b then joined pieces else with_last (joined pieces) piece) e)
    ]

fold-parts : (from to : ℕ) (areas pieces : List Area) → fold (with_part from to) (joined pieces) areas ≡ joined (pieces ++ map (clipped from to) areas)
fold-parts from to [] pieces = ap joined (sym (append-nil pieces))
fold-parts from to (area ∷ areas) pieces =
    ap (λ r. fold (with_part from to) r areas) (sym (joined-piece pieces (clipped from to area)))
    ∙ fold-parts from to areas (pieces ++ clipped from to area ∷ [])
    ∙ ap joined (append_assoc pieces (clipped from to area ∷ []) (map (clipped from to) areas))

fold-range : (first pages : ℕ) (rights : Option Rights) (pieces : List Area) → fold with_piece (joined pieces) (range_of first pages rights) ≡ joined (pieces ++ range_of first pages rights)
fold-range first pages None pieces = ap joined (sym (append-nil pieces))
fold-range first pages (Some rights) pieces = sym (joined-piece pieces record { first = first; pages = pages; rights = rights })

-- the areas after a change, piece by piece
pub painted-fold : (areas : List Area) (first pages : ℕ) (rights : Option Rights) → fold (with_part (first + pages) (2 ^ 53)) (fold with_piece (fold (with_part 0 first) [] areas) (range_of first pages rights)) areas ≡ painted areas first pages rights
unfolding painted
painted-fold areas first pages rights =
    let below = map (clipped 0 first) areas in
    let range = range_of first pages rights in
    let last = λ (r : List Area). fold (with_part (first + pages) (2 ^ 53)) r areas in
    ap (λ r. last (fold with_piece r range)) (fold-parts 0 first areas [])
    ∙ ap last (fold-range first pages rights below)
    ∙ fold-parts (first + pages) (2 ^ 53) areas (below ++ range)
    ∙ ap joined (append_assoc below range (map (clipped (first + pages) (2 ^ 53)) areas))

-- one more piece, which is not empty, behind areas that end with a last one
with_piece-some : (areas front : List Area) (last piece : Area) → areas ≡ front ++ last ∷ [] → (piece.pages ≡ 0 → ⊥) → with_piece areas piece ≡ front ++ joined_to last (piece ∷ [])
with_piece-some areas front last piece is some =
    ap (λ b. if b then areas else with_last areas piece) (ne_eqb piece.pages 0 some)
    ∙ ap (λ r. with_last r piece) is
    ∙ with_last-append front last piece

pub with_piece-touching : (areas front : List Area) (last piece : Area) → areas ≡ front ++ last ∷ [] → (piece.pages ≡ 0 → ⊥) → touches last piece ≡ true → with_piece areas piece ≡ front ++ grown last piece ∷ []
with_piece-touching areas front last piece is some e =
    with_piece-some areas front last piece is some ∙ ap (λ r. front ++ r) (joined_to-touching last piece [] e)

pub with_piece-apart : (areas front : List Area) (last piece : Area) → areas ≡ front ++ last ∷ [] → (piece.pages ≡ 0 → ⊥) → touches last piece ≡ false → with_piece areas piece ≡ (front ++ last ∷ []) ++ piece ∷ []
with_piece-apart areas front last piece is some e =
    with_piece-some areas front last piece is some ∙ ap (λ r. front ++ r) (joined_to-apart last piece [] e) ∙ sym (append_assoc front (last ∷ []) (piece ∷ []))
