-- What equal rights say, and areas that touch.
use Rattle.std.proofs.Common.{◌≡◌, ◌≢◌, Bool, true, false, ◌+◌, ◌&&◌, eqb, ◌==◌, refl, subst, arith, eqb-true, eq-eqb}
use Rattle.std.specs.Bool.{beq}
use Rattle.std.proofs.lemmas.Bool.{and_parts, and_from, both_ways}
use Rattle.vm_areas.specs.declared.runs.Area.{Area}
use Rattle.page_ranges.specs.declared.rights.Rights.{Rights}
use Rattle.page_ranges.specs.RightsRules.{same_rights}
use Rattle.vm_areas.specs.PageMap.{end_of}
use Rattle.vm_areas.specs.Painted.{touches, grown}

beq-true : (x y : Bool) → beq x y ≡ true → x ≡ y
beq-true true true e = refl
beq-true true false e = cc
beq-true false true e = cc
beq-true false false e = refl

beq-self : (x : Bool) → beq x x ≡ true
beq-self true = refl
beq-self false = refl

pub rights_are_same : (one other : Rights) → same_rights one other ≡ true → one ≡ other
rights_are_same one other e =
    let parts = and_parts (beq one.read other.read && beq one.write other.write) (beq one.execute other.execute) e in
    let front = and_parts (beq one.read other.read) (beq one.write other.write) parts.0 in
    λ i. record { read = beq-true one.read other.read front.0 i; write = beq-true one.write other.write front.1 i; execute = beq-true one.execute other.execute parts.1 i }

same_rights-self : (one : Rights) → same_rights one one ≡ true
same_rights-self one =
    and_from (beq one.read one.read && beq one.write one.write) (beq one.execute one.execute)
    (and_from (beq one.read one.read) (beq one.write one.write) (beq-self one.read) (beq-self one.write)) (beq-self one.execute)

same_rights-true : (one other : Rights) → one ≡ other → same_rights one other ≡ true
same_rights-true one other e =
    let P : Rights → Type 0 = λ r. same_rights one r ≡ true in subst P e (same_rights-self one)

-- areas that touch lie end to end and have equal rights
pub touching : (area next : Area) → touches area next ≡ true → (end_of area ≡ next.first) × (area.rights ≡ next.rights)
touching area next e =
    let parts = and_parts (end_of area == next.first) (same_rights area.rights next.rights) e in
    (eqb-true (end_of area) next.first parts.0, rights_are_same area.rights next.rights parts.1)

-- and areas that do not touch, and lie end to end, have other rights
pub not_touching : (area next : Area) → touches area next ≡ false → end_of area ≡ next.first → area.rights ≢ next.rights
not_touching area next none at same =
    both_ways (touches area next) none
    (and_from (end_of area == next.first) (same_rights area.rights next.rights) (eq-eqb (end_of area) next.first at) (same_rights-true area.rights next.rights same))

-- what has grown by an area touches what that area touches
pub touches-grown : (area next third : Area) → touches area next ≡ true → touches (grown area next) third ≡ touches next third
touches-grown area next third e =
    let t = touching area next e in
    let ends : area.first + (area.pages + next.pages) ≡ next.first + next.pages = omega (arith, t.0) in
    λ i. (eqb (ends i) third.first) && same_rights (t.1 i) third.rights
