use Rattle.std.proofs.Common.{◌+◌, ◌∙◌, sym, ap, Some}
use Rattle.vm_areas.specs.declared.tally.Tally.{Tally}
use Rattle.vm_areas.specs.Painted.{grown}
use Rattle.vm_areas.proofs.Counting.{tally-touching, tally-apart, tally-first}
use Rattle.vm_areas.proofs.tally.count_piece.Goals as goal
use Rattle.vm_areas.proofs.tally.count_piece.Goals.{in_default-via-in-Some+else-touches, in_default-via-in_default}

pub returns-in-Some-clause-tally : goal.returns-in-Some-clause-tally
returns-in-Some-clause-tally c areas is =
    let piece = c.args.piece in
    let last = c.in-Some.last in
    let before = sym (ap (λ (t : Tally). t.last) is) ∙ c.in-Some.is in
    ap (λ n. record { count = n; last = Some (grown last piece) }) (ap (λ (t : Tally). t.count) is)
    ∙ sym (tally-touching areas last piece before c.if-piece-eq0.false (sym c.touches.ensures ∙ c.if-touches.true))

pub returns-in_default-clause-tally : goal.returns-in_default-clause-tally
returns-in_default-clause-tally c areas is =
    let piece = c.args.piece in
    let last = ap (λ (t : Tally). t.last) is in
    ap (λ n. record { count = n + 1; last = Some piece }) (ap (λ (t : Tally). t.count) is)
    ∙ sym (elim c.in_default.branch [
      | in_default-via-in-Some+else-touches w ↦ tally-apart areas w.in-Some.last piece (sym last ∙ w.in-Some.is) c.if-piece-eq0.false (sym w.touches.ensures ∙ w.if-touches.false)
      | in_default-via-in_default w ↦ tally-first areas piece (sym last ∙ w.in_default.is) c.if-piece-eq0.false
    ])
