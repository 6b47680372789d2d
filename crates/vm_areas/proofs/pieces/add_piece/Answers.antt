use Rattle.std.proofs.Common.{◌∙◌, sym, ap, ◌++◌, ◌∷◌, []}
use Rattle.vm_areas.proofs.Joining.{with_piece-touching, with_piece-apart}
use Rattle.vm_areas.proofs.pieces.add_piece.Goals as goal

pub returns-then-touches-clause-items : goal.returns-then-touches-clause-items
returns-then-touches-clause-items c =
    c.push_reserved-then-touches.ensures.items
    ∙ sym (with_piece-touching c.args.areas.now.items c.pop.new.self.items c.in-Some.last c.args.piece c.in-Some.ensures.items c.if-piece-eq0.false (sym c.touches.ensures ∙ c.if-touches.true))

pub returns-clause-items : goal.returns-clause-items
returns-clause-items c =
    c.push_reserved-3.ensures.items
    ∙ ap (λ r. r ++ c.args.piece ∷ []) c.push_reserved-2.ensures.items
    ∙ sym (with_piece-apart c.args.areas.now.items c.pop.new.self.items c.in-Some.last c.args.piece c.in-Some.ensures.items c.if-piece-eq0.false (sym c.touches.ensures ∙ c.if-touches.false))
