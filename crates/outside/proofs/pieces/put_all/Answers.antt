use Rattle.std.proofs.Common.{arith}
use Rattle.std.proofs.lemmas.Grind.{common_steps}
use Rattle.outside.proofs.Parts.{partly_more}
use Rattle.outside.proofs.pieces.put_all.Goals as goal

pub loop-rest-preserved : goal.loop-rest-preserved
loop-rest-preserved g c =
    let i = c.loop-rest.invariant in
    let more = partly_more _ _ _ _ _ _ c.in_ok-count.count i.fits i.left i.written (omega (arith, c.in_ok-count.ensures.count.1)) (grind (arith, common_steps)) c.in_ok-count.ensures.bytes in
    record { fits = more.fits; left = more.left; written = more.written; quiet = grind (arith, c.in_ok-count.ensures.cause.kept) }
