use Rattle.std.proofs.Common.{◌≡◌, ◌∙◌, ap, take, arith, None, is_some}
use Rattle.std.specs.Prelude.{fold}
use Rattle.std.proofs.lemmas.Grind.{common_steps}
use Rattle.bsd_proc.specs.Steps.{found_with}
use Rattle.bsd_proc.specs.Taking.{first_ready}
use Rattle.bsd_proc.proofs.Lowest.{found-first, if_may, some-unblocked}
use Rattle.bsd_proc.proofs.pending.lowest_unblocked.Goals as goal

pub returns : goal.returns
returns c =
    let all : take c.loop-signal.signal-index c.args.signals.now ≡ c.args.signals.now = grind (arith, common_steps) in
    let found : c.loop-signal.found ≡ first_ready c.args.mask c.args.signals.now =
    c.loop-signal.invariant ∙ ap (λ xs. fold (found_with c.args.mask) None xs) all ∙ found-first c.args.mask c.args.signals.now in
    record {
      lowest = found;
      may = if_may c.args.mask c.args.signals.now c.loop-signal.found found;
      some = ap is_some found ∙ some-unblocked c.args.mask c.args.signals.now;
    }
