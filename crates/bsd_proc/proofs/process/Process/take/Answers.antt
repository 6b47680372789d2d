use Rattle.std.proofs.Common.{◌∙◌, ap, is_some}
use Rattle.bsd_proc.specs.Taking.{pending_for}
use Rattle.bsd_proc.proofs.Lowest.{taken-there}
use Rattle.bsd_proc.proofs.process.Process.take.Goals as goal

pub take_from-requires-clause-there : goal.take_from-requires-clause-there
take_from-requires-clause-there c = taken-there c.args.mask (pending_for c.args.self.now c.in-Some.target) c.in-Some.sig c.in-Some.ensures.may

pub returns-in-Some-clause-some : goal.returns-in-Some-clause-some
returns-in-Some-clause-some c =
    ap is_some c.take_from.ensures.taken
    ∙ taken-there c.args.mask (pending_for c.args.self.now c.in-Some.target) c.in-Some.sig c.in-Some.ensures.may
    ∙ c.in-Some.ensures.some
