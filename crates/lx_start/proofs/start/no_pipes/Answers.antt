use Rattle.std.proofs.Common.{rules}
use Rattle.lx_start.proofs.Nones.{all_none}
use Rattle.lx_start.proofs.start.no_pipes.Goals as goal

pub returns : goal.returns
returns c = all_none c.from_fn.result 64 c.from_fn.ensures.items.long (λ i e lt. let made = (c.from_fn.ensures.items.at i e lt).2.met in search rules)
