use Rattle.std.proofs.Common.{ℕ, take, replicate, ◌∙◌, ap}
use Rattle.std.proofs.lemmas.List.{length-take-le}
use Rattle.lx_instructions.proofs.Filled.{filled_bytes, taken_bytes}
use Rattle.lx_instructions.proofs.access.bytes_in.Goals as goal

pub returns-clause-filled : goal.returns-clause-filled
returns-clause-filled c =
    rw (c.load.ensures, length-take-le {A = ℕ} c.args.len (replicate 32 0) c.requires.fits)
    (filled_bytes c.args.memory.now c.args.at c.args.len)

pub returns-clause-taken : goal.returns-clause-taken
returns-clause-taken c = ap (take c.args.len) (returns-clause-filled c) ∙ taken_bytes c.args.memory.now c.args.at c.args.len
