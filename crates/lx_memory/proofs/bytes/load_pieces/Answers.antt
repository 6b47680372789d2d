use Rattle.std.proofs.Common.{length, arith}
use Rattle.lx_memory.proofs.Stored.{bytes_at-is}
use Rattle.lx_memory.proofs.bytes.load_pieces.Goals as goal

pub returns : goal.returns
returns c = bytes_at-is c.args.pages.now.pages c.args.at (length c.args.into.now) c.loop-done.into c.loop-done.auto.into (λ k lt. c.loop-done.invariant.loaded k (omega arith))
