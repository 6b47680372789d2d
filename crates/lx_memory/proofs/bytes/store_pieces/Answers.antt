use Rattle.std.proofs.Common.{◌+◌, ◌-◌, drop, slice_range, length-take, refl, ap, arith}
use Rattle.page_store.specs.Pages.{Keeping}
use Rattle.lx_memory.specs.Bytes.{with_bytes}
use Rattle.lx_memory.proofs.Stored.{store_step}
use Rattle.lx_memory.proofs.bytes.store_pieces.Goals as goal

pub loop-done-init : goal.loop-done-init
unfolding with_bytes
loop-done-init c = record { within = omega arith; stored = refl }

pub loop-done-preserved : goal.loop-done-preserved
loop-done-preserved c =
    let bytes = c.args.bytes.now in
    let done = c.loop-done.done in
    let end = done + c.piece.result in
    record {
      within = omega (arith, c.piece.ensures, c.loop-done-test.true);
      stored = store_step c.args.pages.now.pages c.loop-done.pages.pages _ c.args.at (c.args.at + done) done end bytes (slice_range bytes done end) c.loop-done.invariant.stored (omega arith) (omega (arith, c.piece.ensures, c.loop-done-test.true)) refl refl (omega (arith, length-take (end - done) (drop done bytes), c.piece.ensures)) c.poke.ensures.whole (ap (λ (k : Keeping). k.pages) c.poke.ensures.after);
    }
