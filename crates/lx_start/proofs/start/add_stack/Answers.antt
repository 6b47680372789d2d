use Rattle.std.proofs.Common.{length, subst, sym, arith}
use Rattle.page_store.specs.Pages.{Pages}
use Rattle.lx_memory.specs.Bytes.{IsMapped}
use Rattle.lx_machine.specs.Start.{stack_rights}
use Rattle.lx_start.proofs.Mapped.{mapped_anew, mapped_stays}
use Rattle.lx_start.proofs.start.add_stack.Goals as goal

pub store-requires-2 : goal.store-requires-2
store-requires-2 c =
    subst (λ (pages : Pages). IsMapped pages c.args.stack.now.texts_at (length c.deref-2.result.now)) (sym c.store.ensures)
    (mapped_stays c.deref.result.now c.map_pages.new.memory c.args.stack.now.sp c.args.stack.now.texts_at (length c.deref-2.result.now)
    (mapped_anew stack_rights c.args.memory.now c.map_pages.new.memory 0x7ffffefc0 64 c.args.stack.now.texts_at (length c.deref-2.result.now) c.in_ok-map_pages.ensures.each (omega arith) (omega arith)))
