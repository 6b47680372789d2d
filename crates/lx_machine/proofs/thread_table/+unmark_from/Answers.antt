use Rattle.std.proofs.Common.{arith, refl, drop}
use Rattle.std.proofs.lemmas.List.{take-append-drop}
use Rattle.lx_machine.proofs.ThreadTable.{free_further, unmarked_free}
use Rattle.lx_machine.specs.ThreadTable.{IsFreeFrom}
use Rattle.lx_machine.proofs.thread_table.+unmark_from.Goals as goal

pub returns-else-at-used-clause-marks : goal.returns-else-at-used-clause-marks
returns-else-at-used-clause-marks t c =
    let f : IsFreeFrom c.args.at c.args.places.now.items = free_further c.args.used c.args.at c.args.places.now.items (omega arith) c.requires.free in
    let e = unmarked_free c.args.at c.args.slot c.args.first c.args.last (drop c.args.at c.args.places.now.items) f in
    rw (e, take-append-drop c.args.at c.args.places.now.items) refl
