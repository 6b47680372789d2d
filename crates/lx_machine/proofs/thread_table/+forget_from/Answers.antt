use Rattle.std.proofs.Common.{arith, refl, drop}
use Rattle.std.proofs.lemmas.List.{take-append-drop}
use Rattle.lx_machine.proofs.ThreadTable.{free_further, forgotten_free}
use Rattle.lx_machine.specs.ThreadTable.{IsFreeFrom}
use Rattle.lx_machine.proofs.thread_table.+forget_from.Goals as goal

pub returns-else-at-used-clause-signals : goal.returns-else-at-used-clause-signals
returns-else-at-used-clause-signals t c =
    let f : IsFreeFrom c.args.at c.args.places.now.items = free_further c.args.used c.args.at c.args.places.now.items (omega arith) c.requires.free in
    let e = forgotten_free c.args.signal (drop c.args.at c.args.places.now.items) f in
    rw (e, take-append-drop c.args.at c.args.places.now.items) refl
