use Rattle.std.proofs.Common.{◌∙◌, sym, arith}
use Rattle.std.proofs.lemmas.Grind.{elements}
use Rattle.elf_image.proofs.FaultOrder.{first_fault-more, first_fault-stop, first_fault-end}
use Rattle.elf_image.proofs.rules.check_headers.Goals as goal

pub returns-in-Some-clause-fault : goal.returns-in-Some-clause-fault
returns-in-Some-clause-fault c =
    first_fault-stop _ _ _ _ _ c.loop-index-test.true c.loop-index.invariant.0 (sym c.fault.ensures.fault ∙ c.in-Some.is)

pub loop-index-preserved : goal.loop-index-preserved
loop-index-preserved c =
    (first_fault-more _ _ _ _ _ c.loop-index-test.true c.loop-index.invariant.0 (sym c.fault.ensures.fault ∙ c.in_default.is), grind (arith, elements, c.in_default.ensures.in_file), grind (arith, elements, c.in_default.ensures.in_memory))

pub returns-clause-fault : goal.returns-clause-fault
returns-clause-fault c = first_fault-end _ _ _ c.loop-index-test.false c.loop-index.invariant.0
