use Rattle.std.proofs.Common.{ap, arith, sym, subst, ◌∙◌}
use Rattle.std.specs.Prelude.{List, Option}
use Rattle.kqueue_core.specs.Queues.{Queue}
use Rattle.lx_machine.specs.Start.{first_files}
use Rattle.lx_machine.specs.declared.files.Files.{Files}
use Rattle.open_files.specs.Plain.{plain_of}
use Rattle.bsd_files.proofs.Kept.{first_kept}
use Rattle.open_files.specs.Named.{IsKept}
use Rattle.bsd_files.proofs.files.Files.make.Goals as goal

pub returns : goal.returns
returns c =
    ap (λ (F : Files). record { plain = F; queues = c.in_ok-queues.queues }) c.in_ok-plain.ensures
    ∙ ap (λ (qs : List (Option Queue)). record { plain = plain_of (first_files c.args.input.items); queues = qs }) c.in_ok-queues.ensures

pub invariant_of-result : goal.invariant_of-result
invariant_of-result c = record {
  events = let h = c.in-Ok.ensures.len in omega (arith, h);
  kept = subst (λ (F : Files). IsKept F) (sym c.in_ok-plain.ensures) (first_kept c.args.input.items);
}
