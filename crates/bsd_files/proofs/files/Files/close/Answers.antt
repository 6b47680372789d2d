use Rattle.std.proofs.Common.{sym, subst}
use Rattle.lx_machine.specs.Files.{closed}
use Rattle.lx_machine.specs.declared.files.Files.{Files}
use Rattle.open_files.proofs.Keeping.{closed_kept}
use Rattle.open_files.specs.Named.{IsKept}
use Rattle.open_files.specs.PlainParts.{plain_in}
use Rattle.open_files.specs.declared.plain.Plain.{Plain}
use Rattle.bsd_files.proofs.files.Files.close.Goals as goal

pub invariant_of-self : goal.invariant_of-self
invariant_of-self c = record {
  events = c.self.invariant.events;
  kept = subst (λ (F : Files). IsKept F) (sym c.close_descriptor.ensures.plain)
      (subst (λ (p : Plain). IsKept (closed (plain_in p) c.args.fd)) (sym c.deref_mut.ensures.value) (closed_kept (plain_in c.self.inside.plain.value) c.args.fd c.self.invariant.kept));
}
