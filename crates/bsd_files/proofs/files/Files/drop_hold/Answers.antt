use Rattle.std.proofs.Common.{sym, subst}
use Rattle.lx_machine.specs.Files.{given_back}
use Rattle.lx_machine.specs.declared.files.Files.{Files}
use Rattle.open_files.proofs.Keeping.{given_kept}
use Rattle.open_files.specs.Named.{IsKept}
use Rattle.open_files.specs.PlainParts.{plain_in}
use Rattle.open_files.specs.declared.plain.Plain.{Plain}
use Rattle.bsd_files.proofs.files.Files.drop_hold.Goals as goal

pub invariant_of-self : goal.invariant_of-self
invariant_of-self c = record {
  events = c.self.invariant.events;
  kept = subst (λ (F : Files). IsKept F) (sym c.give_back.ensures.plain)
      (subst (λ (p : Plain). IsKept (given_back (plain_in p) c.args.file)) (sym c.deref_mut.ensures.value) (given_kept (plain_in c.self.inside.plain.value) c.args.file c.self.invariant.kept));
}
