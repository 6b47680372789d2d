use Rattle.std.proofs.Common.{ap, sym, subst, ◌∙◌}
use Rattle.lx_machine.specs.declared.files.Files.{Files}
use Rattle.open_files.proofs.Keeping.{counter_kept}
use Rattle.open_files.specs.Making.{numbers_in, with_counter_at}
use Rattle.open_files.specs.Named.{IsKept}
use Rattle.open_files.specs.PlainParts.{plain_in}
use Rattle.open_files.specs.declared.plain.Plain.{Plain}
use Rattle.bsd_files.proofs.files.Files.make_counter.Goals as goal

pub invariant_of-self : goal.invariant_of-self
invariant_of-self c = record {
  events = c.self.invariant.events;
  kept = subst (λ (F : Files). IsKept F) (sym (c.add_counter.ensures ∙ ap (λ (p : Plain). with_counter_at (plain_in p) c.in-Some.at c.args.value c.args.semaphore) c.deref_mut.ensures.value))
      (counter_kept (plain_in c.self.inside.plain.value) c.in-Some.at c.args.value c.args.semaphore
      (ap (λ (p : Plain). numbers_in (plain_in p) p.counters) (sym c.deref.ensures) ∙ sym c.in-Some.ensures) c.self.invariant.kept);
}
