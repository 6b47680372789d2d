use Rattle.std.proofs.Common.{sym, subst}
use Rattle.lx_machine.specs.declared.files.Files.{Files}
use Rattle.bsd_files.proofs.Kept.{read_kept, write_kept}
use Rattle.bsd_files.specs.Look.{read_look, write_look}
use Rattle.open_files.specs.Named.{IsKept}
use Rattle.open_files.specs.PlainParts.{plain_in}
use Rattle.open_files.specs.declared.plain.Plain.{Plain}
use Rattle.bsd_files.proofs.files.Files.look.Goals as goal

pub invariant_of-self-then-call : goal.invariant_of-self-then-call
invariant_of-self-then-call c = record {
  events = c.self.invariant.events;
  kept = subst (λ (F : Files). IsKept F) (sym c.look_at_write.ensures.plain)
      (subst (λ (p : Plain). IsKept (write_look (plain_in p) c.args.call.now.done c.bytes_left.result.now c.in-Some.f c.in-Some.f.kind).plain) (sym c.deref_mut-plain.ensures.value)
      (write_kept (plain_in c.self.inside.plain.value) c.args.call.now.done c.bytes_left.result.now c.in-Some.f c.in-Some.f.kind c.self.invariant.kept));
}

pub invariant_of-self-else-call : goal.invariant_of-self-else-call
invariant_of-self-else-call c = record {
  events = c.self.invariant.events;
  kept = subst (λ (F : Files). IsKept F) (sym c.look_at_read.ensures.plain)
      (subst (λ (p : Plain). IsKept (read_look (plain_in p) c.args.call.now.len c.in-Some.f c.in-Some.f.kind).plain) (sym c.deref_mut-plain.ensures.value)
      (read_kept (plain_in c.self.inside.plain.value) c.args.call.now.len c.in-Some.f c.in-Some.f.kind c.self.invariant.kept));
}
