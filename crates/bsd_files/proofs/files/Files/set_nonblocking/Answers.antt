use Rattle.std.proofs.Common.{ap, sym, subst, arith, ◌∙◌}
use Rattle.std.specs.Prelude.{List, Option, Some, slice_set}
use Rattle.lx_machine.specs.Lists.{at_place}
use Rattle.lx_machine.specs.declared.files.OpenFile.{OpenFile}
use Rattle.open_files.proofs.Keeping.{file_changed}
use Rattle.open_files.specs.Named.{AreKept}
use Rattle.open_files.specs.PlainParts.{plain_in}
use Rattle.open_files.specs.declared.plain.Plain.{Plain}
use Rattle.bsd_files.proofs.files.Files.set_nonblocking.Goals as goal

pub invariant_of-self : goal.invariant_of-self
invariant_of-self c =
    let few = c.self.invariant.kept.holds in
    let same = ap (λ (f : OpenFile). f.holds) c.with_nonblocking.ensures in
    record {
      events = c.self.invariant.events;
      kept = subst (λ (fs : List (Option OpenFile)). AreKept c.deref_mut.result.now.descriptors fs c.deref_mut.result.now.counters) (sym c.set_place.ensures)
          (subst (λ (p : Plain). AreKept p.descriptors (slice_set p.files c.args.file (Some c.with_nonblocking.result)) p.counters) (sym c.deref_mut.ensures.value)
          (file_changed (plain_in c.self.inside.plain.value) c.args.file 0 c.in-Some.f c.with_nonblocking.result c.self.invariant.kept
          (sym (c.in-Some.ensures ∙ ap (λ (p : Plain). at_place p.files c.args.file) c.deref.ensures))
          (ap (λ (f : OpenFile). f.kind) c.with_nonblocking.ensures) (omega (arith, same)) (omega (arith, few))));
    }
