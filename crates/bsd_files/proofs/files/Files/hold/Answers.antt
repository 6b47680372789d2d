use Rattle.std.proofs.Common.{arith, ap, sym, subst, ◌∙◌, ◌≡◌, ◌<◌}
use Rattle.std.specs.Prelude.{List, Option, Some, slice_set}
use Rattle.lx_machine.specs.Lists.{at_place}
use Rattle.lx_machine.specs.declared.files.OpenFile.{OpenFile}
use Rattle.open_files.proofs.Keeping.{file_changed}
use Rattle.open_files.specs.Named.{AreKept, holds_in, holds_of}
use Rattle.open_files.specs.PlainParts.{plain_in}
use Rattle.open_files.specs.declared.plain.Plain.{Plain}
use Rattle.bsd_files.specs.State.{FilesState}
use Rattle.bsd_files.proofs.Holds.{hold_within}
use Rattle.bsd_files.proofs.files.Files.hold.Goals as goal

pub held_once_more-requires : goal.held_once_more-requires
held_once_more-requires c =
    let h = hold_within c.self.inside.plain.value.files c.args.file in
    let e : c.in-Some.f.holds ≡ holds_of (at_place c.self.inside.plain.value.files c.args.file) =
    ap holds_of (c.in-Some.ensures ∙ ap (λ (p : Plain). at_place p.files c.args.file) c.deref.ensures) in
    let few = subst (λ (S : FilesState). holds_in S.plain < 128) (sym c.self.view_is) c.requires.few in
    omega (arith, h, e, few)

pub invariant_of-self : goal.invariant_of-self
invariant_of-self c =
    let few = subst (λ (S : FilesState). holds_in S.plain < 128) (sym c.self.view_is) c.requires.few in
    let more = ap (λ (f : OpenFile). f.holds) c.held_once_more.ensures in
    record {
      events = c.self.invariant.events;
      kept = subst (λ (fs : List (Option OpenFile)). AreKept c.deref_mut.result.now.descriptors fs c.deref_mut.result.now.counters) (sym c.set_place.ensures)
          (subst (λ (p : Plain). AreKept p.descriptors (slice_set p.files c.args.file (Some c.held_once_more.result)) p.counters) (sym c.deref_mut.ensures.value)
          (file_changed (plain_in c.self.inside.plain.value) c.args.file 1 c.in-Some.f c.held_once_more.result c.self.invariant.kept
          (sym (c.in-Some.ensures ∙ ap (λ (p : Plain). at_place p.files c.args.file) c.deref.ensures))
          (ap (λ (f : OpenFile). f.kind) c.held_once_more.ensures) (omega (arith, more)) (omega (arith, few))));
    }
