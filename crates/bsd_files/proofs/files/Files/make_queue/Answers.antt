use Rattle.std.proofs.Common.{ap, sym, subst, ◌∙◌, ◌≡◌, ◌≤◌, false}
use Rattle.std.specs.Prelude.{is_none, is_some, count_by}
use Rattle.lx_machine.specs.Files.{with_file}
use Rattle.lx_machine.specs.Lists.{first_free}
use Rattle.lx_machine.specs.declared.files.FileKind.TheVariants as kind
use Rattle.lx_machine.specs.declared.files.Files.{Files}
use Rattle.bsd_files.specs.State.{FilesState}
use Rattle.open_files.proofs.Keeping.{queue_kept}
use Rattle.open_files.proofs.Places.{numbers_free}
use Rattle.open_files.specs.Making.{numbers_in}
use Rattle.open_files.specs.Named.{AllNamed, IsKept}
use Rattle.open_files.specs.PlainParts.{plain_in}
use Rattle.open_files.specs.declared.plain.Plain.{Plain}
use Rattle.bsd_files.proofs.files.Files.make_queue.Goals as goal

pub invariant_of-self : goal.invariant_of-self
invariant_of-self c = record {
  events = c.self.invariant.events;
  kept = subst (λ (F : Files). IsKept F) (sym (c.add_file.ensures ∙ ap (λ (p : Plain). with_file (plain_in p) c.in-Some.at.file (kind.Epoll c.in-Some.at.number) false) c.deref_mut.ensures.value))
      (queue_kept (plain_in c.self.inside.plain.value) c.self.inside.queues c.in-Some.at (kind.Epoll c.in-Some.at.number)
      (ap (λ (p : Plain). numbers_in (plain_in p) c.self.inside.queues) (sym c.deref.ensures) ∙ sym c.in-Some.ensures.numbers) c.self.invariant.kept);
}

pub returns-in-None-clause-room : goal.returns-in-None-clause-room
returns-in-None-clause-room c =
    subst (λ (S : FilesState). AllNamed S.plain → 1 ≤ count_by is_none S.plain.descriptors → is_some (numbers_in S.plain S.queues) ≡ is_some (first_free S.queues))
    c.self.view_is (numbers_free (plain_in c.self.inside.plain.value) c.self.inside.queues c.self.invariant.kept)
