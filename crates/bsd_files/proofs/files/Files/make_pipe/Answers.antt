use Rattle.std.proofs.Common.{ap, sym, subst, ◌∙◌, ◌≡◌, ◌≤◌}
use Rattle.std.specs.Prelude.{is_none, is_some, count_by}
use Rattle.lx_machine.specs.Lists.{first_free}
use Rattle.lx_machine.specs.declared.files.Files.{Files}
use Rattle.bsd_files.specs.State.{FilesState}
use Rattle.open_files.proofs.Keeping.{pipe_kept}
use Rattle.open_files.proofs.Places.{pipe_free}
use Rattle.open_files.specs.Making.{pipe_numbers, with_pipe_at}
use Rattle.open_files.specs.Named.{AllNamed, IsKept}
use Rattle.open_files.specs.PlainParts.{plain_in}
use Rattle.open_files.specs.declared.plain.Plain.{Plain}
use Rattle.bsd_files.proofs.files.Files.make_pipe.Goals as goal

pub invariant_of-self : goal.invariant_of-self
invariant_of-self c = record {
  events = c.self.invariant.events;
  kept = subst (λ (F : Files). IsKept F) (sym (c.add_pipe.ensures ∙ ap (λ (p : Plain). with_pipe_at (plain_in p) c.in-Some.at) c.deref_mut.ensures.value))
      (pipe_kept (plain_in c.self.inside.plain.value) c.in-Some.at
      (ap (λ (p : Plain). pipe_numbers (plain_in p)) (sym c.deref.ensures) ∙ sym c.in-Some.ensures.numbers) c.self.invariant.kept);
}

pub returns-in-None-clause-room : goal.returns-in-None-clause-room
returns-in-None-clause-room c =
    subst (λ (S : FilesState). AllNamed S.plain → 2 ≤ count_by is_none S.plain.descriptors → is_some (pipe_numbers S.plain) ≡ is_some (first_free S.plain.pipes))
    c.self.view_is (pipe_free (plain_in c.self.inside.plain.value) c.self.invariant.kept)
