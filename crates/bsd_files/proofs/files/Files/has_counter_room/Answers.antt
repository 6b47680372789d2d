use Rattle.std.proofs.Common.{ap, sym, subst, ◌∙◌, ◌≤◌}
use Rattle.std.specs.Prelude.{is_none, is_some, count_by}
use Rattle.bsd_files.specs.State.{FilesState}
use Rattle.open_files.proofs.Places.{counter_free}
use Rattle.open_files.specs.Making.{numbers_in}
use Rattle.open_files.specs.Named.{AllNamed}
use Rattle.open_files.specs.PlainParts.{plain_in}
use Rattle.open_files.specs.declared.plain.Plain.{Plain}
use Rattle.bsd_files.proofs.files.Files.has_counter_room.Goals as goal

pub returns-clause-always : goal.returns-clause-always
returns-clause-always c = λ all free.
    c.is_some.ensures ∙ ap is_some (c.counter_numbers.ensures ∙ ap (λ (p : Plain). numbers_in (plain_in p) p.counters) c.deref.ensures)
    ∙ counter_free (plain_in c.self.inside.plain.value) c.self.invariant.kept
    (subst (λ (S : FilesState). AllNamed S.plain) (sym c.self.view_is) all)
    (subst (λ (S : FilesState). 1 ≤ count_by is_none S.plain.descriptors) (sym c.self.view_is) free)
