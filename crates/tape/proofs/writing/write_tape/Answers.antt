use Rattle.std.proofs.Common.{◌≡◌, arith, inl}
use Rattle.std.proofs.lemmas.Grind.{common_steps}
use Rattle.tape.specs.TapeText.{tape_text, IsAllowed, FitsFile}
use Rattle.tape.proofs.Runs.{entries_fit}
use Rattle.tape.proofs.Files.{read_again}
use Rattle.tape.proofs.writing.write_tape.Goals as goal

whole : (c : goal.In_ok-write_runs) → c.write_runs.new.text.items ≡ tape_text c.args.tape.now.seed c.args.tape.now.pages c.args.tape.now.rules c.args.tape.now.entries
unfolding tape_text
whole c = grind (arith, common_steps)

fits : (c : goal.In_ok-write_runs) → IsAllowed c.args.tape.now.pages c.args.tape.now.rules c.args.tape.now.entries → FitsFile c.args.tape.now.seed c.args.tape.now.pages c.args.tape.now.rules c.args.tape.now.entries
fits c allowed = record {
  allowed = allowed;
  seed_fits = c.header_of.ensures.seed;
  entries_fit = entries_fit c.args.tape.now.entries (rw c.entries-entries.ensures.value at c.count_runs.ensures.fits);
}

pub returns-clause-fits : goal.returns-clause-fits
returns-clause-fits c = fits c

pub returns-clause-sound : goal.returns-clause-sound
returns-clause-sound c = λ allowed.
    let tape = c.args.tape.now in
    (read_again c.write_runs.new.text.items tape.seed tape.pages tape.rules tape.entries (fits c allowed) (inl (whole c))).no_fault
