-- The digits of the sixteenth, and then the last.
use Rattle.std.proofs.Common.{arith}
use Rattle.std.proofs.lemmas.Grind.{common_steps}
use Rattle.linuxulator_cli.proofs.Digits.{more_digits}
use Rattle.linuxulator_cli.proofs.lines.+add_digits.Goals as goal

pub returns-then-number-ge16-clause-bytes : goal.returns-then-number-ge16-clause-bytes
returns-then-number-ge16-clause-bytes t c =
    let whole = more_digits c.args.places c.args.number (omega arith) (omega arith) in
    rw whole (grind (arith, common_steps))
