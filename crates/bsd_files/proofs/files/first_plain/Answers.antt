use Rattle.std.proofs.Common.{ap, ◌∙◌}
use Rattle.open_files.specs.PlainParts.{plain_in}
use Rattle.bsd_files.proofs.files.first_plain.Goals as goal

pub returns-in-Ok : goal.returns-in-Ok
returns-in-Ok c = ap plain_in c.in-Ok.ensures.ok ∙ c.in_ok-plain.ensures
