use Rattle.std.proofs.Common.{arith}
use Rattle.std.proofs.lemmas.Grind.{common_steps}
use Rattle.elf_image.specs.Rules.{image_fault}
use Rattle.elf_image.specs.Images.{image_of}
use Rattle.elf_image.proofs.LaidOut.{IsLaidOut-from_IsImage}
use Rattle.elf_image.proofs.reader.read_image.Goals as goal

pub returns-clause-ok : goal.returns-clause-ok
unfolding image_fault image_of
returns-clause-ok c = grind (arith, common_steps)

pub returns-clause-laid_out : goal.returns-clause-laid_out
returns-clause-laid_out c = IsLaidOut-from_IsImage _ _ (returns-clause-ok c)
