-- Reading a literal file in a proof.
use Rattle.std.specs.Prelude.{⊤}
use Rattle.elf_image.specs.Headers.{half_at, word_at, xword_at, file_header, program_header, program_headers}
use Rattle.elf_image.specs.Rules.{file_header_fault, header_fault, faults_of, entry_outside, image_fault}
use Rattle.elf_image.specs.Images.{segments_of, headers_address, image_of}

-- what an answer unfolds to compute the fault or the image of a literal file
unfoldable pub elf_image_on_literals : ⊤
unfolding half_at word_at xword_at file_header program_header program_headers file_header_fault header_fault faults_of entry_outside image_fault segments_of headers_address image_of
elf_image_on_literals = tt
