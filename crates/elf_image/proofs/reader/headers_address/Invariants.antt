use Rattle.std.proofs.Common.{◌≡◌, drop}
use Rattle.std.specs.List.{find}
use Rattle.elf_image.specs.Images.{holds_headers}
use Rattle.elf_image.proofs.reader.headers_address.Given as goal

-- no header so far holds them all
abbrev pub invariant-loop-header : goal.invariant-loop-header
invariant-loop-header l =
    find (holds_headers l.file_header) (drop l.header-index l.headers) ≡ find (holds_headers l.file_header) l.headers
