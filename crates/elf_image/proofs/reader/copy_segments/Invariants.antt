use Rattle.std.proofs.Common.{◌≡◌, map, take}
use Rattle.std.specs.List.{filter}
use Rattle.elf_image.specs.Images.{segment_of}
use Rattle.elf_image.specs.Rules.{is_segment}
use Rattle.elf_image.proofs.reader.copy_segments.Given as goal

-- the segments of the headers so far
abbrev pub invariant-loop-header : goal.invariant-loop-header
invariant-loop-header l = l.segments.items ≡ map (segment_of l.file) (filter is_segment (take l.header-index l.headers))
