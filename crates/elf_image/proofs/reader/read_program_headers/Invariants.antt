use Rattle.std.proofs.Common.{◌≡◌, ◌+◌, ◌*◌}
use Rattle.elf_image.specs.Headers.{program_headers}
use Rattle.elf_image.proofs.reader.read_program_headers.Given as goal

-- the headers so far are read, and the cursor stands behind them
abbrev pub invariant-loop-index : goal.invariant-loop-index
invariant-loop-index l =
    (l.headers.items ≡ program_headers l.file l.header.table l._index)
    × (l.cursor.file.now ≡ l.file)
    × (l.cursor.place ≡ l.header.table + 56 * l._index)
