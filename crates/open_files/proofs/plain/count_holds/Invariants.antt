use Rattle.std.proofs.Common.{◌≡◌, take}
use Rattle.std.specs.Prelude.{sum_by}
use Rattle.open_files.specs.Named.{holds_of}
use Rattle.open_files.proofs.plain.count_holds.Given as goal

-- counted are the holds of the open files so far
abbrev pub invariant-loop-file : goal.invariant-loop-file
invariant-loop-file l = l.count ≡ sum_by holds_of (take l.file-index l.files)
