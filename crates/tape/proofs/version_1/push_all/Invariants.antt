use Rattle.std.proofs.Common.{◌≡◌, ◌++◌, map, take}
use Rattle.tape.specs.TapeFile.{entry_at_1}
use Rattle.tape.proofs.version_1.push_all.Given as goal

abbrev pub invariant-loop-record : goal.invariant-loop-record
invariant-loop-record l = l.tape ≡ record l.initial.tape { entries = l.initial.tape.entries ++ map (λ bytes. entry_at_1 bytes 0) (take l.record-index l.records) }
