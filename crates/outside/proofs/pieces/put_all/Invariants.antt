use Rattle.std.proofs.Common.{◌≡◌, ◌-◌, ◌≤◌, length, take, drop}
use Rattle.std.specs.Io.KnownBytes.{Appends}
use Rattle.outside.proofs.pieces.put_all.Given as goal

-- what has been written is the front of the bytes, and no call has failed
abbrev pub invariant-loop-rest : goal.invariant-loop-rest
invariant-loop-rest g l = record {
  fits : length l.rest ≤ length l.bytes;
  left : l.rest ≡ drop (length l.bytes - length l.rest) l.bytes;
  written : Appends (g.S.Sink.taken l.initial.sink) (g.S.Sink.taken l.sink) (take (length l.bytes - length l.rest) l.bytes);
  quiet : g.S.Sink.faults l.sink ≡ g.S.Sink.faults l.initial.sink;
}

abbrev pub decreases-loop-rest : goal.decreases-loop-rest
decreases-loop-rest g l = length l.rest
