-- What the adapters over a reader and a writer are made of. This project's own.
use Rattle.std.specs.Prelude.{ℕ}
use Rattle.outside.specs.declared.adapters.StdSource.{StdSource}
use Rattle.outside.specs.declared.adapters.StdSink.{StdSink}

-- the reader of a source, and how often it has failed
abbrev pub source_reader : {R : Type 0} → StdSource R → R
source_reader source = source.from

abbrev pub source_faults : {R : Type 0} → StdSource R → ℕ
source_faults source = source.faults

-- the writer of a sink, and how often it has failed
abbrev pub sink_writer : {W : Type 0} → StdSink W → W
sink_writer sink = sink.to

abbrev pub sink_faults : {W : Type 0} → StdSink W → ℕ
sink_faults sink = sink.faults
