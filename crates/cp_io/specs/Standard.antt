-- What lies below the source and the sink over std. This project's own.
use Rattle.std.specs.Prelude.{ℕ}
use Rattle.cp_io.specs.declared.standard.StdSource.{StdSource}
use Rattle.cp_io.specs.declared.standard.StdSink.{StdSink}

-- the reader below a source
abbrev pub reader_of : {R : Type 0} → StdSource R → R
reader_of source = source.reader

-- how many bytes a source has given
abbrev pub given_of : {R : Type 0} → StdSource R → ℕ
given_of source = source.given

-- how often a source has failed
abbrev pub read_faults : {R : Type 0} → StdSource R → ℕ
read_faults source = source.faults

-- the writer below a sink
abbrev pub writer_of : {W : Type 0} → StdSink W → W
writer_of sink = sink.writer

-- how often a sink has failed
abbrev pub write_faults : {W : Type 0} → StdSink W → ℕ
write_faults sink = sink.faults
