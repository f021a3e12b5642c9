-- What a sink over a writer has taken.
use Rattle.std.specs.Prelude.{ℕ, Bool, List, Option}
use Rattle.std.specs.Io.KnownBytes.{append_known}
use Rattle.gd_outside.specs.declared.std_sink.StdSink.{StdSink}

-- the bytes that it took and has not yet handed to the writer
abbrev pub unwritten : {W : Type 0} → StdSink W → List ℕ
unwritten sink = sink.buffer

-- the bytes that the writer holds, where it tells
abbrev pub written_bytes : {W : Type 0} → (W → Option (List ℕ)) → StdSink W → Option (List ℕ)
written_bytes contents sink = contents sink.writer

-- all bytes that it took, where the writer tells those that it holds
abbrev pub taken_bytes : {W : Type 0} → (W → Option (List ℕ)) → StdSink W → Option (List ℕ)
taken_bytes contents sink = append_known (contents sink.writer) sink.buffer

-- how often it failed
abbrev pub sink_faults : {W : Type 0} → StdSink W → ℕ
sink_faults sink = sink.faults

-- whether it ever failed
abbrev pub has_failed : {W : Type 0} → StdSink W → Bool
has_failed sink = sink.has_failed
