-- Ends in memory, whose calls are known in advance: how many bytes each moves, and which one fails.
use Rattle.std.specs.Prelude.{◌≡◌, ℕ, ◌+◌, ◌-◌, ◌^◌, Bool, false, true, List, ◌++◌, Option, Some, min, take, drop}
use Rattle.tox_time.specs.Ends.{takes_nothing}

-- the call that fails, where one does, and the calls made so far
pub record Calls : Type 0 where
  pub made : ℕ
  pub failing : Option ℕ

-- a source: the bytes that it has still to give, the most that it gives in a call, its calls, whether it has failed
pub record SourceView : Type 0 where
  pub bytes : List ℕ
  pub most : ℕ
  pub calls : Calls
  pub failed : Bool

-- a sink: the bytes that were written to it, the room that it has for more, the most that it takes in a call, its calls, whether it has failed
pub record SinkView : Type 0 where
  pub bytes : List ℕ
  pub room : ℕ
  pub most : ℕ
  pub calls : Calls
  pub failed : Bool

-- the calls after one more
abbrev pub one_more : Calls → Calls
one_more calls = record { made = min (calls.made + 1) (2 ^ 64 - 1); failing = calls.failing }

-- the next call is the one that fails
abbrev pub FailsNext : Calls → Type 0
FailsNext calls = calls.failing ≡ Some (min (calls.made + 1) (2 ^ 64 - 1))

-- a source without so many bytes, which it gave
abbrev pub source_without : SourceView → ℕ → SourceView
source_without source n = record source { bytes = drop n source.bytes; failed = false }

-- a source after a call that gave so many bytes
abbrev pub source_after : SourceView → ℕ → SourceView
source_after source n = record (source_without source n) { calls = one_more source.calls }

-- a source after the call that failed
abbrev pub failed_source : SourceView → SourceView
failed_source source = record source { calls = one_more source.calls; failed = true }

-- a sink with the first n of these bytes
abbrev pub sink_with : SinkView → ℕ → List ℕ → SinkView
sink_with sink n bytes =
    record sink {
      bytes = sink.bytes ++ take n bytes;
      room = sink.room - n;
      failed = takes_nothing n bytes;
    }

-- a sink after a call that took the first n of these bytes
abbrev pub sink_after : SinkView → ℕ → List ℕ → SinkView
sink_after sink n bytes = record (sink_with sink n bytes) { calls = one_more sink.calls }

-- a sink after the call that failed
abbrev pub failed_sink : SinkView → SinkView
failed_sink sink = record sink { calls = one_more sink.calls; failed = true }
