-- The names of the two streams.
use Rattle.std.specs.Prelude.{ℕ, Bool, true, false, List, codes, Option, Some, None, if◌then◌else◌}
use Rattle.std.specs.Str.{bytes_eq}
use Rattle.tox_time.specs.declared.streams.stream.Stream.{Stream}
use Rattle.tox_time.specs.declared.streams.stream.Stream.TheVariants.{Upstream, Downstream}

-- the name of a stream
abbrev pub stream_name : Stream → List ℕ
stream_name Upstream = codes "upstream"
stream_name Downstream = codes "downstream"

-- the stream of a name
abbrev pub stream_named : List ℕ → Option Stream
stream_named name =
    if bytes_eq name (stream_name Upstream) then Some Upstream
    else if bytes_eq name (stream_name Downstream) then Some Downstream
    else None

-- whether two streams are the same
abbrev pub same_stream : Stream → Stream → Bool
same_stream Upstream Upstream = true
same_stream Downstream Downstream = true
same_stream Upstream Downstream = false
same_stream Downstream Upstream = false
