-- Which toxics of a link are applied.
use Rattle.std.specs.Prelude.{Bool, List}
use Rattle.tox_time.specs.declared.streams.stream.Stream.{Stream}
use Rattle.tox_time.specs.declared.streams.stream.Stream.TheVariants.{Upstream, Downstream}
use Rattle.tox_check.specs.declared.forecast.flags.LinkFlags.{LinkFlags}

-- the flags of a stream
abbrev pub flags_on : Stream → LinkFlags → List Bool
flags_on Upstream flags = flags.upstream.items
flags_on Downstream flags = flags.downstream.items
