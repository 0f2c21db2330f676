-- The sockets and the streams of a link.
use Rattle.tox_time.specs.declared.streams.stream.Stream.{Stream}
use Rattle.tox_time.specs.declared.streams.stream.Stream.TheVariants.{Upstream, Downstream}
use Rattle.tox_serve.specs.declared.workers.peer.Peer.{Peer}
use Rattle.tox_serve.specs.declared.workers.peer.Peer.TheVariants.{Client, Server}

-- the stream whose bytes come from a socket
abbrev pub stream_from : Peer → Stream
stream_from Client = Upstream
stream_from Server = Downstream

-- the other stream of a link
abbrev pub other_stream : Stream → Stream
other_stream Upstream = Downstream
other_stream Downstream = Upstream
