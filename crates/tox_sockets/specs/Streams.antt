-- The ends of a stream of a link.
use Rattle.std.specs.declared.net.tcp.TcpStream.{TcpStream}
use Rattle.tox_time.specs.declared.streams.stream.Stream.{Stream}
use Rattle.tox_time.specs.declared.streams.stream.Stream.TheVariants.{Upstream, Downstream}
use Rattle.tox_sockets.specs.declared.link_sockets.LinkSockets.{LinkSockets}

-- where the bytes of a stream come from
abbrev pub source_of : Stream → LinkSockets → TcpStream
source_of Upstream link = link.client
source_of Downstream link = link.server

-- where they go
abbrev pub target_of : Stream → LinkSockets → TcpStream
target_of Upstream link = link.server
target_of Downstream link = link.client
