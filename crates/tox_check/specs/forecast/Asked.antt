-- The stream that a name asks for.
use Rattle.std.specs.Prelude.{◌≡◌, ℕ, List, Option, None, Some}
use Rattle.std.specs.Borrow.{Bor}
use Rattle.tox_time.specs.declared.streams.stream.Stream.{Stream}
use Rattle.tox_time.specs.streams.StreamName.{stream_named}

-- a stream is asked for by its name, or none without a name
abbrev pub AsksFor : Option (Bor (List ℕ)) → Option Stream → Type 0
AsksFor None asked = asked ≡ None
AsksFor (Some name) asked = (stream : Stream) × (stream_named name.now ≡ Some stream) × (asked ≡ Some stream)

-- no stream has the name
abbrev pub IsBadStream : Option (Bor (List ℕ)) → Type 0
IsBadStream None = ⊥
IsBadStream (Some name) = stream_named name.now ≡ None
