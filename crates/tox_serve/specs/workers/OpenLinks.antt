-- A link whose upstream is connected: its directions, and its end.
use Rattle.std.specs.Prelude.{◌≡◌, ℕ, Bool, Option, Some, None}
use Rattle.tox_time.specs.declared.streams.stream.Stream.{Stream}
use Rattle.tox_time.specs.declared.streams.stream.Stream.TheVariants.{Upstream, Downstream}
use Rattle.tox_serve.specs.declared.link.end.Carried.{Carried}
use Rattle.tox_serve.specs.declared.link.end.LinkEnd.{LinkEnd}
use Rattle.tox_serve.specs.link.LinkEnds.{carried_link_end}
use Rattle.tox_serve.specs.declared.workers.open_direction.OpenDirection.{OpenDirection}
use Rattle.tox_serve.specs.declared.workers.open_link.OpenLink.{OpenLink}
use Rattle.tox_serve.specs.workers.Directions.{carried_of, disarmed}
use Rattle.tox_serve.specs.workers.Peers.{other_stream}
use Rattle.tox_serve.specs.workers.Waits.{earlier_of}

-- the direction of a stream
abbrev pub direction_of : {R : Type 0} → Stream → OpenLink R → OpenDirection R
direction_of Upstream link = link.up
direction_of Downstream link = link.down

-- a direction stays as it was, but for whether a turn of it waits
pub record IsSameDirection {R : Type 0} (old new : OpenDirection R) : Type 0 where
  pub its : new.stream ≡ old.stream
  pub state : new.state ≡ old.state
  pub armed : new.armed ≡ old.armed

-- what is known of a link besides its directions stays
pub record IsSameLink {R : Type 0} (old new : OpenLink R) : Type 0 where
  pub number : new.number ≡ old.number
  pub proxy : new.proxy ≡ old.proxy
  pub sockets : new.sockets ≡ old.sockets
  pub live : new.live ≡ old.live
  pub since : new.since ≡ old.since

-- whether a turn of a direction waits is this from now on, and nothing else of its link changes
pub record SetsTurn {R : Type 0} (stream : Stream) (waits : Bool) (old new : OpenLink R) : Type 0 where
  pub waits_now : (direction_of stream new).has_turn ≡ waits
  pub same_direction : IsSameDirection (direction_of stream old) (direction_of stream new)
  pub other : direction_of (other_stream stream) new ≡ direction_of (other_stream stream) old
  pub same : IsSameLink old new

-- a timer of a direction is over, and nothing else of its link changes
pub record Disarms {R : Type 0} (stream : Stream) (due : ℕ) (old new : OpenLink R) : Type 0 where
  pub armed : (direction_of stream new).armed ≡ disarmed due (direction_of stream old).armed
  pub state : (direction_of stream new).state ≡ (direction_of stream old).state
  pub turn : (direction_of stream new).has_turn ≡ (direction_of stream old).has_turn
  pub other : direction_of (other_stream stream) new ≡ direction_of (other_stream stream) old
  pub same : IsSameLink old new

-- a direction has a timer that is due by an instant, and nothing else of its link changes
pub record Arms {R : Type 0} (stream : Stream) (due : ℕ) (old new : OpenLink R) : Type 0 where
  pub armed : (direction_of stream new).armed ≡ earlier_of (direction_of stream old).armed (Some due)
  pub state : (direction_of stream new).state ≡ (direction_of stream old).state
  pub turn : (direction_of stream new).has_turn ≡ (direction_of stream old).has_turn
  pub other : direction_of (other_stream stream) new ≡ direction_of (other_stream stream) old
  pub same : IsSameLink old new

-- how a link ended whose directions carried this, once both have ended
abbrev pub end_of_both : ℕ → Option Carried → Option Carried → Option LinkEnd
end_of_both number (Some up) (Some down) = Some (carried_link_end number up down)
end_of_both number (Some up) None = None
end_of_both number None down = None

-- how a link ended, once both its directions have
abbrev pub end_of : {R : Type 0} → OpenLink R → Option LinkEnd
end_of link = end_of_both link.number (carried_of link.up.state) (carried_of link.down.state)
