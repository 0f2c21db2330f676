-- What is shut where a stream of a link has ended.
use Rattle.std.specs.Prelude.{Bool, true, false}
use Rattle.tox_time.specs.declared.streams.ending.Ending.{Ending}
use Rattle.tox_time.specs.declared.streams.ending.Ending.TheVariants.{StillOpen, Closed}
use Rattle.tox_time.specs.declared.streams.ending.Ending.TheVariants as ending
use Rattle.tox_sockets.specs.declared.sockets.Shut.{Shut}
use Rattle.tox_sockets.specs.declared.sockets.Shut.TheVariants.{Nothing, Writing, Both, Reset}

-- a stream that stays open shuts nothing; a close is passed on where the source has ended; a reset resets both
abbrev pub shut_of : Ending → Bool → Shut
shut_of StillOpen source_ended = Nothing
shut_of (Closed instant) true = Writing
shut_of (Closed instant) false = Both
shut_of (ending.Reset instant) source_ended = Reset
