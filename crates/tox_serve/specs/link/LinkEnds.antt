-- How a served link ended, and what the book keeps of it.
use Rattle.std.specs.Prelude.{ℕ, Bool, true, false, ◌||◌, List, Option, Some, None, Result, Ok, Err, if◌then◌else◌}
use Rattle.tox_time.specs.declared.streams.ending.Ending.{Ending}
use Rattle.tox_time.specs.declared.streams.stream.Stream.{Stream}
use Rattle.tox_time.specs.declared.streams.stream.Stream.TheVariants.{Upstream, Downstream}
use Rattle.tox_link.specs.declared.book.sides.Link.{Link}
use Rattle.tox_link.specs.declared.book.sides.Side.{Side}
use Rattle.tox_link.specs.declared.book.BookFault.{BookFault}
use Rattle.tox_link.specs.declared.link_fault.LinkFault.{LinkFault}
use Rattle.tox_link.specs.declared.link_fault.LinkFault.TheVariants.{OutOfMemory, SpawnRefused, WriteFault}
use Rattle.tox_link.specs.book.Links.{changed, with_bytes, with_end}
use Rattle.tox_sockets.specs.declared.abort_cause.AbortCause.{AbortCause}
use Rattle.tox_sockets.specs.declared.abort_cause.AbortCause.TheVariants as AbortOf
use Rattle.tox_serve.specs.declared.link.end.StreamEnd.{StreamEnd}
use Rattle.tox_serve.specs.declared.link.end.StreamEnd.TheVariants.{Ended, Broken}
use Rattle.tox_log.specs.declared.last_line.BreakCause.{BreakCause}
use Rattle.tox_log.specs.declared.last_line.BreakCause.TheVariants as CauseOf
use Rattle.tox_log.specs.declared.last_line.LastLine.{LastLine}
use Rattle.tox_log.specs.declared.last_line.LastLine.TheVariants as LastOf
use Rattle.tox_serve.specs.declared.link.end.Carried.{Carried}
use Rattle.tox_serve.specs.declared.link.end.SideEnd.{SideEnd}
use Rattle.tox_serve.specs.declared.link.end.LinkEnd.{LinkEnd}

-- what a stream carried before a fault
abbrev pub carried_before : Stream → LinkFault → Carried
carried_before stream (OutOfMemory written) =
    record { stream = stream; bytes = written; end = Broken CauseOf.Memory }
carried_before stream (SpawnRefused written) =
    record { stream = stream; bytes = written; end = Broken CauseOf.Thread }
carried_before stream (WriteFault written) =
    record { stream = stream; bytes = written; end = Broken CauseOf.Write }

-- a lack of memory or threads, and nothing that the link met
abbrev pub is_lack : BreakCause → Bool
is_lack CauseOf.Write = false
is_lack CauseOf.Memory = true
is_lack CauseOf.Thread = true
is_lack CauseOf.Upstream = false
is_lack CauseOf.Stopped = false

-- memory or a thread was refused
abbrev pub is_refused : StreamEnd → Bool
is_refused (Ended reading ending) = false
is_refused (Broken cause) = is_lack cause

abbrev pub is_write : BreakCause → Bool
is_write CauseOf.Write = true
is_write CauseOf.Memory = false
is_write CauseOf.Thread = false
is_write CauseOf.Upstream = false
is_write CauseOf.Stopped = false

-- whether a failed write broke a stream
abbrev pub is_write_break : StreamEnd → Bool
is_write_break (Ended reading ending) = false
is_write_break (Broken cause) = is_write cause

-- how a direction ended, unless a fault broke it
abbrev pub ending_of : StreamEnd → Option Ending
ending_of (Ended reading ending) = Some ending
ending_of (Broken cause) = None

-- why a stream is broken whose link is aborted
abbrev pub cause_of : AbortCause → BreakCause
cause_of AbortOf.Stopped = CauseOf.Stopped
cause_of AbortOf.Memory = CauseOf.Memory
cause_of AbortOf.Thread = CauseOf.Thread

-- how a stream ended that ended so by its plan, at a reading of its clock: an abort of its link before that breaks it
abbrev pub end_unless_aborted : Option AbortCause → ℕ → Ending → StreamEnd
end_unless_aborted (Some abort) reading ending = Broken (cause_of abort)
end_unless_aborted None reading ending = Ended reading ending

-- what a stream carried that has written so many bytes and that ended so by its plan, at a reading of its clock
abbrev pub carried_until_end : Stream → ℕ → ℕ → Ending → Option AbortCause → Carried
carried_until_end stream bytes reading ending aborted =
    record { stream = stream; bytes = bytes; end = end_unless_aborted aborted reading ending }

-- the last line of a log whose stream ended so after so many bytes
abbrev pub last_line_of : ℕ → StreamEnd → LastLine
last_line_of bytes (Ended reading ending) = LastOf.Ended reading ending
last_line_of bytes (Broken cause) = LastOf.Broken cause bytes

abbrev pub broken_side : Carried → SideEnd
broken_side carried = record { bytes = carried.bytes; ending = None }

abbrev pub side_end : Carried → SideEnd
side_end carried = record { bytes = carried.bytes; ending = ending_of carried.end }

-- a link whose directions carried this: where either was refused, both are broken
abbrev pub carried_link_end : ℕ → Carried → Carried → LinkEnd
carried_link_end number up down =
    if is_refused up.end || is_refused down.end
    then record { number = number; upstream = broken_side up; downstream = broken_side down }
    else record { number = number; upstream = side_end up; downstream = side_end down }

-- a side that carried nothing and is broken
abbrev pub nothing_carried : SideEnd
nothing_carried = record { bytes = 0; ending = None }

-- a link of which nothing was carried
abbrev pub broken_link : ℕ → LinkEnd
broken_link number =
    record { number = number; upstream = nothing_carried; downstream = nothing_carried }

-- the links as a change leaves them, which a refusal leaves as they were
abbrev pub left_by : List Link → Result (List Link) BookFault → List Link
left_by links (Ok changed) = changed
left_by links (Err fault) = links

-- the links after a change of this side of a link
abbrev pub after_change : (Side → Result Side BookFault) → ℕ → Stream → List Link → List Link
after_change change number stream links = left_by links (changed change links number stream)

-- the links with the bytes of a link, and then with how its sides ended
abbrev pub settled : LinkEnd → List Link → List Link
settled end links =
    let up = after_change (with_bytes end.upstream.bytes) end.number Upstream links in
    let both = after_change (with_bytes end.downstream.bytes) end.number Downstream up in
    let ended = after_change (with_end end.upstream.ending) end.number Upstream both in
    after_change (with_end end.downstream.ending) end.number Downstream ended
