-- Who ended a link, in words.
use Rattle.std.specs.Prelude.{ℕ, Bool, true, false, List, ◌++◌, codes, nat_lt, Option, Some, None, if◌then◌else◌}
use Rattle.std.specs.Str.{bytes_eq}
use Rattle.tox_time.specs.declared.streams.stream.Stream.{Stream}
use Rattle.tox_time.specs.declared.streams.stream.Stream.TheVariants.{Upstream, Downstream}
use Rattle.tox_log.specs.declared.last_line.BreakCause.{BreakCause}
use Rattle.tox_log.specs.declared.last_line.BreakCause.TheVariants as CauseOf
use Rattle.tox_log.specs.LastText.{cause_name}
use Rattle.tox_draw.specs.declared.pages.stream_end.Cutter.{Cutter}
use Rattle.tox_draw.specs.declared.pages.stream_end.Cutter.TheVariants.{LimitData, Timeout, ResetPeer, Unsure}
use Rattle.tox_draw.specs.declared.pages.stream_end.StreamEnd.{StreamEnd}
use Rattle.tox_draw.specs.declared.pages.stream_end.StreamEnd.TheVariants.{Closed, Reset, Cut, Open, Broken, Missing, Unknown}
use Rattle.tox_draw.specs.pages.StreamEnds.{end_instant_of, tells_end}

-- the client gives the bytes of the upstream stream, and the server those of the downstream stream
abbrev pub closed_words : Stream → Bool → List ℕ
closed_words Upstream first = if first then codes "client closed first" else codes "client closed"
closed_words Downstream first = if first then codes "server closed first" else codes "server closed"

abbrev pub reset_words : Stream → List ℕ
reset_words Upstream = codes "client reset"
reset_words Downstream = codes "server reset"

abbrev pub cutter_words : Cutter → List ℕ
cutter_words LimitData = codes "by limit_data"
cutter_words Timeout = codes "by timeout"
cutter_words ResetPeer = codes "by reset_peer"
cutter_words Unsure = codes "by toxics"

abbrev pub broken_words : BreakCause → List ℕ
broken_words cause = codes "broken " ++ cause_name cause

-- who ended a stream: its source, before the other did or not, or a toxic
abbrev pub end_words : StreamEnd → Stream → Bool → List ℕ
end_words (Closed t) side first = closed_words side first
end_words (Reset t) side first = reset_words side
end_words (Cut t cutter) side first = cutter_words cutter
end_words Open side first = codes "open"
end_words (Broken cause) side first = broken_words cause
end_words Missing side first = codes "no end"
end_words Unknown side first = codes "unknown"

abbrev pub is_left_open : StreamEnd → Bool
is_left_open Open = true
is_left_open other = false

-- where both streams broke, a failed write is no cause beside another one: what cut the link made it fail. Else nobody was first
abbrev pub cut_words : StreamEnd → StreamEnd → List ℕ
cut_words (Broken CauseOf.Write) (Broken cause) = broken_words cause
cut_words (Broken cause) (Broken CauseOf.Write) = broken_words cause
cut_words up down = codes "unknown"

-- the words of both ends, if these are the same
abbrev pub common_words : StreamEnd → StreamEnd → List ℕ
common_words up down =
    if bytes_eq (end_words up Upstream false) (end_words down Downstream false)
    then end_words up Upstream false else cut_words up down

-- the words of the earlier end
abbrev pub earlier_words : StreamEnd → StreamEnd → ℕ → ℕ → List ℕ
earlier_words up down t u =
    if nat_lt t u then end_words up Upstream true else
    if nat_lt u t then end_words down Downstream true else common_words up down

-- the words of the end that came first: of one with an instant, if the other stream was left open, and else without `first`
abbrev pub first_words : StreamEnd → StreamEnd → Option ℕ → Option ℕ → List ℕ
first_words up down (Some t) (Some u) = earlier_words up down t u
first_words up down (Some t) None = end_words up Upstream (is_left_open down)
first_words up down None (Some u) = end_words down Downstream (is_left_open up)
first_words up down None None = common_words up down

-- the words where neither log tells an end
abbrev pub unended_words : StreamEnd → StreamEnd → List ℕ
unended_words Missing down = codes "no end"
unended_words up down = end_words down Downstream false

-- the words where the log of the client's stream tells no end
abbrev pub silent_words : StreamEnd → StreamEnd → List ℕ
silent_words up down =
    if tells_end down then end_words down Downstream false else unended_words up down

-- who ended a link, by the ends of both streams
abbrev pub ended_by : StreamEnd → StreamEnd → List ℕ
ended_by up down =
    if tells_end up then
    (if tells_end down then first_words up down (end_instant_of up) (end_instant_of down)
    else end_words up Upstream false)
    else silent_words up down
