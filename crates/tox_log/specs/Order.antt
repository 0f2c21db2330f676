-- The order of a log's lines, and how far what was heard comes with them.
use Rattle.std.specs.Prelude.{◌≡◌, ◌+◌, ◌<◌, ◌≤◌, ◌^◌, true, false}
use Rattle.tox_time.specs.Time.{IsInstant}
use Rattle.tox_time.specs.declared.streams.position.StreamPosition.{StreamPosition}
use Rattle.tox_link.specs.declared.notes.LinkEvent.TheVariants.{Piece, SourceEnd, Wrote}
use Rattle.tox_log.specs.declared.event_line.LogLine.{LogLine}
use Rattle.tox_log.specs.declared.event_line.LogLine.TheVariants.{Event, SourceReset, Last}
use Rattle.tox_log.specs.declared.last_line.LastLine.TheVariants.{Ended, Broken}

-- a line may come next: readings never fall, a piece has bytes, positions stay within 2^40, and nothing is heard behind the source's end
abbrev pub ComesNext : StreamPosition → LogLine → Type 0
ComesNext heard (Event (Piece len instant)) =
    (heard.latest ≤ instant) × IsInstant instant × (0 < len) × (heard.position + len ≤ 2 ^ 40)
    × (heard.ended ≡ false)
ComesNext heard (Event (SourceEnd instant)) =
    (heard.latest ≤ instant) × IsInstant instant × (heard.ended ≡ false)
ComesNext heard (Event (Wrote slice reading)) = heard.latest ≤ reading
ComesNext heard (SourceReset instant) =
    (heard.latest ≤ instant) × IsInstant instant × (heard.ended ≡ false)
ComesNext heard (Last (Ended reading ending)) = heard.latest ≤ reading
ComesNext heard (Last (Broken cause bytes)) = Unit {0}

-- how far what was heard comes with a line
abbrev pub heard_with : StreamPosition → LogLine → StreamPosition
heard_with heard (Event (Piece len instant)) =
    record heard { position = heard.position + len; latest = instant }
heard_with heard (Event (SourceEnd instant)) = record heard { latest = instant; ended = true }
heard_with heard (Event (Wrote slice reading)) = record heard { latest = reading }
heard_with heard (SourceReset instant) = record heard { latest = instant; ended = true }
heard_with heard (Last (Ended reading ending)) = record heard { latest = reading }
heard_with heard (Last (Broken cause bytes)) = heard

-- a line came next
pub record GoesOnWith (old : StreamPosition) (line : LogLine) (new : StreamPosition) : Type 0 where
  pub next : ComesNext old line
  pub heard : new ≡ heard_with old line
