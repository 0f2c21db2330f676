-- The reader works, the judge is held, and what was read so far is what the verdict is of. Until it is known the judge is as far as the
-- log, and of a log that a link can write some lines are left, of which no piece finds 1,024 waiting.
use Rattle.std.proofs.Common.{◌≡◌, ℕ, List, [], true, false}
use Rattle.std.specs.Io.KnownBytes.{prepend_known}
use Rattle.tox_time.specs.declared.streams.item.Item.{Item}
use Rattle.tox_log.specs.Hearing.{SaysOf}
use Rattle.tox_log.specs.Judging.{Judged, KeepsUp}
use Rattle.tox_log.specs.LinkLog.{events_in}
use Rattle.tox_link.specs.declared.notes.LinkEvent.{LinkEvent}
use Rattle.tox_link.specs.log.Log.{IsShallowBehind}
use Rattle.tox_log.proofs.Rooms.{IsNowShallow}
use Rattle.tox_log.specs.Left.{HasLinesLeft, IsHeardTo}
use Rattle.tox_log.specs.declared.event_line.LogLine.{LogLine}
use Rattle.tox_log.specs.declared.replay.Verdict.TheVariants.{Unfinished}
use Rattle.tox_log.specs.Reading.{IsLineNumber, next_number, to_hand}
use Rattle.tox_log.proofs.Numbering.{number_behind}
use Rattle.tox_log.proofs.replay.hear_lines.Given as goal

abbrev pub invariant-lines : goal.invariant-lines
invariant-lines g l = record {
  working : g.R.Source.failed l.reader ≡ false;
  held : KeepsUp l.hearing.judge;
  same : (l.log.heading ≡ l.fn.log.heading) × (l.log.chain ≡ l.fn.log.chain);
  text : (text : List ℕ)
      × (to_hand l.fn.log (g.R.Source.remaining l.fn.reader) ≡ prepend_known text (to_hand l.log (g.R.Source.remaining l.reader)))
      × ((start : ℕ) (means : List Item → List Item) → IsLineNumber (next_number l.fn.log) start → SaysOf start means [] l.fn.log.over l.fn.hearing
      → SaysOf start means text l.log.over l.hearing)
      × ((start : ℕ) → IsLineNumber (next_number l.fn.log) start → IsLineNumber (next_number l.log) (number_behind start text));
  follows : IsHeardTo l.fn.hearing.judge l.fn.log.heard → l.hearing.verdict ≡ Unfinished → IsHeardTo l.hearing.judge l.log.heard;
  left : (lines : List LogLine) → HasLinesLeft l.fn.log (g.R.Source.remaining l.fn.reader) lines
      → (rest : List LogLine) × HasLinesLeft l.log (g.R.Source.remaining l.reader) rest;
  shallow : (means : List Item → List Item) (events : List LinkEvent) (lines : List LogLine) → Judged means (λ reading. true) l.fn.hearing.judge events
      → HasLinesLeft l.fn.log (g.R.Source.remaining l.fn.reader) lines → IsShallowBehind events (events_in lines)
      → (rest : List LogLine) × HasLinesLeft l.log (g.R.Source.remaining l.reader) rest
      × (l.hearing.verdict ≡ Unfinished → IsNowShallow means l.hearing.judge rest);
}
