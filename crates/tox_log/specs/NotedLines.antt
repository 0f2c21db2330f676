-- The lines that a link's notes and its report are written as.
use Rattle.std.specs.Prelude.{◌≡◌, ℕ, Bool, true, List, [], ◌∷◌, ◌++◌, map}
use Rattle.tox_time.specs.declared.streams.ending.Ending.{Ending}
use Rattle.tox_time.specs.declared.streams.item.Item.{Item}
use Rattle.tox_time.specs.streams.Stream.{IsStream}
use Rattle.tox_time.specs.streams.StreamPosition.{first_position}
use Rattle.tox_link.specs.declared.notes.LinkEvent.{LinkEvent}
use Rattle.tox_link.specs.log.Log.{IsShallowBehind}
use Rattle.tox_log.specs.declared.event_line.LogLine.{LogLine}
use Rattle.tox_log.specs.declared.event_line.LogLine.TheVariants.{Last}
use Rattle.tox_log.specs.declared.last_line.BreakCause.{BreakCause}
use Rattle.tox_log.specs.declared.last_line.LastLine.TheVariants.{Ended, Broken}
use Rattle.tox_log.specs.EventLines.{logged_line}
use Rattle.tox_log.specs.LinkLog.{AreLinkLines, events_in}
use Rattle.tox_log.specs.WrittenLog.{AreInOrder}

-- the lines of a link with these events, whose source was reset or not, that ended so at a reading
abbrev pub ended_lines : Bool → List LinkEvent → ℕ → Ending → List LogLine
ended_lines reset events reading ending = map (logged_line reset) events ++ Last (Ended reading ending) ∷ []

-- the lines of a link with these events, whose source was reset or not, that broke off behind so many bytes
abbrev pub broken_lines : Bool → List LinkEvent → BreakCause → ℕ → List LogLine
broken_lines reset events cause bytes = map (logged_line reset) events ++ Last (Broken cause bytes) ∷ []

-- lines that a log may have behind its header, that are a link's under each function that does the same with a stream, and of which no
-- piece finds 1,024 waiting
pub record AreNoted (means : List Item → List Item) (lines : List LogLine) : Type 0 where
  pub in_order : AreInOrder first_position lines
  pub linked : (other : List Item → List Item) → ((items : List Item) → IsStream items → other items ≡ means items)
      → AreLinkLines other (λ reading. true) lines
  pub shallow : IsShallowBehind [] (events_in lines)
