-- A written log that is a link's: the events are faithful, and the ending is what a link with these events reports.
use Rattle.std.specs.Prelude.{◌≡◌, ℕ, Bool, true, List, [], ◌∷◌, Contains, Option}
use Rattle.tox_time.specs.declared.streams.ending.Ending.{Ending}
use Rattle.tox_time.specs.declared.streams.item.Item.{Item}
use Rattle.tox_words.specs.Seeded.{seeded_words}
use Rattle.tox_link.specs.declared.notes.LinkEvent.{LinkEvent}
use Rattle.tox_link.specs.declared.notes.LinkEvent.TheVariants.{SourceEnd}
use Rattle.tox_link.specs.declared.ring.message.ReadEnd.{ReadEnd}
use Rattle.tox_link.specs.log.Log.{IsFaithful}
use Rattle.tox_link.specs.Reports.{ReportsAt}
use Rattle.tox_log.specs.declared.event_line.LogLine.{LogLine}
use Rattle.tox_log.specs.declared.event_line.LogLine.TheVariants.{Event, SourceReset, Last}
use Rattle.tox_log.specs.declared.last_line.LastLine.TheVariants.{Ended}
use Rattle.tox_log.specs.Hearing.{IsMeaningOf}
use Rattle.tox_log.specs.WrittenLog.{WrittenLog}

-- the events among lines
abbrev pub events_in : List LogLine → List LinkEvent
events_in [] = []
events_in (Event event ∷ lines) = event ∷ events_in lines
events_in (SourceReset instant ∷ lines) = SourceEnd instant ∷ events_in lines
events_in (Last last ∷ lines) = events_in lines

-- a link reports this ending at this reading, with some counts and some end of its source
pub record IsReported (means : List Item → List Item) (reported : ℕ → Bool) (events : List LinkEvent) (reading : ℕ) (last : Ending) : Type 0 where
  pub taken : ℕ
  pub written : ℕ
  pub source : Option ReadEnd
  pub report : ReportsAt means (λ t. reported t ≡ true) events taken written last source reading

-- lines that a link writes: their events are faithful, and an ending among them is what it reports
pub record AreLinkLines (means : List Item → List Item) (readings : ℕ → Bool) (lines : List LogLine) : Type 0 where
  pub faithful : IsFaithful means (λ t. readings t ≡ true) (events_in lines)
  pub reported : (reading : ℕ) (last : Ending) → Contains lines (Last (Ended reading last)) → IsReported means readings (events_in lines) reading last

-- whatever means what the chain does with the words of the link's stream, the lines are a link's under it
pub record IsLinkLog (log : WrittenLog) : Type 0 where
  pub reported : ℕ → Bool
  pub lines : (means : List Item → List Item) → IsMeaningOf means log.chain (seeded_words log.seed log.number log.stream)
      → AreLinkLines means reported log.lines
