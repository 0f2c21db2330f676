-- Lines that are left, of which no piece finds 1,024 waiting.
use Rattle.std.proofs.Common.{true, List, [], ◌∷◌, ◌++◌, subst, sym, append-nil}
use Rattle.tox_time.specs.declared.streams.item.Item.{Item}
use Rattle.tox_link.specs.declared.notes.LinkEvent.{LinkEvent}
use Rattle.tox_link.specs.log.Log.{IsShallowBehind}
use Rattle.tox_log.specs.declared.event_line.LogLine.{LogLine}
use Rattle.tox_log.specs.declared.event_line.LogLine.TheVariants.{Event, SourceReset, Last}
use Rattle.tox_log.specs.declared.judge.Judge.{Judge}
use Rattle.tox_log.specs.Judging.{Judged}
use Rattle.tox_log.specs.LinkLog.{events_in}

-- a judge is one after some events, behind which these lines may come
pub record IsNowShallow (means : List Item → List Item) (judge : Judge) (lines : List LogLine) : Type 0 where
  pub events : List LinkEvent
  pub judged : Judged means (λ reading. true) judge events
  pub room : IsShallowBehind events (events_in lines)

-- the first of the lines alone
pub shallow-first : (events : List LinkEvent) (line : LogLine) (lines : List LogLine) → IsShallowBehind events (events_in (line ∷ lines))
    → IsShallowBehind events (events_in (line ∷ []))
shallow-first events (Event event) lines room = (room.0, tt)
shallow-first events (SourceReset instant) lines room = (room.0, tt)
shallow-first events (Last last) lines room = tt

-- and the others behind it
shallow-others : (events : List LinkEvent) (line : LogLine) (lines : List LogLine) → IsShallowBehind events (events_in (line ∷ lines))
    → IsShallowBehind (events ++ events_in (line ∷ [])) (events_in lines)
shallow-others events (Event event) lines room = room.1
shallow-others events (SourceReset instant) lines room = room.1
shallow-others events (Last last) lines room = subst (λ events. IsShallowBehind events (events_in lines)) (sym (append-nil events)) room

pub shallow-next : (means : List Item → List Item) (old new : Judge) (line : LogLine) (lines : List LogLine)
    → ((events : List LinkEvent) → Judged means (λ reading. true) old events → Judged means (λ reading. true) new (events ++ events_in (line ∷ [])))
    → IsNowShallow means old (line ∷ lines) → IsNowShallow means new lines
shallow-next means old new line lines judges now = record {
  events = now.events ++ events_in (line ∷ []);
  judged = judges now.events now.judged;
  room = shallow-others now.events line lines now.room;
}
