-- Events that are kept.
use Rattle.std.specs.Prelude.{List, ◌++◌, Option, Some, None}
use Rattle.tox_link.specs.declared.notes.LinkEvent.{LinkEvent}

-- the events that are kept, and then these
abbrev pub with_events : Option (List LinkEvent) → List LinkEvent → Option (List LinkEvent)
with_events None more = None
with_events (Some before) more = Some (before ++ more)
