-- What was asked for so far.
use Rattle.std.proofs.Common.{◌≡◌, ℕ, List, Option}
use Rattle.tox_link.specs.declared.notes.LinkEvent.{LinkEvent}
use Rattle.tox_link.specs.direction.Driven.{Drove, ends_view}
use Rattle.tox_link.specs.direction.Follows.{AreBegun, IsHeld}
use Rattle.tox_link.proofs.direction.asking.ask_further.Given as goal

abbrev pub invariant-loop : goal.invariant-loop
invariant-loop g l = record {
  held : IsHeld l.link;
  begun : AreBegun (g.C.Clock.reported l.clock) l.link.unwritten.items;
  reported : g.C.Clock.reported l.clock l.link.core.latest;
  same : l.link ≡ record l.initial.link { core = l.link.core; unwritten = l.link.unwritten };
  ended : l.link.core.ended ≡ l.initial.link.core.ended;
  drove : (left written : Option (List ℕ)) (events : Option (List LinkEvent)) → Drove 0 (g.C.Clock.reported l.clock) l.initial.link
      (ends_view left written events) l.link (ends_view left written events);
}
