-- The conversations of the first links passed.
use Rattle.std.proofs.Common.{Ok, ℕ, List, take}
use Rattle.tox_draw.specs.pages.Conversations.{AreSections}
use Rattle.tox_draw.specs.pages.Pages.{Shows}
use Rattle.tox_draw.proofs.pages.conversations.print_sections.Given as goal

abbrev pub invariant-loop-place : goal.invariant-loop-place
invariant-loop-place g l = (text : List ℕ) × AreSections (g.S.LogStore.known l.store) 1 (take l.place (take l.count l.links)) text
    × Shows g.W.Sink (Ok tt) l.fn.printer l.printer text
