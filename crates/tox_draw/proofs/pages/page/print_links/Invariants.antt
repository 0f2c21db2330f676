-- The first rows passed.
use Rattle.std.proofs.Common.{Ok, flat_map, take}
use Rattle.std.specs.List.{enumerate_from}
use Rattle.tox_draw.specs.pages.Pages.{Shows, placed_row}
use Rattle.tox_draw.proofs.pages.page.print_links.Given as goal

abbrev pub invariant-loop-place : goal.invariant-loop-place
invariant-loop-place g l = Shows g.W.Sink (Ok tt) l.fn.printer l.printer
    (flat_map (placed_row l.shown) (take l.place (enumerate_from 0 l.links)))
