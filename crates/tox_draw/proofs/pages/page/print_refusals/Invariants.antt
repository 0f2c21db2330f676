-- The first rows passed.
use Rattle.std.proofs.Common.{Ok, flat_map, take}
use Rattle.tox_draw.specs.pages.Rows.{refusal_row}
use Rattle.tox_draw.specs.pages.Pages.{Shows}
use Rattle.tox_draw.proofs.pages.page.print_refusals.Given as goal

abbrev pub invariant-loop-refusal : goal.invariant-loop-refusal
invariant-loop-refusal g l = Shows g.W.Sink (Ok tt) l.fn.printer l.printer
    (flat_map refusal_row (take l.refusal-index l.refusals))
