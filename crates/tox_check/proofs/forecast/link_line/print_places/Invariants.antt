-- The places of the first flags have passed.
use Rattle.std.proofs.Common.{Ok, flat_map, take}
use Rattle.std.specs.List.{enumerate_from}
use Rattle.tox_text.specs.Printing.{Prints}
use Rattle.tox_check.specs.forecast.ForecastText.{place_text}
use Rattle.tox_check.proofs.forecast.link_line.print_places.Given as goal

abbrev pub invariant-loop-place : goal.invariant-loop-place
invariant-loop-place g l = Prints g.W.Sink (Ok tt) l.fn.printer l.printer
    (flat_map (λ placed. place_text placed.0 placed.1) (take l.place (enumerate_from 0 l.flags)))
