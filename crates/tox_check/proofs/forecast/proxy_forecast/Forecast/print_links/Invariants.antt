-- The lines of the first connections have passed, and they are counted.
use Rattle.std.proofs.Common.{Ok, ◌≡◌, flat_map, length, take}
use Rattle.tox_text.specs.Printing.{Prints}
use Rattle.tox_check.specs.forecast.Counted.{numbers_from}
use Rattle.tox_check.specs.forecast.ForecastText.{link_text}
use Rattle.tox_check.specs.forecast.Tallied.{IsTallied}
use Rattle.tox_check.proofs.forecast.proxy_forecast.Forecast.print_links.Given as goal

abbrev pub invariant-loop-before : goal.invariant-loop-before
invariant-loop-before g l = record {
  passed : Prints g.W.Sink (Ok tt) l.fn.printer l.printer
      (flat_map (link_text l.question l.self.proxy.now l.script) (take l.before (numbers_from 1 l.question.links)));
  long : length l.tallies ≡ length l.script.rules;
  tallied : IsTallied l.self.proxy.now l.script l.question.seed l.before l.tallies;
}
