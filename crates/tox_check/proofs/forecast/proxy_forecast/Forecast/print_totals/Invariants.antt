-- The totals of the first rules have passed.
use Rattle.std.proofs.Common.{Ok, Some, flat_map, length, take}
use Rattle.tox_script.specs.index.Numbered.{chains_numbered, order_numbered}
use Rattle.tox_text.specs.Printing.{Prints}
use Rattle.tox_check.specs.forecast.Counted.{numbers_from}
use Rattle.tox_check.specs.forecast.Totals.{rule_totals, totals_of}
use Rattle.tox_check.proofs.forecast.proxy_forecast.Forecast.print_totals.Given as goal

abbrev pub invariant-loop-rule : goal.invariant-loop-rule
invariant-loop-rule g l = Prints g.W.Sink (Ok tt) l.fn.printer l.printer
    (flat_map (λ rule. rule_totals l.self.question.now.json l.self.proxy.now rule
    (totals_of l.self.proxy.now l.script l.self.question.now.seed rule (numbers_from 1 l.self.question.now.links)) (chains_numbered (Some rule) l.script)
    (order_numbered rule l.script))
    (take l.rule (numbers_from 0 (length l.script.rules))))
