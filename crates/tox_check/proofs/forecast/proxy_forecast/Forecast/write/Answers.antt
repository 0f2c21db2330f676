use Rattle.std.proofs.Common.{rules}
use Rattle.tox_text.proofs.Printings.{Writes-finished}
use Rattle.tox_check.proofs.forecast.proxy_forecast.Forecast.write.Goals as goal

pub returns : goal.returns
returns g c =
    let written = rw c.new-printer.ensures.writer at (Writes-finished c.finish.result _ c.new-printer.ensures.empty c.in_ok-print.ensures c.finish.ensures) in
    search (rules, written)
